use Rattle.std.proofs.Common.{◌≡◌, [], length}
use Rattle.tj_faults.specs.Fronts.{blocks_after}
use Rattle.tj_faults.proofs.fronts.blocks_after.Given as goal

-- the blocks so far, and those of what is left
abbrev pub invariant-loop-rest : goal.invariant-loop-rest
invariant-loop-rest l = blocks_after l.opened.items l.rest ≡ blocks_after [] l.tokens

abbrev pub decreases-loop-rest : goal.decreases-loop-rest
decreases-loop-rest l = length l.rest
