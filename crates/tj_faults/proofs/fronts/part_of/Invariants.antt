use Rattle.std.proofs.Common.{◌≡◌, length}
use Rattle.tj_faults.specs.Fronts.{part_from}
use Rattle.tj_faults.proofs.fronts.part_of.Given as goal

-- the part of what is left, with the part so far, is that of the whole
abbrev pub invariant-loop-rest : goal.invariant-loop-rest
invariant-loop-rest l = part_from l.part l.rest ≡ part_from l.tokens l.tokens

abbrev pub decreases-loop-rest : goal.decreases-loop-rest
decreases-loop-rest l = length l.rest
