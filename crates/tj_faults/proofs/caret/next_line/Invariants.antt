use Rattle.std.proofs.Common.{◌≡◌, length}
use Rattle.tj_faults.specs.Carets.{next_line}
use Rattle.tj_faults.proofs.caret.next_line.Given as goal

-- the next line begins where that of what is left does
abbrev pub invariant-loop-rest : goal.invariant-loop-rest
invariant-loop-rest l = next_line l.rest ≡ next_line l.text

abbrev pub decreases-loop-rest : goal.decreases-loop-rest
decreases-loop-rest l = length l.rest
