use Rattle.std.proofs.Common.{◌≡◌}
use Rattle.tj_faults.specs.Carets.{behind_lines}
use Rattle.tj_faults.proofs.caret.behind_lines.Given as goal

-- what is left of the lines stands in front of the same
abbrev pub invariant-loop-left : goal.invariant-loop-left
invariant-loop-left l = behind_lines l.left l.rest ≡ behind_lines l.count l.text

abbrev pub decreases-loop-left : goal.decreases-loop-left
decreases-loop-left l = l.left
