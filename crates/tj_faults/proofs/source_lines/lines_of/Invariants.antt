use Rattle.std.proofs.Common.{◌≡◌, ◌++◌, length, map}
use Rattle.tj_faults.specs.Carets as spec
use Rattle.tj_faults.proofs.source_lines.lines_of.Given as goal

-- the lines so far and those of what is left are the text's
abbrev pub invariant-loop-line : goal.invariant-loop-line
invariant-loop-line l =
    map (λ x. x.now) l.lines.items ++ spec.lines_of l.rest ≡ spec.lines_of l.text

abbrev pub decreases-loop-line : goal.decreases-loop-line
decreases-loop-line l = length l.rest
