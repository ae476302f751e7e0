use Rattle.std.proofs.Common.{◌≡◌, ◌++◌, drop}
use Rattle.tj_known.specs.Inner.Marks.{marked_lines}
use Rattle.tj_known.proofs.joins.add_joins.Given as goal

-- the lines so far, and those of the acts that are left
abbrev pub invariant-loop-at : goal.invariant-loop-at
invariant-loop-at l =
    l.list ++ marked_lines l.line.name (drop l.at l.line.acts) (drop l.at l.marks)
    ≡ l.initial.list ++ marked_lines l.line.name l.line.acts l.marks
