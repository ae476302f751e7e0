use Rattle.std.proofs.Common.{◌≡◌, ◌++◌, take}
use Rattle.std.specs.Prelude.{codes}
use Rattle.std.specs.List.{join_by}
use Rattle.tj_base.specs.Texts.{name_text}
use Rattle.tj_report.proofs.Parts.{between}
use Rattle.tj_report.proofs.report.add_names.Given as goal

-- what stands before the next name, and the names so far
abbrev pub invariant-loop-cell : goal.invariant-loop-cell
invariant-loop-cell l =
    (l.before ≡ between (codes ", ") l.cell-index)
    × (l.text.items ≡ l.initial.text.items ++ join_by name_text (codes ", ") (take l.cell-index l.cells))
