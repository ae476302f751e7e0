use Rattle.std.proofs.Common.{◌≡◌, ◌<◌, length}
use Rattle.tj_base.specs.Texts.{name_text}
use Rattle.tj_body.specs.Points.{Begins}
use Rattle.tj_report.specs.Inner.CellNamesBy.{name_by}
use Rattle.tj_report.proofs.fork_walk.next_task.Given as goal

-- the text is the name of this maker of the task, or of the task itself
abbrev pub invariant-loop-at : goal.invariant-loop-at
invariant-loop-at g l = (l.at < length l.rest.cells) × (l.name.items ≡ name_text (name_by l.rest.cells l.at))
    × Begins (name_by l.rest.cells l.at) (name_by l.rest.cells l.t)

abbrev pub decreases-loop-at : goal.decreases-loop-at
decreases-loop-at g l = l.at
