-- What a task's state stands for.
use Rattle.tj_eval.specs.declared.state.Due.{Due}
use Rattle.tj_eval.specs.declared.state.Due.TheVariants as dues
use Rattle.tj_syntax.specs.View.{expression}
use Rattle.tj_eval.specs.Statements as state

-- what the task awaits
abbrev pub due_of : Due → state.Due
due_of dues.Start = state.start
due_of (dues.Place into) = state.place into
due_of (dues.Cell into) = state.cell into
due_of (dues.CellOr into e) = state.cell_or into (expression e.now)
due_of dues.Done = state.done
due_of dues.Over = state.over
