-- The record of a task at its start, by what the task holds and owns.
use Rattle.std.specs.Prelude.{false, List, [], None}
use Rattle.tj_base.specs.declared.cell.CellId.{CellId}
use Rattle.tj_body.specs.declared.ask.Answer.TheVariants as answer
use Rattle.tj_record.specs.declared.record.Held.{Held}
use Rattle.tj_record.specs.TaskRecords.{TaskRecord}
pub use Rattle.tj_record.specs.TaskRecords.{own}

-- the record of a task at its start that holds and owns these
abbrev pub start_record : {B : Type 0} → CellId → B → List Held → List CellId → TaskRecord B
start_record c b held owned = record {
  cell = c;
  body = b;
  answer = answer.Start;
  held = held;
  owned = owned;
  made = 0;
  prints = [];
  owed = [];
  finish = None;
  spare = false;
}
