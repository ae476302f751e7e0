-- What the test of an end by step calls knows of the task that is to end.
use Rattle.std.specs.Prelude.{◌≡◌, Bool, length}
use Rattle.tj_body.specs.NameLaws.{OrderedHasSame}
use Rattle.tj_body.specs.Programs.{Program}
use Rattle.tj_body.specs.RoundPoints.{WritesBecome}
use Rattle.tj_record.specs.declared.record.Fill.{Fill}
use Rattle.tj_record.specs.declared.record.Finish.TheVariants as finish
use Rattle.tj_record.specs.declared.record.Rec.{Rec}
use Rattle.tj_words.specs.declared.table.Laid.{Laid}
use Rattle.tj_words.specs.Law.{IsRooted}
use Rattle.tj_words.specs.SeatViews.SeatSteps.{SeatMe}
use Rattle.tj_run.specs.Workers.{table_program}
use Rattle.tj_run.specs.Inner.Carried.{IsClosing, RunsTask}

module _ {B : Type 0} where
  -- the seat runs the task of the record, which is to end with f and owns its result alone; what it writes becomes so in
  -- the rounds, and ordered lists of names are told by their elements
  pub record EndsAlone (program : Bool → B → Program B) (laid : Laid B) (r : Rec B) (f : Fill) (me : SeatMe B) :
      Type 0 where
    pub runs : RunsTask laid r me
    pub closing : IsClosing (table_program program laid) me.0 r (finish.Done f)
    pub alone : length r.owned ≡ 1
    pub written_by : (strict : Bool) (root : B) → IsRooted (program strict root) → WritesBecome (program strict root)
    pub ordered : OrderedHasSame
