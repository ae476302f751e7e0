-- What the seat of a worker has between its turns.
use Rattle.std.specs.Prelude.{◌≡◌, ◌≤◌, Bool, [], Some}
use Rattle.tj_body.specs.Programs.{Program}
use Rattle.tj_words.specs.declared.table.Laid.{Laid}
use Rattle.tj_words.specs.declared.view.About.{About}
use Rattle.tj_words.specs.declared.view.View.{View}
use Rattle.tj_words.specs.LawParts.Lots.{least_lot}
use Rattle.tj_words.specs.SeatViews.SeatSteps.{SeatMe}
use Rattle.tj_words.specs.LawParts.TreeWords.{AreCells}
use Rattle.tj_park.specs.Records.{HasNothingToCome}

module _ {B : Type 0} where
  -- what the table was made with
  abbrev pub about_table : Laid B → About B
  about_table laid = record { root = laid.root.value; cells = laid.cells; strict = laid.strict }

  -- the program that runs on the table
  abbrev pub table_program : (Bool → B → Program B) → Laid B → Program B
  table_program program laid = program laid.strict laid.root.value

  -- the view of a worker's seat between two calls: it is of this table and has a lot, no draw of it was refused, it has
  -- no token and nothing to come, and the cells that it knows of are cells of the table
  pub record IsWorkers (laid : Laid B) (v : View B) : Type 0 where
    pub of_table : v.about ≡ Some (about_table laid)
    pub lot : least_lot ≤ v.lot
    pub refused : v.refused ≡ 0
    pub tokens : v.tokens ≡ 0
    pub cleared : v.cleared ≡ 0
    pub nothing : HasNothingToCome v
    pub cells : AreCells laid.cells v.born

  -- between its turns a worker has no task
  pub record IsFree (laid : Laid B) (me : SeatMe B) : Type 0 where
    pub worker : IsWorkers laid me.0
    pub tasks : me.0.tasks ≡ []
    pub slots : me.1 ≡ []
