-- The record of a task that a seat takes out of its slot: what the seat has for the task from then on, and what it
-- knows of the record.
use Rattle.std.specs.Prelude.{◌≡◌, ◌⊎◌, ℕ, ◌<◌, List, ◌∷◌, ◌++◌, length, Bool, None, Some}
use Rattle.tj_body.specs.History.{reference}
use Rattle.tj_body.specs.Points.{IsIn, Begins}
use Rattle.tj_body.specs.Programs.{Program}
use Rattle.tj_body.specs.declared.ask.Answer.TheVariants as answer
use Rattle.tj_body.specs.declared.point.Entry.{Entry}
use Rattle.tj_body.specs.declared.point.Point.{Point}
use Rattle.tj_body.specs.declared.point.PointStage.TheVariants as stage
use Rattle.tj_body.specs.declared.point.Reference.{Reference}
use Rattle.tj_record.specs.declared.record.Rec.{Rec}
use Rattle.tj_words.specs.declared.view.About.{About}
use Rattle.tj_words.specs.declared.view.Custody.{Custody}
use Rattle.tj_words.specs.declared.view.Filled.{Filled}
use Rattle.tj_words.specs.declared.view.View.{View}
use Rattle.tj_words.specs.Words.Lists.{numbers, AreApart}
use Rattle.tj_words.specs.LawParts.NamedCells.{record_cells}
use Rattle.tj_words.specs.SeatViews.KnownEntries.{HasSeen, ToldBy}
use Rattle.tj_words.specs.Steps.QuietSteps.{does_first}
use Rattle.tj_words.specs.LawParts.RecordPhases.{WaitsFor}
use Rattle.tj_words.specs.SeatViews.TaskLists.{hold}
use Rattle.tj_words.specs.LawParts.TreeWords.{IsCell, AreCells}

module _ {B : Type 0} where
  -- what a seat has for the task of a record that it has taken
  abbrev pub custody_of : Rec B → Custody B
  custody_of r = record {
    task = r.cell.0;
    does = does_first r.answer;
    owned = numbers r.owned;
    made = r.made;
    home = None;
  }

  -- the view of a seat that has taken a record: it holds the task and knows the record's cells, what all cells are, and
  -- what has become of some more; and it says which record that was
  abbrev pub took_record : Rec B → List Reference → List Filled → View B → View B
  took_record r born more v = record v {
    tasks = hold (custody_of r) v.tasks;
    known = record_cells r ++ v.known;
    born = born;
    filled = more ++ v.filled;
    records = r ∷ v.records;
  }

  module _ (born : List Reference) (r : Rec B) (p : Point B) where
    -- the point waits for cell c, which has the record's place k
    pub record HasWaitedFor (c : ℕ) : Type 0 where
      pub place : ℕ
      pub is_answer : r.answer ≡ answer.RefAt place
      pub inside : place < length p.references
      pub waits : p.stage ≡ stage.Waits (reference p place).name r.spare
      pub is_cell : IsCell born c (reference p place)

    -- the record has waited for a cell of which something has become, as the seat knows
    pub record HasWaited (filled : List Filled) : Type 0 where
      pub cell : ℕ
      pub entry : Entry
      pub waited : WaitsFor r cell
      pub point_waits : HasWaitedFor cell
      pub known : HasSeen filled cell entry

    -- the task is to be given Start, or has waited
    abbrev pub GoesOnFrom : List Filled → Type 0
    GoesOnFrom filled = (p.stage ≡ stage.Answered answer.Start) ⊎ HasWaited filled

  -- the record tells a point of the program by what the seat knows, and how the point goes on
  pub record IsKnownRecord (program : Program B) (born : List Reference) (filled : List Filled) (r : Rec B) : Type 0
    where
      pub told : ToldBy program born filled r
      pub goes_on : GoesOnFrom born r told.point filled

  -- a seat with the view v takes this record of t: what it learns with it
  pub record TakesRecord (program : Bool → B → Program B) (t : ℕ) (v : View B) (r : Rec B) : Type 0 where
    pub born : List Reference
    pub more : List Filled
    pub begins : Begins v.born born
    pub all : (a : About B) → v.about ≡ Some a → AreCells a.cells born
    pub of_task : r.cell.0 ≡ t
    pub unfinished : r.finish ≡ None
    pub owns_result : IsIn t (numbers r.owned)
    pub owned_apart : AreApart (numbers r.owned)
    pub known : (a : About B) → v.about ≡ Some a
        → IsKnownRecord (program a.strict a.root) born (more ++ v.filled) r
