-- What a call that takes a record asks of it and of the seat, and what a seat knows of a record that it is given.
use Rattle.std.specs.Prelude.{◌≡◌, ℕ, ◌<◌, Bool, [], Some, None}
use Rattle.tj_body.specs.Points.{IsIn}
use Rattle.tj_body.specs.Programs.{Program}
use Rattle.tj_record.specs.declared.record.Rec.{Rec}
use Rattle.tj_words.specs.declared.view.About.{About}
use Rattle.tj_words.specs.declared.view.Custody.{Custody}
use Rattle.tj_words.specs.declared.view.View.{View}
use Rattle.tj_words.specs.LawParts.Holding.{held_in}
use Rattle.tj_words.specs.Words.Lists.{All, AreApart, numbers}
use Rattle.tj_words.specs.LawParts.LiveCount.{HasAlarmed, Holds}
use Rattle.tj_words.specs.Calls.LiveViews.{IfRecord, SlotsOf}
use Rattle.tj_words.specs.LawParts.NamedCells.{record_cells}
use Rattle.tj_words.specs.Calls.PutRecords.{TellsPoint}
use Rattle.tj_words.specs.Calls.TakenRecords.{IsKnownRecord, custody_of}
use Rattle.tj_words.specs.LawParts.TreeWords.{AreCells}

module _ {B : Type 0} where
  -- the record is that of task t, says what the seat has for the task, and names cells that the seat knows
  pub record HasRecord (t : ℕ) (k : Custody B) (r : Rec B) (v : View B) : Type 0 where
    pub cell : r.cell.0 ≡ t
    pub owned : numbers r.owned ≡ k.owned
    pub made : r.made ≡ k.made
    pub knows : All (λ c. IsIn c v.known) (record_cells r)

  -- such a record may go home before its task ends: it tells a point of the program
  pub record MayGoHome (program : Bool → B → Program B) (t : ℕ) (k : Custody B) (r : Rec B) (v : View B) : Type 0
    where
      pub has : HasRecord t k r v
      pub told : TellsPoint program v r
      pub unfinished : r.finish ≡ None

  -- no cell is in hand, no word is due, and no chain of waiters is to be changed
  pub record HasNothingToCome (v : View B) : Type 0 where
    pub hand : v.hand ≡ None
    pub dues : v.dues ≡ []
    pub pushes : v.pushes ≡ []
    pub shuts : v.shuts ≡ []
    pub rest : v.rest ≡ None

  -- where the seat holds a task that has alarmed, it has more tokens than this
  abbrev pub AlarmsLeave : ℕ → View B → Type 0
  AlarmsLeave n v = Holds HasAlarmed v → n < v.tokens

  -- no record lies in the slot that the seat took last
  abbrev pub HasNoRecord : SlotsOf B → Type 0
  HasNoRecord slots = IfRecord (λ t r. ⊥) slots

  -- the seat holds task t, which runs, and has been given its record, which tells a point from which the task goes on:
  -- it is to be given Start, or has waited for a cell of which the seat knows what has become; each cell that it owns
  -- stands in it once, and the cells of which the seat knows are of different names
  pub record HasTaken (program : Bool → B → Program B) (t : ℕ) (r : Rec B) (v : View B) : Type 0 where
    pub held : held_in v.tasks t ≡ Some (custody_of r)
    pub has : HasRecord t (custody_of r) r v
    pub unfinished : r.finish ≡ None
    pub owns_result : IsIn t (numbers r.owned)
    pub owned_apart : AreApart (numbers r.owned)
    pub all : (a : About B) → v.about ≡ Some a → AreCells a.cells v.born
    pub known : (a : About B) → v.about ≡ Some a
        → IsKnownRecord (program a.strict a.root) v.born v.filled r
