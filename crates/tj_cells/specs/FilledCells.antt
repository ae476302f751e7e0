-- What the filling and the breaking of a cell need of the view of a seat, and what they make of it.
use Rattle.std.specs.Prelude.{◌≡◌, ℕ, suc, Bool, List, [], ◌∷◌, Some}
use Rattle.tj_body.specs.Points.{IsIn}
use Rattle.tj_body.specs.Programs.{Program}
use Rattle.tj_body.specs.declared.point.Value.{Value}
use Rattle.tj_body.specs.declared.point.Entry.{Entry}
use Rattle.tj_body.specs.declared.point.Entry.TheVariants as entry
use Rattle.tj_words.specs.declared.offsets.Once.TheVariants as once
use Rattle.tj_record.specs.declared.record.Fill.{Fill}
use Rattle.tj_record.specs.declared.record.Fill.TheVariants as fill
use Rattle.tj_words.specs.declared.view.About.{About}
use Rattle.tj_words.specs.declared.view.View.{View}
use Rattle.tj_words.specs.Words.Lists.{All}
use Rattle.tj_words.specs.LawParts.Telling.{FillSays}
use Rattle.tj_words.specs.SeatViews.KnownEntries.{IsToBecome}
use Rattle.tj_words.specs.SeatViews.TaskLists.{noted}
use Rattle.tj_words.specs.Calls.DrawViews.{without_due}
use Rattle.tj_words.specs.Calls.OwnerViews.{MayClose, gave_up}

-- the cell that a value names
abbrev pub cells_named : Fill → List ℕ
cells_named (fill.Num i) = []
cells_named (fill.Promise c) = c.0 ∷ []
cells_named (fill.Task c) = c.0 ∷ []

module _ {B : Type 0} where
  -- t may close p
  abbrev pub MayGiveUp : ℕ → ℕ → View B → Type 0
  MayGiveUp t p v = (m : MayClose p v) × (m.task ≡ t)

  -- this becomes of the cell in some round of the program of the seat's table
  pub record WillBecome (program : Bool → B → Program B) (p : ℕ) (e : Entry) (v : View B) : Type 0 where
    pub about : About B
    pub is_about : v.about ≡ Some about
    pub becomes : IsToBecome (program about.strict about.root) v.born p e

  -- the value is that of the cell, which the seat knows to be there where it names one
  pub record MayFill (program : Bool → B → Program B) (p : ℕ) (f : Fill) (v : View B) : Type 0 where
    pub value : Value
    pub says : FillSays v.born f value
    pub will : WillBecome program p (entry.Value value) v
    pub knows : All (λ c. IsIn c v.known) (cells_named f)

  -- t has closed p, of which this has become, and whose head is to be shut
  abbrev pub became : ℕ → ℕ → Entry → View B → View B
  became t p e v = record v {
    steps = suc (suc (suc v.steps));
    tasks = noted t (gave_up p) v.tasks;
    dues = without_due p once.Tag (without_due p once.Bits v.dues);
    wrote = record { cell = p; entry = e } ∷ v.wrote;
    filled = record { cell = p; entry = e } ∷ v.filled;
    shuts = p ∷ v.shuts;
  }

  -- p has the value
  abbrev pub IsFilledWith : ℕ → ℕ → Fill → View B → View B → Type 0
  IsFilledWith t p f v w = (x : Value) → FillSays v.born f x → w ≡ became t p (entry.Value x) v
