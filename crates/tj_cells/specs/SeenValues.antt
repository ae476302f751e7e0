-- What a load of the value of a cell tells.
use Rattle.std.specs.Prelude.{◌≡◌, ℕ, suc, Bool, List, [], ◌∷◌, ◌++◌, Option, Some, None}
use Rattle.tj_base.specs.ForkOrder.{Name}
use Rattle.tj_body.specs.History.{to_task, to_promise}
use Rattle.tj_body.specs.Points.{Begins}
use Rattle.tj_body.specs.Programs.{Program}
use Rattle.tj_body.specs.declared.point.Reference.{Reference}
use Rattle.tj_body.specs.declared.point.Value.TheVariants as value
use Rattle.tj_body.specs.declared.point.Entry.{Entry}
use Rattle.tj_body.specs.declared.point.Entry.TheVariants as entry
use Rattle.tj_record.specs.declared.record.Fill.{Fill}
use Rattle.tj_record.specs.declared.record.Fill.TheVariants as fill
use Rattle.tj_words.specs.declared.view.Filled.{Filled}
use Rattle.tj_words.specs.declared.view.View.{View}
use Rattle.tj_words.specs.Words.Lists.{All}
use Rattle.tj_words.specs.LawParts.TreeWords.{IsCell, AreCells}
use Rattle.tj_words.specs.SeatViews.SeenWords.{WillHave}
use Rattle.tj_cells.specs.declared.seen.Seen.{Seen}
use Rattle.tj_cells.specs.declared.seen.Seen.TheVariants as seen

-- what was seen says what has become of a cell
abbrev pub SeenSays : List Reference → Seen → Entry → Type 0
SeenSays born (seen.Num i) e = e ≡ entry.Value (value.Num i)
SeenSays born (seen.Promise c) e = (q : Name) × IsCell born c.0 (to_promise q)
    × (e ≡ entry.Value (value.Ref (to_promise q)))
SeenSays born (seen.Task c) e = (q : Name) × IsCell born c.0 (to_task q) × (e ≡ entry.Value (value.Ref (to_task q)))
SeenSays born seen.Broken e = e ≡ entry.Broken
SeenSays born seen.NotYet e = ⊥

-- what was seen where the words stand for this
abbrev pub seen_in : Option Fill → Seen
seen_in (Some (fill.Num i)) = seen.Num i
seen_in (Some (fill.Promise c)) = seen.Promise c
seen_in (Some (fill.Task c)) = seen.Task c
seen_in None = seen.Broken

-- the cell that it names
abbrev pub cells_seen : Seen → List ℕ
cells_seen (seen.Num i) = []
cells_seen (seen.Promise c) = c.0 ∷ []
cells_seen (seen.Task c) = c.0 ∷ []
cells_seen seen.Broken = []
cells_seen seen.NotYet = []

module _ {B : Type 0} where
  -- the seat knows the cell, what has become of it, and the cell that this names
  abbrev pub saw_value : ℕ → Entry → List ℕ → List Reference → View B → View B
  saw_value p e named born v = record v {
    steps = suc (suc v.steps);
    once_loads = suc (suc v.once_loads);
    born = born;
    known = named ++ (p ∷ v.known);
    filled = record { cell = p; entry = e } ∷ v.filled;
  }

  -- the value for good: what becomes of the cell in some round, as the seat knew where it knew
  pub record SeesValue (program : Bool → B → Program B) (cells p : ℕ) (s : Seen) (v w : View B) : Type 0 where
    pub entry : Entry
    pub born : List Reference
    pub reference : Reference
    pub begins : Begins v.born born
    pub all : AreCells cells born
    pub is : IsCell born p reference
    pub becomes : WillHave program v reference.name entry
    pub same : All (λ (f : Filled). f.cell ≡ p → f.entry ≡ entry) v.filled
    pub says : SeenSays born s entry
    pub view : w ≡ saw_value p entry (cells_seen s) born v
