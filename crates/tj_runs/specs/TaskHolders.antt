-- Who holds a task at a moment, and what a step makes of it.
use Rattle.std.specs.Prelude.{◌≡◌, ◌⊎◌, ℕ, Bool, Some}
use Rattle.tj_body.specs.Programs.{Program}
use Rattle.tj_record.specs.declared.record.Rec.{Rec}
use Rattle.tj_words.specs.declared.table.Key.{Key}
use Rattle.tj_words.specs.declared.view.Custody.{Custody}
use Rattle.tj_words.specs.CallLaws.CallRuns.{IsAskedStep}
use Rattle.tj_words.specs.CallLaws.RestedRuns.{Ruled}
use Rattle.tj_words.specs.LawParts.Contents.{Contents, home_of}
use Rattle.tj_words.specs.LawParts.Holding.{held_in}
use Rattle.tj_words.specs.Words.Lists.{OfSeat}
use Rattle.tj_runs.specs.Moments.{contents_at}

module _ {B : Type 0} (x : Contents B) where
  -- seat j holds t
  abbrev pub Holds : ℕ → ℕ → Type 0
  Holds j t = OfSeat (λ ks. (k : Custody B) × (held_in ks t ≡ Some k)) x.seats.tasks j

  -- no seat holds t
  abbrev pub IsFree : ℕ → Type 0
  IsFree t = (j : ℕ) → ¬ Holds j t

  -- one seat at most holds a task
  abbrev pub HoldersAreOne : Type 0
  HoldersAreOne = (t i j : ℕ) → Holds i t → Holds j t → i ≡ j

module _ {B : Type 0} (x y : Contents B) where
  -- a seat that holds a task holds it still, or no seat does and the task's record lies at home
  abbrev pub HoldersStay : Type 0
  HoldersStay = (t j : ℕ) → Holds x j t
      → Holds y j t ⊎ (IsFree y t × ((r : Rec B) × (home_of y t ≡ Some r)))

  -- the record at home of a task that no seat holds stays as it is, or a seat has taken the task
  abbrev pub RecordsStay : Type 0
  RecordsStay = (t : ℕ) (r : Rec B) → IsFree x t → home_of x t ≡ Some r
      → (IsFree y t × (home_of y t ≡ Some r)) ⊎ ((j : ℕ) × Holds y j t)

-- at each step a task stays with its seat or lies at home, and a record at home stays until its task is taken
abbrev pub HoldersLast : Type 0 → Type 0
HoldersLast B = (program : Bool → B → Program B) (key : Key B) (u w : Ruled program key)
    → IsAskedStep program key u.now w.now
    → HoldersStay (contents_at program key u) (contents_at program key w)
    × RecordsStay (contents_at program key u) (contents_at program key w)
