-- The meaning that a seat's view names is full: what STOP tells.
use Rattle.std.specs.Prelude.{◌≡◌, ◌≢◌, ℕ, ◌≤◌, Bool, Some}
use Rattle.tj_body.specs.Points.{IsIn}
use Rattle.tj_body.specs.Programs.{Program}
use Rattle.tj_body.specs.Rounds.{IsFull}
use Rattle.tj_words.specs.declared.view.About.{About}
use Rattle.tj_words.specs.declared.view.Noted.TheVariants as note
use Rattle.tj_words.specs.declared.view.View.{View}
use Rattle.tj_words.specs.SeatViews.SeatSteps.{IsOn, Tells}
use Rattle.tj_words.specs.SeatViews.Views.{saw_stop}

module _ {B : Type 0} (program : Bool → B → Program B) where
  -- the program that the view names needs more cells than the view says there are
  abbrev pub NamesFull : View B → Type 0
  NamesFull v = (a : About B) → v.about ≡ Some a → IsFull (program a.strict a.root) a.cells

  -- the load of STOP, which the seat notes: it is 1 only where the meaning is full, and not 0 where the seat has stored
  -- something there
  abbrev pub stop_load : Tells B
  stop_load st m n m' = (m'.1 ≡ m.1) × (m'.0 ≡ saw_stop n m.0) × (n ≤ 2) × (n ≡ 1 → NamesFull m.0)
      × ((k : ℕ) → IsIn k m.0.stored → n ≢ 0)
      × IsOn note.Stop st
