-- A step of a seat on one word, with what it does with the slots.
use Rattle.std.specs.Prelude.{◌≡◌, ℕ, ◌<◌, length, Option}
use mathlib.Core.Option.{some}
use lib.ListN.{get_elem?}
use Rattle.atomic_table.specs.Table.{State, Act, Valid, carried_after, stepped}
use Rattle.tj_record.specs.declared.record.Rec.{Rec}
use Rattle.tj_words.specs.declared.view.View.{View}
use Rattle.tj_words.specs.SeatViews.SeatSteps.{SeatMe}

module _ {B : Type 0} where
  -- seat id, which was m, stores n at word i, does this with the slots, and is m' from then on
  pub record MakesWith (a : Act (Option (Rec B))) (id i n : ℕ) (m m' : SeatMe B)
      (s t : State (Option (Rec B)) (View B)) : Type 0 where
    pub at : get_elem? s.views id ≡ some m.0
    pub inside : i < length s.words
    pub may : Valid s.homes m.1 a
    pub after : t ≡ stepped s i n id m.1 m'.0 a
    pub slots : m'.1 ≡ carried_after m.1 a
