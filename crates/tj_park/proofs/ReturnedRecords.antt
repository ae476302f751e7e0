-- The record that a parked task comes back with is the one that was passed.
use Rattle.tj_park.proofs.Prelude.{Bool, None, Option, Program, Rec, SeatMe, SlotsOf, Some, View, Way, [], ap}
use Rattle.tj_park.proofs.Prelude.{one_some, parked_phase, refl, rest, sym, ℕ, ◌∙◌, ◌∷◌, ◌≡◌}
use Rattle.std.proofs.Common.{List}
use Rattle.tj_words.specs.Calls.ExchangeViews.{Swaps}
use Rattle.tj_words.specs.Calls.LiveViews.{homed}
use Rattle.tj_words.specs.Calls.WaitViews.{parked}
use Rattle.tj_words.specs.LawParts.PushedRecords.{put_last}
use Rattle.tj_words.proofs.Waiters.PushedRecords.{last_here}
use Rattle.tj_words.specs.declared.phase.Phase.TheVariants as phase

module _ {B : Type 0} where
  -- what lies in the slot that the seat took last
  abbrev first_in : SlotsOf B → Option (Rec B)
  first_in [] = None
  first_in (s ∷ slots) = s.1

  module _ {t q : ℕ} {way : Way} {v : View B} {l : SlotsOf B} {r : Rec B} {m1 m2 : SeatMe B} {put : List (Rec B)}
    where
      -- the record was put into the slot, Parked was stored, and no record was put home since
      pub went_home : m1 ≡ (v, (t, Some r) ∷ l) → m2 ≡ (homed m1.1 (parked t q way m1.0), rest m1.1)
          → put ≡ m2.0.put_home → put ≡ r ∷ v.put_home
      went_home laid stored same = same ∙ ap (λ (z : SeatMe B). z.0.put_home)
          (stored ∙ ap (λ (z : SeatMe B). (homed z.1 (parked t q way z.0), rest z.1)) laid)

  module _ {program : Bool → B → Program B} {t q : ℕ} (way : Way) {m m' : SeatMe B} {o : Option (Rec B)} where
    -- so it is what lies in the slot that the exchange took
    pub returned : Swaps program t (parked_phase q way) phase.Running m m' → m'.1 ≡ (t, o) ∷ rest m'.1
        → {r rec : Rec B} → o ≡ Some r → (put : List (Rec B)) → m.0.put_home ≡ rec ∷ put → rec.cell.0 ≡ t → r ≡ rec
    returned s found {r} {rec} is put home its = one_some r rec
        (sym is ∙ (ap first_in (sym found ∙ s.as_put q way refl refl)
        ∙ (ap (λ z. put_last z t) home ∙ last_here rec put t its)))
