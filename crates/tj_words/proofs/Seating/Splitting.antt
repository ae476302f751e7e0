-- A split keeps the rule of the table.
use Rattle.tj_words.proofs.Prelude.{Bool, IsSeat, IsSpent, Key, List, Option, Program, Rec, Rule, SeatsHave, State}
use Rattle.tj_words.proofs.Prelude.{View, [], all_lots, ap, arith, at_map, contents_of, get_elem?, inl, inr, least_lot}
use Rattle.tj_words.proofs.Prelude.{left_half, refl, right_half, seats_have, set, some, some-injective, some-ne-none}
use Rattle.tj_words.proofs.Prelude.{suc, sym, total, zero, ℕ, ⊎_elim, ◌++◌, ◌+◌, ◌-◌, ◌∙◌, ◌∷◌, ◌≡◌}
use Rattle.atomic_table.specs.Table.{Splits}
use Rattle.tj_words.specs.SeatViews.Views.{MaySplit}
use Rattle.tj_words.proofs.Stores.SeatLists.{each_set, each_snoc}
use Rattle.tj_words.proofs.Stores.SeatContents.{seats_set, seats_same, rule_views}
use Rattle.tj_words.proofs.SeatLoads.LoadSteps.{knows_so}
use Rattle.tj_words.proofs.Seating.Appending.{total_snoc, law_appends, idle_backing, unused_lot, seats_snoc, snoc_seats}

-- a sum, where one number changes
pub total_set : (l : List ℕ) (i a b : ℕ) → get_elem? l i ≡ some a → total (set l i b) + a ≡ total l + b
total_set [] i a b e = absurd (some-ne-none a (sym e))
total_set (x ∷ xs) zero a b e = let q : x ≡ a = some-injective x a e in omega arith
total_set (x ∷ xs) (suc i) a b e = let h = total_set xs i a b e in omega arith

module _ {B : Type 0} where
  -- both halves are seats
  left_seat : (key : Key B) (v : View B) → MaySplit v → IsSeat key v → IsSeat key (left_half v)
  left_seat key v m h = let l = m.lot in record {
    about = h.about;
    named = h.named;
    within_lot =
        record { least = inr (omega arith); refused_fit = m.refused; tokens_fit = m.tokens; cleared_fit = m.cleared };
    backing = h.backing;
    known_born = h.known_born;
  }

  right_seat : (key : Key B) (v : View B) → IsSeat key v → IsSeat key (right_half v)
  right_seat key v h = record {
    about = h.about;
    named = ⊎_elim (λ (q : IsSpent v). inl (q.0, refl)) (λ q. inr q) h.named;
    within_lot = unused_lot (inr (omega arith));
    backing = idle_backing;
    known_born = h.known_born;
  }

  -- what the seats have then
  pub halves : (views : List (View B)) (id : ℕ) (v : View B) → get_elem? views id ≡ some v
      → seats_have (set views id (left_half v) ++ right_half v ∷ [])
      ≡ record (snoc_seats (seats_have views) (right_half v)) {
        lots = set (seats_have views).lots id (v.lot - least_lot) ++ least_lot ∷ [];
      }
  halves views id v at = seats_snoc (set views id (left_half v)) (right_half v)
      ∙ ap (λ x. snoc_seats x (right_half v)) (seats_set views id (left_half v)
      ∙ ap (λ (x : SeatsHave B). record x { lots = set (seats_have views).lots id (v.lot - least_lot) })
      (seats_same views id v at))

  module _ (program : Bool → B → Program B) (key : Key B) (id : ℕ) (v : View B) (m : MaySplit v)
      (s : State (Option (Rec B)) (View B)) (r : Rule program key s) (at : get_elem? s.views id ≡ some v) where
    abbrev old : SeatsHave B
    old = seats_have s.views

    abbrev lots : List ℕ
    lots = set old.lots id (v.lot - least_lot) ++ least_lot ∷ []

    all : total lots ≡ all_lots
    all = let t = total_set old.lots id v.lot (v.lot - least_lot) (at_map (λ (u : View B). u.lot) s.views id v at) in
        let e = total_snoc (set old.lots id (v.lot - least_lot)) least_lot in let a = r.law.lots.all in
        let l = m.lot in omega arith

    rule_cut : Rule program key
        record { words = s.words; homes = s.homes; views = set s.views id (left_half v) ++ right_half v ∷ [] }
    rule_cut = rule_views r (set s.views id (left_half v) ++ right_half v ∷ []) _ (halves s.views id v at)
        (each_snoc _ (set s.views id (left_half v)) (right_half v)
        (each_set _ s.views id (left_half v) r.seats (left_seat key v m (r.seats id v at)))
        (λ j. right_seat key v (r.seats id v at)))
        (each_snoc _ (set s.views id (left_half v)) (right_half v)
        (each_set _ s.views id (left_half v) r.pushed (r.pushed id v at)) (λ j e i. absurd i))
        (law_appends (program key.strict key.root.value) key.cells (contents_of s) r.law lots all v
        (knows_so program key s r id v at))

  -- a split keeps the rule
  pub rule_splits : (program : Bool → B → Program B) (key : Key B) (id : ℕ) (v : View B) → MaySplit v
      → Splits (Rule program key) id v (left_half v) (right_half v)
  rule_splits program key id v m s r at = rule_cut program key id v m s r at
