-- What a seat knows and has to do after a call of this crate.
use Rattle.tj_cells.proofs.Prelude.{Begins, Entry, IsIn, IsMade, KnowsMore, List, Reference, Sort, View, [], became}
use Rattle.tj_cells.proofs.Prelude.{begins_self, inr, refl, saw_value, subst, sym, ℕ, ◌∷◌}
use Rattle.tj_body.proofs.Lists.{in_right}
use Rattle.tj_words.proofs.SeatLoads.KnowsMoreOn.{more_on}
use Rattle.tj_words.specs.SeatViews.KnowsMore.{HasSameWakes, HasSameHand, HasSameCounts}
use Rattle.tj_words.specs.SeatViews.Views.{saw_entry}
use Rattle.tj_words.specs.declared.view.Filled.{Filled}
use Rattle.tj_cells.proofs.SameViews.{more_in_front}

module _ {B : Type 0} where
  -- a cell was made
  module _ (o : Sort) (cells t c : ℕ) (v w : View B) (m : IsMade o cells t c v w) where
    pub made_more : KnowsMore v w
    made_more = subst (KnowsMore v) (sym m.rest) (record {
      about = refl;
      lot = refl;
      born = m.begins;
      known = λ x i. subst (IsIn x) (sym m.known) (inr i);
      wrote = λ x i. i;
      filled = λ x i. i;
      seen = λ x i. subst (IsIn x) (sym m.seen) (in_right x m.more v.seen i);
      closed = λ x i. i;
      rested = λ e. e;
      notes = ([], refl);
    })

    pub made_wakes : HasSameWakes v w
    made_wakes = subst (HasSameWakes v) (sym m.rest) (record { pushes = refl; shuts = refl; rest = refl })

    pub made_hand : HasSameHand v w
    made_hand = subst (HasSameHand v) (sym m.rest) (record { hand = refl; dues = refl })

    pub made_counts : HasSameCounts v w
    made_counts = subst (HasSameCounts v) (sym m.rest) (record { tokens = refl; cleared = refl; refused = refl })

  -- a cell was filled, or broken
  pub became_more : (t p : ℕ) (e : Entry) (v : View B) → KnowsMore v (became t p e v)
  became_more t p e v = let f : Filled = record { cell = p; entry = e } in
      more_in_front v (became t p e v) [] (f ∷ []) (f ∷ []) [] [] (begins_self v.born) ([], refl)

  -- a value was read
  pub value_more : (p : ℕ) (e : Entry) (named : List ℕ) (born : List Reference) (v : View B) → Begins v.born born
      → KnowsMore v (saw_value p e named born v)
  value_more p e named born v b = let u = saw_entry p e born v in more_on v u (saw_value p e named born v)
      (more_in_front v u (p ∷ []) [] (record { cell = p; entry = e } ∷ []) [] [] b ([], refl))
      (more_in_front u (saw_value p e named born v) named [] [] [] [] (begins_self born) ([], refl))
