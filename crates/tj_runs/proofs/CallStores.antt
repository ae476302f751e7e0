-- What each call stores: what stands there, or what a call on that word may store. So a word stays as it is, or the
-- call is on it and is one that may store this there.
use Rattle.tj_words.proofs.Prelude.{Bool, IsCallStep, IsTableStep, List, MayPutOnce, MayPutOwner, Option, Program}
use Rattle.tj_words.proofs.Prelude.{SeatMe, State, Step, StepCall, ap, count_at, dite, head_at, inl, inr, length}
use Rattle.tj_words.proofs.Prelude.{owner_in, place_of, refl, set, shut_word, subst, suc, sym, told_by, word, ℕ}
use Rattle.tj_words.proofs.Prelude.{ℕ_discrete, ⊎_elim, ◌<◌, ◌∙◌, ◌≡◌, ◌⊎◌}
use Rattle.tj_record.specs.declared.record.Rec.{Rec}
use Rattle.tj_words.specs.declared.table.Key.{Key}
use Rattle.tj_words.specs.declared.view.View.{View}
use Rattle.tj_words.proofs.Stores.TableWords.{TableWord, index, same_word_at}
use Rattle.tj_words.proofs.Stores.SeatLists.{word_else, word_here, words_same}
use Rattle.tj_words.specs.CallLaws.StepCalls as call
use Rattle.tj_words.proofs.Stores.TableWords as table_word

module _ {B : Type 0} (program : Bool → B → Program B) (cells : ℕ) (ws : List ℕ) where
  module _ (a : StepCall) (st : Step (Option (Rec B))) (v : View B) (n : ℕ) where
    -- what has to be so where a call stores n into this word, by a seat with the view v; of PHASE, NEXT, LIVE, OTHERS
    -- and STOP nothing is said
    abbrev pub MayStore : TableWord → Type 0
    MayStore table_word.Count = n ≡ suc (word ws count_at)
    MayStore (table_word.Written c f) = MayPutOnce program f c st.first v
    MayStore (table_word.Own c) = (n ≡ st.first) × MayPutOwner c (owner_in st.first) v
    MayStore (table_word.Head p) = (n ≡ shut_word) ⊎ ((a ≡ call.pushes p) × (word ws (head_at p) ≡ st.first))
    MayStore w = Unit {0}

    -- a call stores what stands there, or what it may store into its word
    abbrev Stored : Type 0
    Stored = (n ≡ word ws (place_of a)) ⊎ ((x : TableWord) × (place_of a ≡ index x) × MayStore x)

    -- a word after this is stored
    abbrev now : TableWord → ℕ
    now x = word (set ws (place_of a) n) (index x)

    -- a word stays, or this is stored there
    stays : place_of a < length ws → Stored → (x : TableWord) → (now x ≡ word ws (index x))
        ⊎ ((now x ≡ n) × MayStore x)
    stays l (inl e) x = inl (ap (λ k. word (set ws (place_of a) k) (index x)) e
        ∙ ap (λ l. word l (index x)) (words_same ws (place_of a)))
    stays l (inr (w, at, may)) x = dite (ℕ_discrete (index x) (index w))
        (λ e. inr (
          ap (word (set ws (place_of a) n)) (e ∙ sym at) ∙ word_here ws (place_of a) n l,
          subst MayStore (sym (same_word_at w x e)) may,
        ))
        (λ e. inl (word_else ws (place_of a) (index x) n (λ z. e (z ∙ at))))

  stored : (a : StepCall) (n : ℕ) (st : Step (Option (Rec B))) (m m' : SeatMe B)
      → told_by program cells a n st m (word ws (place_of a)) m' → Stored a st m.0 n
  stored (call.draws t o) n st m m' h = inr (table_word.Count, refl, h.0)
  stored (call.puts_once c f) n st m m' h = inr (table_word.Written c f, refl, h.1.0)
  stored (call.puts_owner c) n st m m' h = inr (table_word.Own c, refl, (h.0, h.1.0))
  stored (call.puts_phase t) n st m m' h = inr (table_word.Phase t, refl, tt)
  stored (call.swaps_phase t) n st m m' h = inr (table_word.Phase t, refl, tt)
  stored (call.raises_others t) n st m m' h = inr (table_word.Others, refl, tt)
  stored call.lowers_others n st m m' h = inr (table_word.Others, refl, tt)
  stored call.raises_live n st m m' h = inr (table_word.Live, refl, tt)
  stored call.lowers_live n st m m' h = inr (table_word.Live, refl, tt)
  stored call.stops n st m m' h = inr (table_word.Stop, refl, tt)
  stored (call.pushes p) n st m m' h = dite (ℕ_discrete (word ws (head_at p)) st.first)
      (λ e. inr (table_word.Head p, refl, inr (refl, e)))
      (λ e. inl (h.1 e))
  stored (call.shuts p) n st m m' h = inr (table_word.Head p, refl, inl h.0)
  stored (call.puts_next t) n st m m' h = inr (table_word.Next t, refl, tt)
  stored call.counts n st m m' h = inl h.0
  stored a n st m m' h = inl h.0

  -- so each word stays after a call, or the call is one that may store this there
  stays_or : (a : StepCall) (n : ℕ) (st : Step (Option (Rec B))) (m m' : SeatMe B) → place_of a < length ws
      → told_by program cells a n st m (word ws (place_of a)) m' → (x : TableWord)
      → (now a st m.0 n x ≡ word ws (index x)) ⊎ ((now a st m.0 n x ≡ n) × MayStore a st m.0 n x)
  stays_or a n st m m' l h = stays a st m.0 n l (stored a n st m m' h)

module _ {B : Type 0} (program : Bool → B → Program B) (key : Key B) (s t : State (Option (Rec B)) (View B)) where
  -- the step is a call that may store what stands in the word after it
  abbrev pub IsStoredBy : IsTableStep program key s t → TableWord → Type 0
  IsStoredBy a x = (k : IsCallStep program key s t) × (a ≡ inl k) × (word t.words (index x) ≡ k.number)
      × MayStore program key.cells s.words k.call k.operands k.seat.0 k.number x

  -- so it is of each step: a split and a merge leave the words
  pub step_stays : (a : IsTableStep program key s t) (x : TableWord)
      → (word t.words (index x) ≡ word s.words (index x)) ⊎ IsStoredBy a x
  step_stays (inl k) x =
      let after = ap (λ (z : State (Option (Rec B)) (View B)). word z.words (index x)) k.makes.after in
      ⊎_elim (λ e. inl (after ∙ e)) (λ p. inr (k, refl, after ∙ p.0, p.1))
      (stays_or program key.cells s.words k.call k.number k.operands k.seat k.seat_after k.makes.inside k.told x)
  step_stays (inr (inl p)) x = inl (ap (λ (z : State (Option (Rec B)) (View B)). word z.words (index x)) p.after)
  step_stays (inr (inr p)) x = inl (ap (λ (z : State (Option (Rec B)) (View B)). word z.words (index x)) p.after)
