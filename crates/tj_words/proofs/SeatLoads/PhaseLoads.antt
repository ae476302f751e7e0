-- A load of PHASE that is no event: where the task is the first of the seat's rest, the way of its wait is known then.
use Rattle.tj_words.proofs.Prelude.{Allows, Bool, Chains, FirstTold, IsFirstIn, IsSeat, Key, Law, List, None, Option}
use Rattle.tj_words.proofs.Prelude.{Phase, Program, Rec, Rest, Rule, SeatMe, SeatsHave, Some, State, View, Way, ap}
use Rattle.tj_words.proofs.Prelude.{arith, at_map, contents_of, get_elem?, inl, inr, none, parked_phase, phase_at}
use Rattle.tj_words.proofs.Prelude.{phase_in, phase_load, refl, seats_have, set, set_again, some, step, subst, sym}
use Rattle.tj_words.proofs.Prelude.{tag_in, word, words_say, ℕ, ⊎_elim, ◌<◌, ◌∙◌, ◌∷◌, ◌≡◌, ◌⊎◌}
use Rattle.tj_words.proofs.Lemmas.{back, law_allowed, law_kept, no_some, seats_same, set_seats}
use Rattle.tj_words.specs.Calls.ParkSteps.{parked_way, first_way, rest_loaded, loaded_phase}
use Rattle.tj_words.proofs.Waiters.ChainPhases.{chains_read, rest_first}
use Rattle.tj_words.proofs.Waiters.Backings.{wakes_seat}
use Rattle.tj_words.proofs.Holders.HeldTasks.{none_some}
use Rattle.tj_words.proofs.Prelude.{IsBegun}
use Rattle.tj_words.proofs.SeatLoads.LoadSteps.{IsPutSeat, law_learned}
use Rattle.tj_words.proofs.SeatLoads.MetCells.{begun_or, phase_learned}

-- what is known of the way of a first task is as before, or the task is the one that was loaded
first_or : (t : ℕ) (p : Phase) (l : List ℕ) (o : Option Way)
    → (first_way t p l o ≡ o) ⊎ ((ts : List ℕ) × (l ≡ t ∷ ts))
first_or t p l o = grind arith

first_is : (t : ℕ) (p : Phase) (ts : List ℕ) (o : Option Way) → first_way t p (t ∷ ts) o ≡ parked_way p o
first_is t p ts o = grind arith

-- there is a rest still where there was one
rest_back : (t : ℕ) (p : Phase) (o : Option Rest) → ((r : Rest) × (rest_loaded t p o ≡ Some r))
    → (r : Rest) × (o ≡ Some r)
rest_back t p None h = no_some refl h.1
rest_back t p (Some r) h = (r, refl)

module _ {B : Type 0} (program : Bool → B → Program B) (key : Key B) where
  module _ (s : State (Option (Rec B)) (View B)) (r : Rule program key s) (id t : ℕ) (v : View B)
      (at : get_elem? s.views id ≡ some v) where
    abbrev y : SeatsHave B
    y = seats_have s.views

    abbrev p : Phase
    p = phase_in (word s.words (phase_at t))

    rest_at : get_elem? y.rests id ≡ some v.rest
    rest_at = at_map (λ (u : View B). u.rest) s.views id v at

    -- the first of the seat's rest is parked on the rest's cell
    pub first_told : FirstTold t p v
    first_told q ts e f = (rest_first r.law.chains id q t ts (rest_at ∙ ap some e) f).0

    abbrev ChainsWith : Option Rest → Type 0
    ChainsWith o = Chains (tag_in (contents_of s)) (words_say s.words).head (words_say s.words).next
        (words_say s.words).phase y.pushes y.shuts (set y.rests id o) y.closed y.found

    loaded_chains : ChainsWith (rest_loaded t p v.rest)
    loaded_chains = by v.rest refl
      where
        same : ChainsWith v.rest
        same = subst (λ z. Chains (tag_in (contents_of s)) (words_say s.words).head (words_say s.words).next
            (words_say s.words).phase y.pushes y.shuts z y.closed y.found)
            (sym (set_again y.rests id v.rest rest_at)) r.law.chains

        by : (o : Option Rest) → v.rest ≡ o → ChainsWith (rest_loaded t p o)
        by None e = subst ChainsWith e same
        by (Some q) e = ⊎_elim
            (λ (k : first_way t p q.tasks q.way ≡ q.way). subst (λ w. ChainsWith (Some (record q { way = w })))
            (sym k) (subst ChainsWith e same))
            (λ (k : (ts : List ℕ) × (q.tasks ≡ t ∷ ts)). let f = first_told q k.0 e k.1 in
            let w : first_way t p q.tasks q.way ≡ Some f.0 = ap (λ l. first_way t p l q.way) k.1
            ∙ (first_is t p k.0 q.way ∙ ap (λ z. parked_way z q.way) f.1) in
            subst (λ z. ChainsWith (Some (record q { way = z }))) (sym w)
            (chains_read r.law.chains id q f.0 (rest_at ∙ ap some e)
            (subst (λ l. IsFirstIn (words_say s.words).phase l (parked_phase q.cell f.0)) (sym k.1) f.1)))
            (first_or t p q.tasks q.way)

    abbrev w : View B
    w = loaded_phase t p v

    loaded_seat : IsSeat key w
    loaded_seat = let h = r.seats id v at in wakes_seat key v h v.pushes v.shuts w.rest
        (λ c. h.backing.wakes (⊎_elim (λ a. inl a) (λ d. inr (⊎_elim (λ a. inl a)
        (λ e. inr (rest_back t p v.rest e)) d)) c))

    loaded_law : Law (program key.strict key.root.value) key.cells
        record { words = words_say s.words; slots = s.homes; seats = set_seats y id w }
    loaded_law = subst (λ z. Law (program key.strict key.root.value) key.cells
        record { words = words_say s.words; slots = s.homes; seats = z })
        (sym (ap (λ (z : SeatsHave B). record z { rests = set y.rests id w.rest }) (seats_same s.views id v at)))
        (let l = r.law in law_kept l (words_say s.words) (record y { rests = set y.rests id w.rest }) l.lots l.names
        l.tree_words l.once_words loaded_chains l.live_count l.stops l.records_fit l.meaning l.facts)

  module _ (s : State (Option (Rec B)) (View B)) (r : Rule program key s) (slots id i : ℕ) (m : SeatMe B) (t : ℕ)
      (l : t < key.cells) (place : i ≡ phase_at t) (at : get_elem? s.views id ≡ some m.0) where
    abbrev phase_now : Phase
    phase_now = p s r id t m.0 at

    -- the law holds after the load, and the view is as it tells
    abbrev IsLoaded : Type 0
    IsLoaded = (w : View B) × IsPutSeat program key s w × Law (program key.strict key.root.value) key.cells
        record { words = words_say s.words; slots = s.homes; seats = set_seats (seats_have s.views) id w }
        × phase_load key.cells t (step slots i 0 0 none) m (word s.words (phase_at t)) (w, m.1)

    kept : (m.0.rest ≡ None → IsBegun phase_now → ⊥) → IsLoaded
    kept apart = (
      loaded_phase t phase_now m.0,
      (loaded_seat s r id t m.0 at, r.pushed id m.0 at),
      loaded_law s r id t m.0 at,
      (
        refl,
        ((λ n d. absurd (apart n d)), (λ _. refl)),
        (r.codes.each t l).phase,
        first_told s r id t m.0 at,
        place,
      ),
    )

    pub loaded_by : (o : Option Rest) → m.0.rest ≡ o → IsBegun phase_now ⊎ (¬ IsBegun phase_now) → IsLoaded
    loaded_by None e (inl b) = law_learned program key s r id m (phase_load key.cells t (step slots i 0 0 none) m)
        (word s.words (phase_at t)) at
        (phase_learned program key s r id m t (phase_load key.cells t (step slots i 0 0 none) m) at e b (λ w h. (
          refl,
          ((λ _ _. h), (λ q. ⊎_elim (λ n. absurd (n e)) (λ n. absurd (n b)) q)),
          (r.codes.each t l).phase,
          first_told s r id t m.0 at,
          place,
        )))
    loaded_by None e (inr b) = kept (λ n d. b d)
    loaded_by (Some q) e b = kept (λ n d. none_some m.0.rest q n e)

  pub phase_allowed : (slots id : ℕ) (m : SeatMe B) (cells c t i : ℕ) → cells ≡ key.cells → c ≡ t → t < key.cells
      → i ≡ phase_at t
      → Allows (Rule program key) slots id m i (λ n. n) (phase_load cells c (step slots i 0 0 none) m)
  phase_allowed slots id m cells c t i few is l at = back (λ j. Allows (Rule program key) slots id m (at j)
      (λ n. n) (phase_load (few j) (is j) (step slots (at j) 0 0 none) m))
      (law_allowed program key slots id m (phase_at t) (phase_load key.cells t (step slots (phase_at t) 0 0 none) m)
      (λ s r at. loaded_by s r slots id (phase_at t) m t l refl at m.0.rest refl (begun_or (p s r id t m.0 at))))
