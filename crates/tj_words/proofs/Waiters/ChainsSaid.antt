-- What the law says of chains is what the sentences on chains say.
use Rattle.tj_words.proofs.Prelude.{AreLinked, Chains, Empty, Found, Head, IsIn, IsParkedOn, List, None, Option, Phase}
use Rattle.tj_words.proofs.Prelude.{Push, Rest, Shut, Some, Task, [], ap, arith, get_elem?, head_of, inl, inr, refl}
use Rattle.tj_words.proofs.Prelude.{some, some-ne-none, subst, suc, sym, zero, ℕ, ⊎_elim, ◌++◌, ◌∙◌, ◌∷◌, ◌≡◌, ◌≢◌, ◌⊎◌}
use Rattle.tj_words.proofs.Lemmas.{no_some, none_or, same_some}
use Rattle.tj_words.specs.Inner.ChainSentences.{GoesOn, IsRestOf, IsToPush, ChainSentences}
use Rattle.tj_words.proofs.Waiters.ChainHeads.{one_cell}
use Rattle.tj_words.proofs.Waiters.ChainFacts.{linked_once, not_empty, push_parked, one_line}
use Rattle.tj_words.proofs.Stores.SeatLists.{in_of_index}

-- a list that NEXT links goes on from its head
goes_on : (next : ℕ → Head) (l : List ℕ) → AreLinked next l → GoesOn next (head_of l) l
goes_on next [] h = refl
goes_on next (t ∷ ts) h = (refl, subst (λ z. GoesOn next z ts) (sym h.0) (goes_on next ts h.1))

-- a task stands at one index of a list that NEXT links
one_index : (next : ℕ → Head) (l : List ℕ) (i k t : ℕ) → AreLinked next l → get_elem? l i ≡ some t
    → get_elem? l k ≡ some t → i ≡ k
one_index next [] i k t h a b = absurd (some-ne-none t (sym a))
one_index next (x ∷ xs) i zero t h a b = let o = linked_once next x xs h in let n = in_of_index xs in grind arith
one_index next (x ∷ xs) zero (suc k) t h a b =
    let o = linked_once next x xs h in let n = in_of_index xs k t in grind arith
one_index next (x ∷ xs) (suc i) (suc k) t h a b = ap suc (one_index next xs i k t h.1 a b)

-- the head is shut, or it isn't
pub shut_or : (h : Head) → (h ≡ Shut) ⊎ (h ≢ Shut)
shut_or h = grind arith

-- the line, where the head isn't shut
abbrev chain_of : Head → List ℕ → List ℕ
chain_of Empty l = l
chain_of (Task t) l = l
chain_of Shut l = []

chain_is : (h : Head) (l : List ℕ) → h ≢ Shut → chain_of h l ≡ l
chain_is h l n = grind arith

in_chain : (h : Head) (l : List ℕ) (i t : ℕ) → get_elem? (chain_of h l) i ≡ some t
    → (h ≢ Shut) × (get_elem? l i ≡ some t)
in_chain h l i t e = grind arith

of_chain : (h : Head) (l : List ℕ) (t : ℕ) → IsIn t (chain_of h l) → (h ≢ Shut) × IsIn t l
of_chain h l t i = grind arith

module _ {tag : ℕ → ℕ} {head next : ℕ → Head} {phase : ℕ → Phase} {pushes : List (List Push)} {shuts : List (List ℕ)}
    {rests : List (Option Rest)} {closed : List (List ℕ)} {found : List (List Found)}
    (c : Chains tag head next phase pushes shuts rests closed found) where
  abbrev chain : ℕ → List ℕ
  chain p = chain_of (head p) (c.line p)

  -- a rest is the line of its cell, which is shut
  rest_line : (j p : ℕ) (ts : List ℕ) → IsRestOf rests j p ts
      → (head p ≡ Shut) × (c.taker p ≡ j) × (c.line p ≡ ts)
  rest_line j p ts h = let f = c.rest j (Some h.0) h.1 h.0 refl in (
    ap head (sym h.2) ∙ f.is_shut,
    ap c.taker (sym h.2) ∙ f.mine,
    ap c.line (sym h.2) ∙ (f.left ∙ h.3),
  )

  rest_in : (j p t : ℕ) (ts : List ℕ) → IsRestOf rests j p ts → IsIn t ts → IsIn t (c.line p)
  rest_in j p t ts h i = subst (IsIn t) (sym (rest_line j p ts h).2) i

  to_push : (j p t : ℕ) → IsToPush pushes j p t → (c.pusher t ≡ Some j) × IsParkedOn (phase t) p
  to_push j p t h = let f = c.to_push j h.0 h.2 h.1 h.3 in
      (ap c.pusher (sym h.4) ∙ f.mine, subst (IsParkedOn (phase t)) h.5 (push_parked c t j h.1 f h.4))

  same_index : (p q i k t : ℕ) → get_elem? (c.line p) i ≡ some t → get_elem? (c.line q) k ≡ some t → (p ≡ q) × (i ≡ k)
  same_index p q i k t a b = let e = one_line c p q t (in_of_index (c.line p) i t a) (in_of_index (c.line q) k t b) in
      (e, one_index next (c.line p) i k t (c.linked p) a (ap (λ z. get_elem? (c.line z) k) e ∙ b))

  -- the sentences
  pub chains_said : ChainSentences tag head next phase pushes shuts rests closed found
  chains_said = record {
    chain = chain;
    open_chains = λ p n. subst (GoesOn next (head p)) (sym (chain_is (head p) (c.line p) n))
        (subst (λ h. GoesOn next h (c.line p)) (sym (c.heads p n)) (goes_on next (c.line p) (c.linked p)));
    shut_chains = λ p e. ap (λ h. chain_of h (c.line p)) e;
    rests_go_on = λ j p ts h. let r = rest_line j p ts h in
        (goes_on next ts (subst (AreLinked next) r.2 (c.linked p)), r.0);
    chains_parked = λ p t i. (c.parked p t (of_chain (head p) (c.line p) t i).1).0;
    rests_parked = λ j p t ts h i. (c.parked p t (rest_in j p t ts h i)).0;
    one_chain = λ p q i k t a b. same_index p q i k t (in_chain (head p) (c.line p) i t a).1
        (in_chain (head q) (c.line q) k t b).1;
    one_rest = λ j p i j' p' i' t ts ts' h h' a b. let r = rest_line j p ts h in let r' = rest_line j' p' ts' h' in
        let s = same_index p p' i i' t (ap (λ l. get_elem? l i) r.2 ∙ a) (ap (λ l. get_elem? l i') r'.2 ∙ b) in
        (sym r.1 ∙ (ap c.taker s.0 ∙ r'.1), s.0, s.1);
    no_chain_and_rest = λ p j q t ts i h k. let x = of_chain (head p) (c.line p) t i in
        x.0 (ap head (one_line c p q t x.1 (rest_in j q t ts h k)) ∙ (rest_line j q ts h).0);
    shut_tagged = c.tagged;
    placed = λ t p w. ⊎_elim
        (λ (e : c.pusher t ≡ None). let g = c.placed p t w e in ⊎_elim
        (λ (s : head p ≡ Shut). let k = c.taken p s (not_empty (c.line p) t g) in
        let at : get_elem? rests (c.taker p) ≡ some (Some k.2.0) = k.1 ∙ ap some k.2.1 in
        let f = c.rest (c.taker p) (Some k.2.0) at k.2.0 refl in
        inr (inl (
          c.taker p,
          k.2.0.tasks,
          (k.2.0, at, k.2.2, refl),
          subst (IsIn t) (ap c.line (sym k.2.2) ∙ f.left) g,
        )))
        (λ (n : head p ≢ Shut). inl (subst (IsIn t) (sym (chain_is (head p) (c.line p) n)) g)) (shut_or (head p)))
        (λ (s : (j : ℕ) × (c.pusher t ≡ Some j)). let k = c.pushing t s.0 s.1 in
        let f = c.to_push s.0 k.0 k.1 k.2.0 k.2.1 in
        inr (inr (
          s.0,
          (
            k.0,
            k.2.0,
            k.1,
            k.2.1,
            k.2.2,
            one_cell (phase t) k.2.0.cell p (push_parked c t s.0 k.2.0 f k.2.2) w,
          ),
        )))
        (none_or (c.pusher t));
    pushes_parked = λ j p t h. (to_push j p t h).1;
    pushes_apart = λ j p t h q i. no_some ((c.parked q t (of_chain (head q) (c.line q) t i).1).1) (to_push j p t h).0;
    pushes_no_rest = λ j p t k q ts h g i. no_some ((c.parked q t (rest_in k q t ts g i)).1) (to_push j p t h).0;
    one_push = λ j k p q t a b. let x = to_push j p t a in let y = to_push k q t b in
        (same_some x.0 y.0, one_cell (phase t) p q x.1 y.1);
    shut_due = λ p a n. let k = c.due p a n in (c.shutter p, k.0, k.1, k.2);
    found_grown = λ j l f a i. ⊎_elim (λ (s : head f.cell ≡ Shut). inl s)
        (λ (n : head f.cell ≢ Shut). ⊎_elim (λ (s : head f.cell ≡ Shut). inl s)
        (λ (m : (more : List ℕ) × (c.line f.cell ≡ more ++ f.chain)).
        inr (m.0, chain_is (head f.cell) (c.line f.cell) n ∙ m.1)) (c.grows j l a f i)) (shut_or (head f.cell));
    found_shut = λ j p l a i. c.stays_shut j l a p i;
    stored = λ j l e h a i w. (c.to_push j l a e i).stored h w;
  }
