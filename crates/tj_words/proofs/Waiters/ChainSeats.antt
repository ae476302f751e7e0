-- The chains stay where what the seats have to do and know of them changes, and what is said of a task that stands in
-- no line.
use Rattle.tj_words.proofs.Prelude.{All, Any, AreLinked, Chains, Each, Found, HasGrown, Head, IsFirstIn, IsIn}
use Rattle.tj_words.proofs.Prelude.{IsParkedOn, IsPush, IsRest, List, None, OfSeat, Option, Phase, Push, Rest, Shut}
use Rattle.tj_words.proofs.Prelude.{Some, [], ap, dite, inl, inr, parked_phase, refl, subst, sym, ℕ, ℕ_discrete, ◌∙◌}
use Rattle.tj_words.proofs.Prelude.{◌∷◌, ◌≡◌, ◌≢◌}

-- a list whose tasks keep NEXT stays linked
pub linked_else : (next next' : ℕ → Head) (l : List ℕ) → ((u : ℕ) → IsIn u l → next' u ≡ next u) → AreLinked next l
    → AreLinked next' l
linked_else next next' [] h k = tt
linked_else next next' (t ∷ ts) h k = (h t (inl refl) ∙ k.0, linked_else next next' ts (λ u i. h u (inr i)) k.1)

-- the phase of the first stays where the phases of all do
pub first_else : (phase phase' : ℕ → Phase) (l : List ℕ) (w : Phase)
    → ((u : ℕ) → IsIn u l → phase' u ≡ phase u)
    → IsFirstIn phase l w
    → IsFirstIn phase' l w
first_else phase phase' [] w s h = tt
first_else phase phase' (t ∷ ts) w s h = s t (inl refl) ∙ h

-- a rest in whose line a task doesn't stand stays where the phases of others do
pub rest_kept : {head : ℕ → Head} {phase phase' : ℕ → Phase} {t : ℕ} → ((u : ℕ) → u ≢ t → phase' u ≡ phase u)
    → (line : ℕ → List ℕ) (taker : ℕ → ℕ) (j : ℕ) (r : Rest) → ((u : ℕ) → IsIn u (line r.cell) → u ≢ t)
    → IsRest head phase line taker j r
    → IsRest head phase' line taker j r
rest_kept {phase = phase} {phase' = phase'} phases line taker j r out f = record {
  mine = f.mine;
  is_shut = f.is_shut;
  left = f.left;
  some = f.some;
  read = λ way q. first_else phase phase' r.tasks (parked_phase r.cell way)
      (λ u i. phases u (out u (subst (IsIn u) (sym f.left) i))) (f.read way q);
}

-- a push of another task stays where what is said of others does
pub push_kept : {next next' : ℕ → Head} {phase phase' : ℕ → Phase} {who who' : ℕ → Option ℕ} {t : ℕ}
    → ((u : ℕ) → u ≢ t → next' u ≡ next u) → ((u : ℕ) → u ≢ t → phase' u ≡ phase u)
    → ((u : ℕ) → u ≢ t → who' u ≡ who u) → (j : ℕ) (e : Push) → e.task ≢ t
    → IsPush next phase who j e
    → IsPush next' phase' who' j e
push_kept nexts phases whose j e n f = record {
  mine = whose e.task n ∙ f.mine;
  parked = phases e.task n ∙ f.parked;
  stored = λ h q. nexts e.task n ∙ f.stored h q;
}

module _ {tag : ℕ → ℕ} {head next : ℕ → Head} {phase : ℕ → Phase} {pushes : List (List Push)} {shuts : List (List ℕ)}
    {rests : List (Option Rest)} {closed : List (List ℕ)} {found : List (List Found)}
    (c : Chains tag head next phase pushes shuts rests closed found) where
  pub chains_seats : {pushes' : List (List Push)} {shuts' : List (List ℕ)} {rests' : List (Option Rest)}
      {closed' : List (List ℕ)} {found' : List (List Found)}
      → ((p : ℕ) → tag p ≢ 0 → head p ≢ Shut → OfSeat (IsIn p) shuts' (c.shutter p))
      → ((t j : ℕ) → c.pusher t ≡ Some j → OfSeat (Any (λ (e : Push). e.task ≡ t)) pushes' j)
      → Each (λ j l. All (IsPush next phase c.pusher j) l) pushes'
      → ((p : ℕ) → head p ≡ Shut → c.line p ≢ []
      → OfSeat (λ rest. (r : Rest) × (rest ≡ Some r) × (r.cell ≡ p)) rests' (c.taker p))
      → Each (λ j rest. (r : Rest) → rest ≡ Some r → IsRest head phase c.line c.taker j r) rests'
      → Each (λ j l. All (λ p. head p ≡ Shut) l) closed'
      → Each (λ j l. All (λ (f : Found). HasGrown (head f.cell) (c.line f.cell) f.chain) l) found'
      → Chains tag head next phase pushes' shuts' rests' closed' found'
  chains_seats due pushing to_push taken rest stays_shut grows = record {
    line = c.line;
    pusher = c.pusher;
    taker = c.taker;
    shutter = c.shutter;
    heads = c.heads;
    linked = c.linked;
    parked = c.parked;
    placed = c.placed;
    tagged = c.tagged;
    due = due;
    pushing = pushing;
    to_push = to_push;
    taken = taken;
    rest = rest;
    stays_shut = stays_shut;
    grows = grows;
  }

  -- NEXT, PHASE and who pushes change of a task that stands in no line, and has none to stand in
  module _ (t : ℕ) (out : (p u : ℕ) → IsIn u (c.line p) → u ≢ t) {next' : ℕ → Head} {phase' : ℕ → Phase}
      {who : ℕ → Option ℕ} (nexts : (u : ℕ) → u ≢ t → next' u ≡ next u)
      (phases : (u : ℕ) → u ≢ t → phase' u ≡ phase u) (whose : (u : ℕ) → u ≢ t → who u ≡ c.pusher u)
      (no_line : (p : ℕ) → IsParkedOn (phase' t) p → who t ≢ None) where
    pub chains_out : {pushes' : List (List Push)}
        → ((u j : ℕ) → who u ≡ Some j → OfSeat (Any (λ (e : Push). e.task ≡ u)) pushes' j)
        → Each (λ j l. All (IsPush next' phase' who j) l) pushes'
        → Chains tag head next' phase' pushes' shuts rests closed found
    chains_out pushing to_push = record {
      line = c.line;
      pusher = who;
      taker = c.taker;
      shutter = c.shutter;
      heads = c.heads;
      linked = λ p. linked_else next next' (c.line p) (λ u i. nexts u (out p u i)) (c.linked p);
      parked = λ p u i. let k = c.parked p u i in let n = out p u i in
          (subst (λ z. IsParkedOn z p) (sym (phases u n)) k.0, whose u n ∙ k.1);
      placed = λ p u h e. dite (ℕ_discrete u t)
          (λ z. absurd (no_line p (subst (λ v. IsParkedOn (phase' v) p) z h) (ap who (sym z) ∙ e)))
          (λ n. c.placed p u (subst (λ z. IsParkedOn z p) (phases u n) h) (sym (whose u n) ∙ e));
      tagged = c.tagged;
      due = c.due;
      pushing = pushing;
      to_push = to_push;
      taken = c.taken;
      rest = λ j o a r q. rest_kept phases c.line c.taker j r (out r.cell) (c.rest j o a r q);
      stays_shut = c.stays_shut;
      grows = c.grows;
    }
