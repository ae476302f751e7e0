-- The chains are kept by the stores and exchanges of PHASE, by the load of the first of a rest, and by the store of
-- TAG.
use Rattle.tj_words.proofs.Prelude.{All, Any, AreLinked, Chains, Found, HasGrown, Head, IsFirstIn, IsIn, IsParkedOn}
use Rattle.tj_words.proofs.Prelude.{IsPush, IsRest, List, None, OfSeat, Option, Phase, Push, Rest, Shut, Some, Way, ap}
use Rattle.tj_words.proofs.Prelude.{at_put, dite, get_elem?, head_of, inl, inr, new_push, parked_phase, put, refl}
use Rattle.tj_words.proofs.Prelude.{rest_of, set, some, subst, sym, without_push, ℕ, ℕ_discrete, ⊎_elim, ◌∙◌, ◌∷◌, ◌≡◌}
use Rattle.tj_words.proofs.Prelude.{◌≢◌}
use Rattle.tj_words.proofs.Lemmas.{at_two, each_else, each_set, of_seat_here, of_seat_set, put_else, put_here, rest_is}
use Rattle.tj_words.proofs.Waiters.ChainSeats.{chains_seats, chains_out, push_kept, rest_kept}
use Rattle.tj_words.proofs.SeatLoads.KnowLoads.{all_cons}
use Rattle.tj_words.proofs.Waiters.ChainHeads.{one_cell, not_mine}
use Rattle.tj_words.proofs.Waiters.ChainLists.{no_some, same_some, IsOfTask, all_without, any_without_push, rest_some}
use Rattle.tj_words.proofs.Waiters.ChainFacts.{IsNotParked, linked_once, push_parked, not_in_line}

-- the rest once the way of its first task is read
abbrev pub read_way : Way → Rest → Rest
read_way way r = record r { way = Some way }

module _ {tag : ℕ → ℕ} {head next : ℕ → Head} {phase : ℕ → Phase} {pushes : List (List Push)} {shuts : List (List ℕ)}
    {rests : List (Option Rest)} {closed : List (List ℕ)} {found : List (List Found)}
    (c : Chains tag head next phase pushes shuts rests closed found) where
  -- PHASE of t becomes w
  module _ (t : ℕ) (w : Phase) where
    abbrev phase' : ℕ → Phase
    phase' = put phase t w

    else : (u : ℕ) → u ≢ t → put phase t w u ≡ phase u
    else u n = put_else phase t u w n

    here : put phase t w t ≡ w
    here = put_here phase t t w refl

    -- another task is it that was parked, or is
    was_parked : IsNotParked (phase t) → (u p : ℕ) → IsParkedOn (phase u) p → u ≢ t
    was_parked free u p h q = free p (subst (λ z. IsParkedOn z p) (ap phase q) h)

    is_parked : IsNotParked w → (u p : ℕ) → IsParkedOn (phase' u) p → u ≢ t
    is_parked free u p h q = free p (subst (λ z. IsParkedOn z p) (ap phase' q ∙ here) h)

    -- so a task that wasn't parked stands in no line, and what is to push is so of others
    out : IsNotParked (phase t) → (p u : ℕ) → IsIn u (c.line p) → u ≢ t
    out free p u i = was_parked free u p (c.parked p u i).0

    fits : IsNotParked (phase t) → (who : ℕ → Option ℕ) → ((u : ℕ) → u ≢ t → who u ≡ c.pusher u) → (j : ℕ) (e : Push)
        → IsPush next phase c.pusher j e
        → IsPush next phase' who j e
    fits free who whose j e f = push_kept (λ u n. refl) else whose j e
        (was_parked free e.task e.cell (push_parked c e.task j e f refl)) f

    -- a change of a task that is parked neither before nor after
    pub chains_turn : IsNotParked (phase t) → IsNotParked w
        → Chains tag head next (put phase t w) pushes shuts rests closed found
    chains_turn free free' = chains_out c t (out free) (λ u n. refl) else (λ u n. refl)
        (λ p h. absurd (is_parked free' t p h refl)) c.pushing
        (λ j l a e i. fits free c.pusher (λ u n. refl) j e (c.to_push j l a e i))

    -- the store of Parked: a push is to come
    pub chains_park : (id p : ℕ) (way : Way) (old : List Push) → get_elem? pushes id ≡ some old
        → IsNotParked (phase t) → w ≡ parked_phase p way
        → Chains tag head next (put phase t w) (set pushes id (new_push t p way ∷ old)) shuts rests closed found
    chains_park id p way old at free is = let who : ℕ → Option ℕ = put c.pusher t (Some id) in
        let whose : (u : ℕ) → u ≢ t → who u ≡ c.pusher u = λ u n. put_else c.pusher t u (Some id) n in
        let new : List Push = new_push t p way ∷ old in
        chains_out c t (out free) (λ u n. refl) else whose
        (λ q h e. no_some e (put_here c.pusher t t (Some id) refl))
        (λ u j e. dite (ℕ_discrete u t)
        (λ z. subst (OfSeat (Any (IsOfTask u)) (set pushes id new)) (same_some (put_here c.pusher t u (Some id) z) e)
        (of_seat_here (Any (IsOfTask u)) pushes id old new at (new_push t p way, inl refl, sym z)))
        (λ n. of_seat_set (Any (IsOfTask u)) pushes id j old new at (λ h. (h.0, inr h.1, h.2))
        (c.pushing u j (sym (whose u n) ∙ e))))
        (each_set (λ j l. All (IsPush next phase' who j) l) pushes id new
        (λ j l a e i. fits free who whose j e (c.to_push j l a e i))
        (all_cons (IsPush next phase' who id) (new_push t p way) old
        (record {
          mine = put_here c.pusher t t (Some id) refl;
          parked = here ∙ is;
          stored = λ h q. no_some refl q;
        })
        (λ e i. fits free who whose id e (c.to_push id old at e i))))

    -- the exchange by the seat that parked the task, and has its push still to come
    pub chains_run : (id : ℕ) (old : List Push) (e0 : Push) → get_elem? pushes id ≡ some old → IsIn e0 old
        → e0.task ≡ t → IsNotParked w
        → Chains tag head next (put phase t w) (set pushes id (without_push t old)) shuts rests closed found
    chains_run id old e0 at in0 is0 free =
        let mine : c.pusher t ≡ Some id = ap c.pusher (sym is0) ∙ (c.to_push id old at e0 in0).mine in
        let who : ℕ → Option ℕ = put c.pusher t None in
        let whose : (u : ℕ) → u ≢ t → who u ≡ c.pusher u = λ u n. put_else c.pusher t u None n in
        chains_out c t (λ p u i. not_in_line c p t id u mine i) (λ u n. refl) else whose
        (λ p h. absurd (is_parked free t p h refl))
        (λ u j e. dite (ℕ_discrete u t) (λ z. no_some (put_here c.pusher t u None z) e)
        (λ n. of_seat_set (Any (IsOfTask u)) pushes id j old (without_push t old) at (any_without_push t u old n)
        (c.pushing u j (sym (whose u n) ∙ e))))
        (each_else (λ j l. All (IsPush next phase' who j) l) pushes id (without_push t old)
        (λ j l n a e i. let f = c.to_push j l a e i in
        push_kept (λ u n. refl) else whose j e (not_mine c t id j e mine f.mine n) f)
        (all_without t (IsPush next phase' who id) old
        (λ e i n. push_kept (λ u n. refl) else whose id e n (c.to_push id old at e i))))

    -- the exchange of the first of a rest
    pub chains_ready : (id : ℕ) (r0 : Rest) (ts : List ℕ) → get_elem? rests id ≡ some (Some r0) → r0.tasks ≡ t ∷ ts
        → IsNotParked w
        → Chains tag head next (put phase t w) pushes shuts (set rests id (rest_of r0.cell ts)) closed found
    chains_ready id r0 ts at is0 free =
        let p : ℕ = r0.cell in let f0 = c.rest id (Some r0) at r0 refl in
        let is : c.line p ≡ t ∷ ts = f0.left ∙ is0 in
        let first : IsIn t (c.line p) = subst (IsIn t) (sym is) (inl refl) in let k0 = c.parked p t first in
        let line : ℕ → List ℕ = put c.line p ts in
        let on : (q : ℕ) → q ≡ p → line q ≡ ts = λ q z. put_here c.line p q ts z in
        let off : (q : ℕ) → q ≢ p → line q ≡ c.line q = λ q n. put_else c.line p q ts n in
        let chained : AreLinked next (t ∷ ts) = subst (AreLinked next) is (c.linked p) in
        let within : (q u : ℕ) → IsIn u (line q) → IsIn u (c.line q) × (u ≢ t)
        = λ q u i. dite (ℕ_discrete q p)
        (λ z. let g : IsIn u ts = subst (IsIn u) (on q z) i in (
          subst (IsIn u) (sym (ap c.line z ∙ is)) (inr g),
          λ e. linked_once next t ts chained (subst (λ v. IsIn v ts) e g),
        ))
        (λ n. let g : IsIn u (c.line q) = subst (IsIn u) (off q n) i in
        (g, λ e. n (one_cell (phase t) q p (subst (λ v. IsParkedOn (phase v) q) e ((c.parked q u g).0)) k0.0))) in
        let rest0 : Option Rest = rest_of p ts in
        let apart : (j : ℕ) (r : Rest) → IsRest head phase c.line c.taker j r → r.cell ≢ p
        → IsRest head phase' line c.taker j r
        = λ j r f n. rest_kept else line c.taker j r (λ u i. (within r.cell u i).1) (record
        { mine = f.mine; is_shut = f.is_shut; left = off r.cell n ∙ f.left; some = f.some; read = f.read }) in record {
          line = line;
          pusher = c.pusher;
          taker = c.taker;
          shutter = c.shutter;
          heads = λ q n. let d : q ≢ p = λ z. n (ap head z ∙ f0.is_shut) in c.heads q n ∙ ap head_of (sym (off q d));
          linked = λ q. at_put c.line p ts (λ k l. AreLinked next l) q chained.1 (λ n. c.linked q);
          parked = λ q u i. let g = within q u i in let k = c.parked q u g.0 in
              (subst (λ z. IsParkedOn z q) (sym (else u g.1)) k.0, k.1);
          placed = λ q u h e. let n = is_parked free u q h in
              at_put c.line p ts (λ k l. IsIn u (c.line k) → IsIn u l) q
              (λ g. ⊎_elim (λ (w : u ≡ t). absurd (n w)) (λ (w : IsIn u ts). w) (subst (IsIn u) is g)) (λ d g. g)
              (c.placed q u (subst (λ z. IsParkedOn z q) (else u n) h) e);
          tagged = c.tagged;
          due = c.due;
          pushing = c.pushing;
          to_push = λ j l a e i. let f = c.to_push j l a e i in
              push_kept (λ u n. refl) else (λ u n. refl) j e (λ z. no_some k0.1 (ap c.pusher (sym z) ∙ f.mine)) f;
          taken = λ q h n. dite (ℕ_discrete q p)
              (λ z. let w = rest_some p ts (λ k. n (on q z ∙ k)) in
              subst (OfSeat (λ rest. (r : Rest) × (rest ≡ Some r) × (r.cell ≡ q))
              (set rests id rest0)) (sym (ap c.taker z ∙ f0.mine))
              (of_seat_here (λ rest. (r : Rest) × (rest ≡ Some r) × (r.cell ≡ q)) rests id (Some r0) rest0 at
              (w.0, w.1, w.2 ∙ sym z)))
              (λ d. of_seat_set (λ rest. (r : Rest) × (rest ≡ Some r) × (r.cell ≡ q)) rests id (c.taker q) (Some r0)
              rest0 at
              (λ h. absurd (d (sym h.2 ∙ ap (λ (z : Rest). z.cell) (same_some h.1 refl))))
              (c.taken q h (λ k. n (off q d ∙ k))));
          rest = each_else (λ j o. (r : Rest) → o ≡ Some r → IsRest head phase' line c.taker j r) rests id rest0
              (λ j o n a r q. let f = c.rest j o a r q in
              apart j r f (λ z. n (sym f.mine ∙ (ap c.taker z ∙ f0.mine))))
              (λ r q. let w = rest_is p ts r q in record {
                mine = ap c.taker w.0 ∙ f0.mine;
                is_shut = ap head w.0 ∙ f0.is_shut;
                left = on r.cell w.0 ∙ sym w.1;
                some = λ k. w.3 (sym w.1 ∙ k);
                read = λ way k. no_some w.2 k;
              });
          stays_shut = c.stays_shut;
          grows = λ j l a f i. at_put c.line p ts (λ k m. HasGrown (head k) m f.chain) f.cell (inl f0.is_shut)
              (λ n. c.grows j l a f i);
        }

  -- PHASE of the first of a rest was loaded, and is parked this way
  pub chains_read : (id : ℕ) (r0 : Rest) (way : Way) → get_elem? rests id ≡ some (Some r0)
      → IsFirstIn phase r0.tasks (parked_phase r0.cell way)
      → Chains tag head next phase pushes shuts (set rests id (Some (read_way way r0))) closed found
  chains_read id r0 way at first = let f0 = c.rest id (Some r0) at r0 refl in
      chains_seats c c.due c.pushing c.to_push
      (λ q h n. of_seat_set (λ rest. (r : Rest) × (rest ≡ Some r) × (r.cell ≡ q)) rests id (c.taker q) (Some r0)
      (Some (read_way way r0)) at
      (λ h. (read_way way r0, refl, ap (λ (z : Rest). z.cell) (same_some refl h.1) ∙ h.2)) (c.taken q h n))
      (each_set (λ j o. (r : Rest) → o ≡ Some r → IsRest head phase c.line c.taker j r) rests id
      (Some (read_way way r0)) c.rest
      (λ r q. let e : read_way way r0 ≡ r = same_some refl q in
      subst (IsRest head phase c.line c.taker id) e (record {
        mine = f0.mine;
        is_shut = f0.is_shut;
        left = f0.left;
        some = f0.some;
        read = λ w k. subst (λ z. IsFirstIn phase r0.tasks (parked_phase r0.cell z)) (same_some refl k) first;
      }))) c.stays_shut c.grows

  -- the store of TAG: a shut is to come
  pub chains_tag : (p n id : ℕ) (old : List ℕ) → n ≢ 0 → get_elem? shuts id ≡ some old
      → Chains (put tag p n) head next phase pushes (set shuts id (p ∷ old)) rests closed found
  chains_tag p n id old some_tag at = let who : ℕ → ℕ = put c.shutter p id in record {
    line = c.line;
    pusher = c.pusher;
    taker = c.taker;
    shutter = who;
    heads = c.heads;
    linked = c.linked;
    parked = c.parked;
    placed = c.placed;
    tagged = λ q e. at_put tag p n (λ k m. m ≢ 0) q some_tag (λ d. c.tagged q e);
    due = λ q g unshut. at_two tag c.shutter p n id
        (λ k m j. m ≢ 0 → head k ≢ Shut → OfSeat (IsIn k) (set shuts id (p ∷ old)) j) q
        (λ g u. of_seat_here (IsIn p) shuts id old (p ∷ old) at (inl refl))
        (λ d g u. of_seat_set (IsIn q) shuts id (c.shutter q) old (p ∷ old) at (λ i. inr i) (c.due q g u)) g unshut;
    pushing = c.pushing;
    to_push = c.to_push;
    taken = c.taken;
    rest = c.rest;
    stays_shut = c.stays_shut;
    grows = c.grows;
  }

  -- the first of a rest is parked on the rest's cell, and NEXT of it names the one behind it
  pub rest_first : (id : ℕ) (r0 : Rest) (t : ℕ) (ts : List ℕ) → get_elem? rests id ≡ some (Some r0)
      → r0.tasks ≡ t ∷ ts
      → IsParkedOn (phase t) r0.cell × (next t ≡ head_of ts)
  rest_first id r0 t ts at is0 = let f0 = c.rest id (Some r0) at r0 refl in
      let is : c.line r0.cell ≡ t ∷ ts = f0.left ∙ is0 in (
        (c.parked r0.cell t (subst (IsIn t) (sym is) (inl refl))).0,
        (subst (AreLinked next) is (c.linked r0.cell)).0,
      )
