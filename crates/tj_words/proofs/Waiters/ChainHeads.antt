-- No lost wake is kept by the steps on HEAD and NEXT.
use Rattle.tj_words.proofs.Prelude.{All, Any, AreLinked, Bool, Chains, Found, HasGrown, Head, IsIn, IsParkedOn, IsPush}
use Rattle.tj_words.proofs.Prelude.{IsRest, List, None, OfSeat, Option, Phase, Push, Rest, Shut, Some, Task, [], ap}
use Rattle.tj_words.proofs.Prelude.{arith, at_put, cell, cond, dite, false, get_elem?, head_of, inl, inr, nat_eq}
use Rattle.tj_words.proofs.Prelude.{parked_phase, put, refl, rest_of, set, some, subst, sym, true, with_next, without}
use Rattle.tj_words.proofs.Prelude.{without_push, ℕ, ℕ_discrete, ⊎_elim, ◌∙◌, ◌∷◌, ◌≡◌, ◌≢◌, ◌⊎◌}
use Rattle.tj_words.proofs.Lemmas.{any_without_push, at_two, chains_out, chains_seats, each_else, each_set, no_some}
use Rattle.tj_words.proofs.Lemmas.{of_seat_here, of_seat_set, push_kept, put_else, put_here, rest_is, rest_some}
use Rattle.tj_words.proofs.SeatLoads.KnowLoads.{all_cons}
use Rattle.tj_words.proofs.Waiters.ChainLists.{in_without_push, none_none}

-- a push of the list after NEXT of t was stored is one of before
pub in_with_next : (t : ℕ) (h : Head) (l : List Push) (x : Push) → IsIn x (with_next t h l)
    → (e : Push) × IsIn e l × (((e.task ≡ t) × (x ≡ record e { next = Some h })) ⊎ ((e.task ≢ t) × (x ≡ e)))
in_with_next t h [] x i = absurd i
in_with_next t h (e ∷ es) x (inl q) = (e, inl refl, grind arith)
in_with_next t h (e ∷ es) x (inr i) = let r = in_with_next t h es x i in (r.0, inr r.1, r.2)

-- and a task that had a push has one
pub any_with_next : (t : ℕ) (h : Head) (u : ℕ) (l : List Push) → Any (λ (e : Push). e.task ≡ u) l
    → Any (λ (e : Push). e.task ≡ u) (with_next t h l)
any_with_next t h u [] a = a
any_with_next t h u (e ∷ es) a = ⊎_elim
    (λ (q : a.0 ≡ e). (
      cond (nat_eq e.task t) (record e { next = Some h }) e,
      inl refl,
      task (nat_eq e.task t) ∙ (ap (λ z. z.task) (sym q) ∙ a.2),
    ))
    (λ q. let r = any_with_next t h u es (a.0, q, a.2) in (r.0, inr r.1, r.2)) a.1
  where
    task : (b : Bool) → (cond b (record e { next = Some h }) e).task ≡ e.task
    task true = refl
    task false = refl

-- a cell other than p stays among those that a seat is to shut
pub in_without : (p q : ℕ) (l : List ℕ) → q ≢ p → IsIn q l → IsIn q (without p l)
in_without p q [] n i = i
in_without p q (x ∷ xs) n i = let r = in_without p q xs n in grind arith

-- a task is parked on one cell
pub one_cell : (phase : Phase) (p q : ℕ) → IsParkedOn phase p → IsParkedOn phase q → p ≡ q
one_cell phase p q a b = grind arith

module _ {tag : ℕ → ℕ} {head next : ℕ → Head} {phase : ℕ → Phase} {pl : List (List Push)} {sl : List (List ℕ)}
    {rl : List (Option Rest)} {cl : List (List ℕ)} {fl : List (List Found)}
    (r : Chains tag head next phase pl sl rl cl fl) where
  -- what a seat has to push is none of another seat's
  pub not_mine : (t id j : ℕ) (x : Push) → r.pusher t ≡ Some id → r.pusher x.task ≡ Some j → j ≢ id → x.task ≢ t
  not_mine t id j x a b n z = grind arith

  -- the store of NEXT of a task whose push is to come
  pub nexts : (t id : ℕ) (h : Head) (old : List Push) → get_elem? pl id ≡ some old → Any (λ (e : Push). e.task ≡ t) old
      → Chains tag head (put next t h) phase (set pl id (with_next t h old)) sl rl cl fl
  nexts t id h old at has = let mine : r.pusher t ≡ Some id = ap r.pusher (sym has.2) ∙
      (r.to_push id old at has.0 has.1).mine in
      let else : (u : ℕ) → u ≢ t → put next t h u ≡ next u = λ u n. put_else next t u h n in
      chains_out r t (λ p u i z. no_some (r.parked p u i).1 (ap r.pusher z ∙ mine)) else (λ u n. refl) (λ u n. refl)
      (λ p k e. no_some e mine)
      (λ u j e. of_seat_set (Any (λ (e : Push). e.task ≡ u)) pl id j old (with_next t h old) at
      (any_with_next t h u old) (r.pushing u j e))
      (each_else (λ j l. All (IsPush (put next t h) phase r.pusher j) l) pl id (with_next t h old)
      (λ j l n e x i. let f = r.to_push j l e x i in
      push_kept else (λ u n. refl) (λ u n. refl) j x (not_mine t id j x mine f.mine n) f)
      (λ x i. let w = in_with_next t h old x i in let f = r.to_push id old at w.0 w.1 in ⊎_elim
      (λ (z : (w.0.task ≡ t) × (x ≡ record w.0 { next = Some h })).
      subst (IsPush (put next t h) phase r.pusher id) (sym z.1) record {
        mine = f.mine;
        parked = f.parked;
        stored = λ g q. put_here next t w.0.task h z.0 ∙ (cc);
      })
      (λ (z : (w.0.task ≢ t) × (x ≡ w.0)). subst (IsPush (put next t h) phase r.pusher id) (sym z.1)
      (push_kept else (λ u n. refl) (λ u n. refl) id w.0 z.0 f)) w.2))

  -- a push that succeeds, behind the head that was there
  pub pushes : (t p id : ℕ) (old : List Push) (e : Push) → get_elem? pl id ≡ some old → IsIn e old → e.task ≡ t →
      e.cell ≡ p
      → e.next ≡ Some (head p) → head p ≢ Shut
      → Chains tag (put head p (Task (cell t))) next phase (set pl id (without_push t old)) sl rl cl fl
  pushes t p id old e at i is_t is_p behind unshut =
      let f0 = r.to_push id old at e i in
      let mine : r.pusher t ≡ Some id = ap r.pusher (sym is_t) ∙ f0.mine in
      let parked_on : IsParkedOn (phase t) p =
      (e.way, ap phase (sym is_t) ∙ (f0.parked ∙ ap (λ c. parked_phase c e.way) is_p)) in
      let line : ℕ → List ℕ = put r.line p (t ∷ r.line p) in let who : ℕ → Option ℕ = put r.pusher t None in
      let head' : ℕ → Head = put head p (Task (cell t)) in
      let apart : (q : ℕ) → head q ≡ Shut → q ≢ p = λ q e z. unshut (ap head (sym z) ∙ e) in
      let apart' : (q : ℕ) → head' q ≡ Shut → q ≢ p
      = λ q e z. (let y : Task (cell t) ≡ Shut = sym (put_here head p q (Task (cell t)) z) ∙ e in cc) in
      let linked : next t ≡ head_of (r.line p) = ap next (sym is_t) ∙ (f0.stored (head p) behind ∙ r.heads p unshut) in
      let was : (q u : ℕ) → IsIn u (r.line q) → IsParkedOn (phase u) q × (who u ≡ None)
      = λ q u i. let m = r.parked q u i in (m.0, none_none r.pusher t u m.1) in
      record {
        line = line;
        pusher = who;
        taker = r.taker;
        shutter = r.shutter;
        heads = λ q. at_two head r.line p (Task (cell t)) (t ∷ r.line p) (λ k h l. h ≢ Shut → h ≡ head_of l) q
            (λ n. refl) (λ d. r.heads q);
        linked = λ q. at_put r.line p (t ∷ r.line p) (λ k l. AreLinked next l) q (linked, r.linked p) (λ d. r.linked q);
        parked = λ q u. at_put r.line p (t ∷ r.line p) (λ k l. IsIn u l → IsParkedOn (phase u) k × (who u ≡ None)) q
            (λ i. ⊎_elim
            (λ y. (subst (λ v. IsParkedOn (phase v) p) (sym y) parked_on, put_here r.pusher t u None y)) (was p u) i)
            (λ d. was q u);
        placed = λ q u g y. dite (ℕ_discrete u t)
            (λ z. let c : q ≡ p = one_cell (phase t) q p (subst (λ v. IsParkedOn (phase v) q) z g) parked_on in
            subst (IsIn u) (sym (put_here r.line p q (t ∷ r.line p) c)) (inl z))
            (λ n. at_put r.line p (t ∷ r.line p) (λ k l. IsIn u (r.line k) → IsIn u l) q (λ i. inr i) (λ d i. i)
            (r.placed q u g (sym (put_else r.pusher t u None n) ∙ y)));
        tagged = λ q y. r.tagged q (sym (put_else head p q (Task (cell t)) (apart' q y)) ∙ y);
        due = λ q g n. let d = r.due q in grind arith;
        pushing = λ u j. at_put r.pusher t None
            (λ u w. w ≡ Some j → OfSeat (Any (λ (e : Push). e.task ≡ u)) (set pl id (without_push t old)) j) u
            (λ y. no_some refl y) (λ n y. of_seat_set (Any (λ (e : Push). e.task ≡ u)) pl id j old (without_push t old)
            at (any_without_push t u old n) (r.pushing u j y));
        to_push = each_else (λ j l. All (IsPush next phase who j) l) pl id (without_push t old)
            (λ j l n y x k. let f = r.to_push j l y x k in record {
              mine = put_else r.pusher t x.task None (not_mine t id j x mine f.mine n) ∙ f.mine;
              parked = f.parked;
              stored = f.stored;
            })
            (λ x k. let w = in_without_push t old x k in let f = r.to_push id old at x w.0 in record {
              mine = put_else r.pusher t x.task None w.1 ∙ f.mine;
              parked = f.parked;
              stored = f.stored;
            });
        taken = λ q y n. let d = apart' q y in
            r.taken q (sym (put_else head p q (Task (cell t)) d) ∙ y)
            (λ k. n (put_else r.line p q (t ∷ r.line p) d ∙ k));
        rest = λ j o y x q. let f = r.rest j o y x q in let d = apart x.cell f.is_shut in record {
          mine = f.mine;
          is_shut = put_else head p x.cell (Task (cell t)) d ∙ f.is_shut;
          left = put_else r.line p x.cell (t ∷ r.line p) d ∙ f.left;
          some = f.some;
          read = f.read;
        };
        stays_shut = λ j l y q k. let g = r.stays_shut j l y q k in put_else head p q (Task (cell t)) (apart q g) ∙ g;
        grows = λ j l y x k. at_two head r.line p (Task (cell t)) (t ∷ r.line p)
            (λ c h m. HasGrown (head c) (r.line c) x.chain → HasGrown h m x.chain) x.cell
            (λ g. ⊎_elim (λ s. absurd (unshut s)) (λ m. inr (t ∷ m.0, ap (λ l. t ∷ l) m.1)) g) (λ d g. g)
            (r.grows j l y x k);
      }

  -- the shut of a head that wasn't, by a seat without a rest
  pub shuts : (p id : ℕ) (olds oldc : List ℕ) → get_elem? sl id ≡ some olds → get_elem? rl id ≡ some None
      → get_elem? cl id ≡ some oldc → head p ≢ Shut → tag p ≢ 0
      → Chains tag (put head p Shut) next phase pl (set sl id (without p olds)) (set rl id (rest_of p (r.line p)))
      (set cl id (p ∷ oldc)) fl
  shuts p id olds oldc ats atr atc unshut has_tag =
      let head' : ℕ → Head = put head p Shut in let taker : ℕ → ℕ = put r.taker p id in
      let apart : (q : ℕ) → head q ≡ Shut → q ≢ p = λ q e z. unshut (ap head (sym z) ∙ e) in
      let closes : (q : ℕ) → head q ≡ Shut → head' q ≡ Shut = λ q e. put_else head p q Shut (apart q e) ∙ e in
      let apart' : (q : ℕ) → head' q ≢ Shut → q ≢ p = λ q n z. n (put_here head p q Shut z) in record {
        line = r.line;
        pusher = r.pusher;
        taker = taker;
        shutter = r.shutter;
        heads = λ q n. let d = r.heads q in grind arith;
        linked = r.linked;
        parked = r.parked;
        placed = r.placed;
        tagged = λ q. at_put head p Shut (λ k h. h ≡ Shut → tag k ≢ 0) q (λ e. has_tag) (λ d. r.tagged q);
        due = λ q g n. let d = apart' q n in of_seat_set (IsIn q) sl id (r.shutter q) olds (without p olds) ats
            (in_without p q olds d) (r.due q g (λ e. n (put_else head p q Shut d ∙ e)));
        pushing = r.pushing;
        to_push = r.to_push;
        taken = λ q. at_two head r.taker p Shut id (λ k h j. h ≡ Shut → r.line k ≢ []
            → OfSeat (λ rest. (x : Rest) × (rest ≡ Some x) × (x.cell ≡ k)) (set rl id (rest_of p (r.line p))) j) q
            (λ e n. of_seat_here (λ rest. (x : Rest) × (rest ≡ Some x) × (x.cell ≡ p)) rl id None
            (rest_of p (r.line p)) atr (rest_some p (r.line p) n))
            (λ d e n. of_seat_set (λ rest. (x : Rest) × (rest ≡ Some x) × (x.cell ≡ q)) rl id (r.taker q) None
            (rest_of p (r.line p)) atr (λ k. no_some refl k.1) (r.taken q e n));
        rest = each_set (λ j rest. (x : Rest) → rest ≡ Some x → IsRest head' phase r.line taker j x) rl id
            (rest_of p (r.line p))
            (λ j o y x q. let f = r.rest j o y x q in let d = apart x.cell f.is_shut in record {
              mine = put_else r.taker p x.cell id d ∙ f.mine;
              is_shut = closes x.cell f.is_shut;
              left = f.left;
              some = f.some;
              read = f.read;
            })
            (λ x q. let w = rest_is p (r.line p) x q in record {
              mine = put_here r.taker p x.cell id w.0;
              is_shut = put_here head p x.cell Shut w.0;
              left = ap r.line w.0 ∙ sym w.1;
              some = λ k. w.3 (sym w.1 ∙ k);
              read = λ way k. no_some w.2 k;
            });
        stays_shut = each_set (λ j l. All (λ q. head' q ≡ Shut) l) cl id (p ∷ oldc)
            (λ j l y q k. closes q (r.stays_shut j l y q k))
            (all_cons (λ q. head' q ≡ Shut) p oldc (put_here head p p Shut refl)
            (λ q k. closes q (r.stays_shut id oldc atc q k)));
        grows = λ j l y x k. ⊎_elim (λ g. inl (closes x.cell g)) (λ g. inr g) (r.grows j l y x k);
      }

  -- the shut of a head that was shut already
  pub shuts_again : (p id : ℕ) (olds oldc : List ℕ) → get_elem? sl id ≡ some olds → get_elem? cl id ≡ some oldc
      → head p ≡ Shut → Chains tag head next phase pl (set sl id (without p olds)) rl (set cl id (p ∷ oldc)) fl
  shuts_again p id olds oldc ats atc is_shut = chains_seats r
      (λ q g n. of_seat_set (IsIn q) sl id (r.shutter q) olds (without p olds) ats
      (in_without p q olds (λ z. n (ap head z ∙ is_shut))) (r.due q g n)) r.pushing r.to_push r.taken r.rest
      (each_set (λ j l. All (λ q. head q ≡ Shut) l) cl id (p ∷ oldc) r.stays_shut
      (all_cons (λ q. head q ≡ Shut) p oldc is_shut (r.stays_shut id oldc atc))) r.grows
