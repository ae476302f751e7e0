-- Walks along a wait graph that meet each index once, and the least index of a cycle.
use Rattle.std.proofs.Common.{◌≡◌, ◌≢◌, ◌⊎◌, inl, inr, ℕ, zero, suc, ◌+◌, ◌-◌, ◌<◌, ◌≤◌, Bool, true, false, nat_eq}
use Rattle.std.proofs.Common.{List, [], ◌∷◌, Option, Some, None, length, replicate, refl, sym, ap, ◌∙◌, subst, arith}
use Rattle.std.specs.Prelude.{slice_index_or, slice_set}
use Rattle.std.specs.List.{Contains}
use Rattle.std.proofs.lemmas.Bool.Decides.{Decides-eqb}
use Rattle.std.proofs.lemmas.List.{get_or-set_same, get_or-set_other}
use native.Mathlib.Decide.{ℕ_discrete, dec_le}
use mathlib.Core.Logic.{dite}
use Rattle.tj_base.specs.Cycles.{Reaches, IsOnCycleOf}
use Rattle.tj_base.proofs.Ways.{reach_plus, reach_split, reach_one, cycle_at, cycle_leads}
use Rattle.tj_base.proofs.CycleLists.{at_index, through, cycles_return, reached_contained}
use Rattle.tj_body.specs.Points.{IsIn}
use Rattle.tj_mean.specs.Inner.Indexes.{IsLeastCycle}
use Rattle.tj_mean.specs.WaitIndexes.{Next}
use Rattle.tj_mean.specs.Inner.MetIndexes.{IsMet, IsMetOn, AreLeastTold}
use Rattle.tj_mean.proofs.Lists.Elements.{some_is, in_contains}
use Rattle.tj_mean.proofs.Outcomes.LeastCycles.{one, index_less, cycle_fits, reaches_greater}

contains_in : (xs : List ℕ) (x k : ℕ) → k < length xs → slice_index_or xs k x ≡ x → IsIn x xs
contains_in [] x k l e = absurd (omega arith)
contains_in (y ∷ ys) x zero l e = inl (sym e)
contains_in (y ∷ ys) x (suc k) l e = inr (contains_in ys x k (omega arith) e)

none_met : (n i : ℕ) → slice_index_or (replicate {A = Option ℕ} n None) i None ≡ None
none_met zero i = refl
none_met (suc n) zero = refl
none_met (suc n) (suc i) = none_met n i

module _ (next : List (Option ℕ)) where
  -- each index of a cycle leads on
  pub on_leads : (m : ℕ) (ps : List ℕ) → IsLeastCycle next m ps → (x : ℕ) → IsIn x ps → (y : ℕ) × Next next x y
  on_leads m [] c x i = absurd i
  on_leads m (p ∷ ps) c x i = cycle_leads (Next next) x (length (p ∷ ps))
      (cycles_return (Next next) (one next) nat_eq Decides-eqb (p ∷ ps) x c.cycle.1 (in_contains (p ∷ ps) x i))

  -- the first index is one of the cycle
  pub first_in : (m : ℕ) (ps : List ℕ) → IsLeastCycle next m ps → IsIn m ps
  first_in m [] c = absurd c.cycle
  first_in m (p ∷ ps) c = inl (sym c.cycle.0)

  -- where an index of a cycle leads is one, too
  on_next : (m : ℕ) (ps : List ℕ) → IsLeastCycle next m ps → (x y : ℕ) → IsIn x ps → Next next x y → IsIn y ps
  on_next m [] c x y i l = absurd i
  on_next m (p ∷ ps) c x y i l =
      let h = in_contains (p ∷ ps) x i in
      let to : Reaches (Next next) p h.0 x =
      subst (Reaches (Next next) p h.0) h.2 (at_index (Next next) p p ps c.cycle.1.1 h.0 x h.1) in
      let r = reached_contained (Next next) (one next) nat_eq Decides-eqb p ps c.cycle.1 (suc h.0) y (x, to, l) in
      contains_in (p ∷ ps) y r.0 r.1 r.2

  module _ (old : List (Option ℕ)) (first : ℕ) where
    -- after so many steps a walk has come from its first index to `at`, and these are met
    pub record IsWalked (step at : ℕ) (met : List (Option ℕ)) : Type 0 where
      pub begun : ((step ≡ 0) × (at ≡ first)) ⊎ IsMet met first
      pub kept : (i : ℕ) → IsMet old i → IsMet met i
      pub marks : (i r : ℕ) → slice_index_or met i None ≡ Some r → (r ≡ first) ⊎ (slice_index_or old i None ≡ Some r)
      pub cycles : (m : ℕ) (ps : List ℕ) → IsLeastCycle next m ps → IsMetOn met ps → IsMetOn old ps ⊎ IsIn at ps

    pub walk_starts : IsWalked 0 first old
    walk_starts = record {
      begun = inl (refl, refl);
      kept = λ i h. h;
      marks = λ i r e. inr e;
      cycles = λ m ps c h. inl h;
    }

    module _ (step at : ℕ) (met : List (Option ℕ)) (w : IsWalked step at met) where
      -- the first index is met where this one is
      pub begun_at : (r : ℕ) → slice_index_or met at None ≡ Some r → IsMet met first
      begun_at r e = by w.begun where
        by : ((step ≡ 0) × (at ≡ first)) ⊎ IsMet met first → IsMet met first
        by (inl h) = (r, subst (λ i. slice_index_or met i None ≡ Some r) h.1 e)
        by (inr h) = h

      pub begun_after : 0 < step → IsMet met first
      begun_after l = by w.begun where
        by : ((step ≡ 0) × (at ≡ first)) ⊎ IsMet met first → IsMet met first
        by (inl h) = let z = h.0 in absurd (omega arith)
        by (inr h) = h

      -- an index that another walk has met
      pub met_before : (r : ℕ) → slice_index_or met at None ≡ Some r → r ≢ first → (m : ℕ) (ps : List ℕ)
          → IsLeastCycle next m ps → IsMetOn met ps → IsMetOn old ps
      met_before r e other m ps c h = by (w.cycles m ps c h) (w.marks at r e) where
        by : IsMetOn old ps ⊎ IsIn at ps → (r ≡ first) ⊎ (slice_index_or old at None ≡ Some r) → IsMetOn old ps
        by (inl o) q = o
        by (inr i) (inl q) = absurd (other q)
        by (inr i) (inr q) = (at, i, (r, q))

      module _ (more : List (Option ℕ)) (is : more ≡ slice_set met at (Some first)) (within : at < length met) where
        at_here : slice_index_or more at None ≡ Some first
        at_here = ap (λ l. slice_index_or l at None) is ∙ get_or-set_same met at (Some first) None within

        at_other : (i : ℕ) → i ≢ at → slice_index_or more i None ≡ slice_index_or met i None
        at_other i n = ap (λ l. slice_index_or l i None) is ∙ get_or-set_other met at i (Some first) None n

        stays : (i : ℕ) → IsMet met i → IsMet more i
        stays i (r, e) = dite (ℕ_discrete i at)
            (λ q. (first, subst (λ j. slice_index_or more j None ≡ Some first) (sym q) at_here))
            (λ n. (r, at_other i n ∙ e))

        hit : (ps : List ℕ) → IsMetOn more ps → IsIn at ps ⊎ IsMetOn met ps
        hit ps (i, j, (r, e)) = dite (ℕ_discrete i at)
            (λ q. inl (subst (λ x. IsIn x ps) q j))
            (λ n. inr (i, j, (r, sym (at_other i n) ∙ e)))

        pub begun_more : IsMet more first
        begun_more = by w.begun where
          by : ((step ≡ 0) × (at ≡ first)) ⊎ IsMet met first → IsMet more first
          by (inl h) = (first, subst (λ j. slice_index_or more j None ≡ Some first) h.1 at_here)
          by (inr h) = stays first h

        pub kept_more : (i : ℕ) → IsMet old i → IsMet more i
        kept_more i h = stays i (w.kept i h)

        -- the index leads on
        pub walk_goes_on : (owner further : ℕ) → Next next at owner → IsWalked further owner more
        walk_goes_on owner further l = record {
          begun = inr begun_more;
          kept = kept_more;
          marks = λ i r e. dite (ℕ_discrete i at)
              (λ q. inl (some_is r first
              (sym e ∙ subst (λ j. slice_index_or more j None ≡ Some first) (sym q) at_here)))
              (λ n. w.marks i r (sym (at_other i n) ∙ e));
          cycles = λ m ps c h. on m ps c (hit ps h);
        }
          where
            after : (m : ℕ) (ps : List ℕ) → IsLeastCycle next m ps → IsMetOn old ps ⊎ IsIn at ps
                → IsMetOn old ps ⊎ IsIn owner ps
            after m ps c (inl o) = inl o
            after m ps c (inr i) = inr (on_next m ps c at owner i l)

            on : (m : ℕ) (ps : List ℕ) → IsLeastCycle next m ps → IsIn at ps ⊎ IsMetOn met ps
                → IsMetOn old ps ⊎ IsIn owner ps
            on m ps c (inl i) = inr (on_next m ps c at owner i l)
            on m ps c (inr h) = after m ps c (w.cycles m ps c h)

        -- the index leads nowhere, and so it is on no cycle
        pub walk_stops : slice_index_or next at None ≡ None → (m : ℕ) (ps : List ℕ) → IsLeastCycle next m ps
            → IsMetOn more ps → IsMetOn old ps
        walk_stops stuck m ps c h = on (hit ps h) where
          off : IsIn at ps → ⊥
          off i = let l = on_leads m ps c at i in let z : None ≡ Some l.0 = sym stuck ∙ l.1 in absurd (cc)

          after : IsMetOn old ps ⊎ IsIn at ps → IsMetOn old ps
          after (inl o) = o
          after (inr i) = absurd (off i)

          on : IsIn at ps ⊎ IsMetOn met ps → IsMetOn old ps
          on (inl i) = absurd (off i)
          on (inr g) = after (w.cycles m ps c g)

  -- all indexes less than n were met, and each cycle that was met has its least index told
  pub record AreMetAndTold (n : ℕ) (met : List (Option ℕ)) (least : List Bool) : Type 0 where
    pub met_length : length met ≡ length next
    pub least_length : length least ≡ length next
    pub all_met : (i : ℕ) → i < n → IsMet met i
    pub told : (m : ℕ) (ps : List ℕ) → IsLeastCycle next m ps → IsMetOn met ps → slice_index_or least m false ≡ true

  pub told_none : (met : List (Option ℕ)) (least : List Bool) → met ≡ replicate (length next) None
      → length least ≡ length next → length met ≡ length next → AreMetAndTold 0 met least
  told_none met least is l k = record {
    met_length = k;
    least_length = l;
    all_met = λ i h. absurd (omega arith);
    told = λ m ps c (i, j, (r, e)).
        let z : None ≡ Some r =
        sym (ap (λ q. slice_index_or q i None) is ∙ none_met (length next) i) ∙ e in absurd (cc);
  }

  -- one more walk
  pub told_more : (n : ℕ) (met more : List (Option ℕ)) (least further : List Bool) (found : Option ℕ)
      → AreMetAndTold n met least → length more ≡ length next → length further ≡ length least
      → IsMet more n → ((i : ℕ) → IsMet met i → IsMet more i)
      → ((m : ℕ) (ps : List ℕ) → IsLeastCycle next m ps → IsMetOn more ps
      → IsMetOn met ps ⊎ ((at : ℕ) × (found ≡ Some at) × IsIn at ps))
      → ((m : ℕ) → slice_index_or least m false ≡ true → slice_index_or further m false ≡ true)
      → ((m : ℕ) (ps : List ℕ) (at : ℕ) → IsLeastCycle next m ps → found ≡ Some at → IsIn at ps
      → slice_index_or further m false ≡ true)
      → AreMetAndTold (n + 1) more further
  told_more n met more least further found t k l here stay cycles old new = record {
    met_length = k;
    least_length = l ∙ t.least_length;
    all_met = λ i h. dite (dec_le (suc i) n) (λ b. stay i (t.all_met i b))
        (λ b. let e : n ≡ i = omega arith in subst (IsMet more) e here);
    told = λ m ps c h. by m ps c (cycles m ps c h);
  }
    where
      by : (m : ℕ) (ps : List ℕ) → IsLeastCycle next m ps
          → IsMetOn met ps ⊎ ((at : ℕ) × (found ≡ Some at) × IsIn at ps) → slice_index_or further m false ≡ true
      by m ps c (inl h) = old m (t.told m ps c h)
      by m ps c (inr (at, e, i)) = new m ps at c e i

  -- all are told
  pub told_all : (n : ℕ) (met : List (Option ℕ)) (least : List Bool) → AreMetAndTold n met least → length next ≤ n
      → AreLeastTold next least
  told_all n met least t whole m ps c =
      let l = on_leads m ps c m (first_in m ps c) in
      let h = index_less next next m l.0 l.1 in
      t.told m ps c (m, first_in m ps c, t.all_met m (omega arith))

  module _ (from : ℕ) where
    -- after so many steps, none of which came back, the walk is at this index, and this is the least on it
    pub record IsOnRound (step at least : ℕ) : Type 0 where
      pub in_range : at < length next
      pub least_in_range : least < length next
      pub reached : Reaches (Next next) from step at
      pub none : (k : ℕ) → 0 < k → k < suc step → ¬ Reaches (Next next) from k from
      pub visited : (k z : ℕ) → k ≤ step → Reaches (Next next) from k z → least ≤ z
      pub some : (k : ℕ) × Reaches (Next next) from k least

    pub round_starts : from < length next → IsOnRound 0 from from
    round_starts l = record {
      in_range = l;
      least_in_range = l;
      reached = refl;
      none = λ k x y. absurd (omega arith);
      visited = λ k z h r.
          let e : k ≡ 0 = omega arith in
          let q : from ≡ z = subst (λ j. Reaches (Next next) from j z) e r in subst (λ y. from ≤ y) q (omega arith);
      some = (0, refl);
    }

    module _ (step at least : ℕ) (w : IsOnRound step at least) where
      -- one step more
      pub round_goes_on : (owner less further : ℕ) → Next next at owner → owner ≢ from → owner < length next
          → less ≤ least → less ≤ owner → (less ≡ least) ⊎ (less ≡ owner) → further ≡ step + 1
          → IsOnRound further owner less
      round_goes_on owner less further l other inside low lower which is = record {
        in_range = inside;
        least_in_range = let h = w.least_in_range in omega arith;
        reached = subst (λ k. Reaches (Next next) from k owner) (sym up) on;
        none = λ k x y. dite (ℕ_discrete k (suc step))
            (λ e r. other (reach_one (Next next) (one next) from (suc step) owner from on
            (subst (λ j. Reaches (Next next) from j from) e r)))
            (λ n. w.none k x (omega arith));
        visited = λ k z h r. dite (dec_le k step)
            (λ b. let v = w.visited k z b r in omega arith)
            (λ b.
            let e : k ≡ suc step = omega arith in
            let q = reach_one (Next next) (one next) from (suc step) owner z on
            (subst (λ j. Reaches (Next next) from j z) e r) in subst (λ y. less ≤ y) q lower);
        some = by which;
      }
        where
          up : further ≡ suc step
          up = omega arith

          on : Reaches (Next next) from (suc step) owner
          on = (at, w.reached, l)

          by : (less ≡ least) ⊎ (less ≡ owner) → (k : ℕ) × Reaches (Next next) from k less
          by (inl e) = (w.some.0, subst (Reaches (Next next) from w.some.0) (sym e) w.some.1)
          by (inr e) = (suc step, subst (Reaches (Next next) from (suc step)) (sym e) on)

      module _ (m p : ℕ) (ps : List ℕ) (c : IsLeastCycle next m (p ∷ ps)) (i : IsIn from (p ∷ ps)) where
        abbrev there : Contains (p ∷ ps) from
        there = in_contains (p ∷ ps) from i

        abbrev size : ℕ
        size = suc (length ps)

        on : IsOnCycleOf (Next next) from size
        on = cycles_return (Next next) (one next) nat_eq Decides-eqb (p ∷ ps) from c.cycle.1 there

        to : Reaches (Next next) p there.0 from
        to = subst (Reaches (Next next) p there.0) there.2
            (at_index (Next next) p p ps c.cycle.1.1 there.0 from there.1)

        -- the least index is reached after some steps
        home : Reaches (Next next) from (size - there.0) p
        home =
            let l = there.1 in
            let e : size ≡ (size - there.0) + there.0 = omega arith in
            let s = reach_split (Next next) p there.0 (size - there.0) p
            (subst (λ k. Reaches (Next next) p k p) e (through (Next next) p p ps c.cycle.1.1)) in
            subst (λ z. Reaches (Next next) z (size - there.0) p)
            (reach_one (Next next) (one next) p there.0 s.0 from s.1 to) s.2

        not_less : m ≤ least
        not_less = reaches_greater next m (p ∷ ps) c (w.some.0 + there.0) least
            (subst (λ z. Reaches (Next next) z (w.some.0 + there.0) least) c.cycle.0
            (reach_plus (Next next) p there.0 from w.some.0 least to w.some.1))

        back : Next next at from → least ≤ m
        back l =
            let r : Reaches (Next next) from (suc step) from = (at, w.reached, l) in
            let not_fewer : ¬ (suc step < size) = λ h. on.least (suc step) (omega arith) h r in
            let not_more : ¬ (size < suc step) = λ h. w.none size on.some h on.round in
            let same : size ≡ suc step = omega (arith, not_fewer, not_more) in
            let l = there.1 in
            subst (λ z. least ≤ z) c.cycle.0 (dite (dec_le (size - there.0) step)
            (λ b. w.visited (size - there.0) p b home)
            (λ b.
            let e : size - there.0 ≡ size = omega arith in
            let q : from ≡ p = reach_one (Next next) (one next) from size from p on.round
            (subst (λ k. Reaches (Next next) from k p) e home) in
            w.visited 0 p (omega arith) q))

        stuck : slice_index_or next at None ≡ None → ⊥
        stuck e =
            let l = cycle_leads (Next next) at size
            (cycle_at (Next next) (one next) from size step at on w.reached) in
            let z : None ≡ Some l.0 = sym e ∙ l.1 in absurd (cc)

        long : length next ≤ step → ⊥
        long h = let f = cycle_fits next from size on in w.none size on.some (omega arith) on.round

      module _ (m : ℕ) where
        -- the walk comes back: it was round the cycle
        pub round_closes : (owner : ℕ) → Next next at owner → owner ≡ from → (ps : List ℕ) → IsLeastCycle next m ps
            → IsIn from ps → least ≡ m
        round_closes owner l e [] c i = absurd i
        round_closes owner l e (p ∷ ps) c i =
            let low = not_less m p ps c i in
            let high = back m p ps c i (subst (Next next at) e l) in omega arith

        -- the walk ends, and its indexes were on no cycle
        pub round_stops : slice_index_or next at None ≡ None → (ps : List ℕ) → IsLeastCycle next m ps → IsIn from ps
            → least ≡ m
        round_stops e [] c i = absurd i
        round_stops e (p ∷ ps) c i = absurd (stuck m p ps c i e)

        -- no cycle is so long
        pub round_ends : length next ≤ step → (ps : List ℕ) → IsLeastCycle next m ps → IsIn from ps → least ≡ m
        round_ends e [] c i = absurd i
        round_ends e (p ∷ ps) c i = absurd (long m p ps c i e)
