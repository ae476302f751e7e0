-- An agenda from which indexes are taken, where tasks stop and are noted, and where tasks are woken.
use Rattle.std.proofs.Common.{◌≡◌, ℕ, zero, suc, ◌+◌, ◌<◌, ◌≤◌, ◌⊎◌, inl, inr, Bool, true, false, cond}
use Rattle.std.proofs.Common.{List, [], ◌∷◌, ◌++◌, map, length, get_or, take, refl, sym, ap, ◌∙◌, subst, arith}
use Rattle.std.proofs.Common.{Option, Some, None, append-nil, length-append}
use Rattle.std.proofs.lemmas.List.{take_more}
use Rattle.std.specs.Global.{Global}
use Rattle.std.specs.Prelude.{Vec, slice_set}
use native.Mathlib.Decide.{dec_le}
use mathlib.Core.Logic.{dite}
use Rattle.tj_base.specs.ForkOrder.{Name}
use Rattle.tj_body.specs.History.{Assignment}
use Rattle.tj_body.specs.Names.{same}
use Rattle.tj_body.specs.Points.{HasStopped, IsIn}
use Rattle.tj_body.specs.declared.point.Entry.{Entry}
use Rattle.tj_body.specs.declared.point.Point.{Point}
use Rattle.tj_body.specs.declared.point.PointStage.{PointStage}
use Rattle.tj_body.specs.declared.point.PointStage.TheVariants as stage
use Rattle.tj_body.proofs.Counts.{same_self, same_is}
use Rattle.tj_body.proofs.Lists.{to_map}
use Rattle.tj_mean.specs.Inner.Agendas.{IsAhead, IsNotedAt, IsNoted, IsAgendaOf}
use Rattle.tj_mean.specs.Inner.NameMaps.{value_at}
use Rattle.tj_mean.specs.Inner.Reached.{Enters, emptied}
use Rattle.tj_mean.specs.declared.agenda.Agenda.{Agenda}
use Rattle.tj_mean.specs.declared.name_map.NameMap.{NameMap}
use Rattle.tj_mean.proofs.Lists.Elements.{in_left, in_right, in_snoc}

-- what stands at an index where an element is replaced or a list is longer
module _ {A : Type 0} where
  pub set_here : (l : List A) (i : ℕ) (x d : A) → i < length l → get_or (slice_set l i x) i d ≡ x
  set_here [] i x d h = absurd (omega arith)
  set_here (y ∷ ys) zero x d h = refl
  set_here (y ∷ ys) (suc i) x d h = set_here ys i x d (omega arith)

  set_other : (l : List A) (i j : ℕ) (x d : A) → (j < i) ⊎ (i < j) → get_or (slice_set l i x) j d ≡ get_or l j d
  set_other [] i j x d h = refl
  set_other (y ∷ ys) zero zero x d (inl h) = absurd (omega arith)
  set_other (y ∷ ys) zero zero x d (inr h) = absurd (omega arith)
  set_other (y ∷ ys) zero (suc j) x d h = refl
  set_other (y ∷ ys) (suc i) zero x d h = refl
  set_other (y ∷ ys) (suc i) (suc j) x d (inl h) = set_other ys i j x d (inl (omega arith))
  set_other (y ∷ ys) (suc i) (suc j) x d (inr h) = set_other ys i j x d (inr (omega arith))

  pub set_length : (l : List A) (i : ℕ) (x : A) → length (slice_set l i x) ≡ length l
  set_length [] i x = refl
  set_length (y ∷ ys) zero x = refl
  set_length (y ∷ ys) (suc i) x = ap suc (set_length ys i x)

  pub in_front : (l m : List A) (i : ℕ) (d : A) → i < length l → get_or (l ++ m) i d ≡ get_or l i d
  in_front [] m i d h = absurd (omega arith)
  in_front (y ∷ ys) m zero d h = refl
  in_front (y ∷ ys) m (suc i) d h = in_front ys m i d (omega arith)

-- the last index is taken: it, or who is still ahead
module _ (woken rest : List ℕ) (at fresh : ℕ) (last : woken ≡ rest ++ at ∷ []) where
  pub popped : (i : ℕ) → IsIn i woken ⊎ (fresh ≤ i) → (i ≡ at) ⊎ (IsIn i rest ⊎ (fresh ≤ i))
  popped i (inl k) = by (in_snoc rest i at (subst (IsIn i) last k)) where
    by : IsIn i rest ⊎ (i ≡ at) → (i ≡ at) ⊎ (IsIn i rest ⊎ (fresh ≤ i))
    by (inl j) = inr (inl j)
    by (inr e) = inl e
  popped i (inr l) = inr (inr l)

  -- it isn't one of so many tasks
  pub passed : (count : ℕ) → count ≤ at → (i : ℕ) → i < count → IsIn i woken ⊎ (fresh ≤ i)
      → IsIn i rest ⊎ (fresh ≤ i)
  passed count l i h k = by (popped i k) where
    by : (i ≡ at) ⊎ (IsIn i rest ⊎ (fresh ≤ i)) → IsIn i rest ⊎ (fresh ≤ i)
    by (inl e) = absurd (omega arith)
    by (inr r) = r

-- nobody is woken
module _ (woken rest : List ℕ) (fresh : ℕ) (all : woken ≡ rest ++ []) where
  -- the first one that was never taken up is taken
  pub begun : (i : ℕ) → IsIn i woken ⊎ (fresh ≤ i) → (i ≡ fresh) ⊎ (IsIn i rest ⊎ (fresh + 1 ≤ i))
  begun i (inl k) = inr (inl (subst (IsIn i) (all ∙ append-nil rest) k))
  begun i (inr l) = dite (dec_le i fresh) (λ m. inl (omega arith)) (λ m. inr (inr (omega arith)))

  -- none of so many tasks is ahead
  pub nobody : (count : ℕ) → length rest ≡ 0 → count ≤ fresh → (i : ℕ) → i < count → IsIn i woken ⊎ (fresh ≤ i) → ⊥
  nobody count z l i h (inl k) = none rest z (subst (IsIn i) (all ∙ append-nil rest) k) where
    none : (xs : List ℕ) → length xs ≡ 0 → IsIn i xs → ⊥
    none [] e j = j
    none (x ∷ xs) e j = absurd (omega arith)
  nobody count z l i h (inr m) = absurd (omega arith)

-- the names of one write more
pub names_more : (ws : List (Name × Entry)) (k : ℕ) (w : Name × Entry) → k < length ws → w ≡ get_or ws k w
    → map (λ x. x.0) (take (k + 1) ws) ≡ map (λ x. x.0) (take k ws) ++ w.0 ∷ []
names_more ws k w h e =
    ap (λ (l : List (Name × Entry)). map (λ (x : Name × Entry). x.0) l)
    (take_more ws k w h ∙ ap (λ z. take k ws ++ z ∷ []) (sym e)) ∙ mapped (take k ws) where
      mapped : (l : List (Name × Entry)) → map (λ (x : Name × Entry). x.0) (l ++ w ∷ [])
          ≡ map (λ (x : Name × Entry). x.0) l ++ w.0 ∷ []
      mapped [] = refl
      mapped (x ∷ l) = ap (λ z. x.0 ∷ z) (mapped l)

-- who was noted under one of these cells is woken, and the others are noted still
abbrev pub IsWoken : Agenda → Agenda → List Name → Type 0
IsWoken start now names = ((q : Name) (i : ℕ) → IsNotedAt start.waiting q i
    → IsIn i now.woken.items ⊎ IsNotedAt now.waiting q i)
    × ((q : Name) (i : ℕ) → IsIn q names → ¬ IsNotedAt now.waiting q i)
    × (now.fresh ≡ start.fresh)

-- a map from which a cell is taken
module _ (old mid : NameMap (Vec ℕ Global)) (q : Name)
    (taken : (x : Name) → value_at mid x ≡ cond (same x q) None (value_at old x)) where
  at_it : (x : Name) → same x q ≡ true → value_at mid x ≡ None
  at_it x s = taken x ∙ ap (λ b. cond b None (value_at old x)) s

  at_other : (x : Name) → same x q ≡ false → value_at mid x ≡ value_at old x
  at_other x s = taken x ∙ ap (λ b. cond b None (value_at old x)) s

  -- the cell's indexes are woken
  module _ (start : NameMap (Vec ℕ Global)) (woken woken' : List ℕ)
      (so_far : (x : Name) (i : ℕ) → IsNotedAt start x i → IsIn i woken ⊎ IsNotedAt old x i)
      (more : (i : ℕ) → IsIn i woken → IsIn i woken')
      (all : (l : Vec ℕ Global) → value_at old q ≡ Some l → (i : ℕ) → IsIn i l.items → IsIn i woken') where
    woken_too : (x : Name) (i : ℕ) → IsNotedAt start x i → IsIn i woken' ⊎ IsNotedAt mid x i
    woken_too x i k = by (so_far x i k) where
      by : IsIn i woken ⊎ IsNotedAt old x i → IsIn i woken' ⊎ IsNotedAt mid x i
      by (inl j) = inl (more i j)
      by (inr h) = at (same x q) refl where
        at : (b : Bool) → same x q ≡ b → IsIn i woken' ⊎ IsNotedAt mid x i
        at true s = inl (all h.0 (sym (ap (λ z. value_at old z) (same_is x q s)) ∙ h.1) i h.2)
        at false s = inr (h.0, at_other x s ∙ h.1, h.2)

  gone_too : (names : List Name) → ((x : Name) (i : ℕ) → IsIn x names → ¬ IsNotedAt old x i)
      → (x : Name) (i : ℕ) → IsIn x (names ++ q ∷ []) → ¬ IsNotedAt mid x i
  gone_too names gone x i k h = by (in_snoc names x q k) (same x q) refl where
    by : IsIn x names ⊎ (x ≡ q) → (b : Bool) → same x q ≡ b → ⊥
    by j true s = let e : None ≡ Some h.0 = sym (at_it x s) ∙ h.1 in absurd (cc)
    by (inl j) false s = gone x i j (h.0, sym (at_other x s) ∙ h.1, h.2)
    by (inr e) false s =
        let t : true ≡ false = sym (subst (λ z. same x z ≡ true) e (same_self x)) ∙ s in absurd (cc)

  -- the cell gets its indexes again, with one more
  module _ (new : NameMap (Vec ℕ Global)) (before after : Vec ℕ Global) (i : ℕ)
      (put : (x : Name) → value_at new x ≡ cond (same x q) (Some after) (value_at mid x))
      (longer : after.items ≡ before.items ++ i ∷ [])
      (were : (l : Vec ℕ Global) → value_at old q ≡ Some l → before ≡ l) where
    now_at : (b : Bool) (x : Name) → same x q ≡ b → value_at new x ≡ cond b (Some after) (value_at mid x)
    now_at b x s = put x ∙ ap (λ c. cond c (Some after) (value_at mid x)) s

    pub now_noted : IsNotedAt new q i
    now_noted = (after, now_at true q (same_self q), subst (IsIn i) (sym longer) (in_right before.items i i refl))

    pub noted_still : (x : Name) (j : ℕ) → IsNotedAt old x j → IsNotedAt new x j
    noted_still x j h = by (same x q) refl where
      by : (b : Bool) → same x q ≡ b → IsNotedAt new x j
      by true s =
          let e = were h.0 (sym (ap (λ z. value_at old z) (same_is x q s)) ∙ h.1) in (
            after,
            now_at true x s,
            subst (IsIn j) (sym longer)
                (in_left before.items j i (subst (λ (v : Vec ℕ Global). IsIn j v.items) (sym e) h.2)),
          )
      by false s = (h.0, now_at false x s ∙ (at_other x s ∙ h.1), h.2)

-- one cell more
pub woken_more : (start old new : Agenda) (names : List Name) (q : Name) → IsWoken start old names
    → ((x : Name) → value_at new.waiting x ≡ cond (same x q) None (value_at old.waiting x)) → new.fresh ≡ old.fresh
    → ((i : ℕ) → IsIn i old.woken.items → IsIn i new.woken.items)
    → ((l : Vec ℕ Global) → value_at old.waiting q ≡ Some l → (i : ℕ) → IsIn i l.items → IsIn i new.woken.items)
    → IsWoken start new (names ++ q ∷ [])
woken_more start old new names q h taken fresh more all = (
  woken_too old.waiting new.waiting q taken start.waiting old.woken.items new.woken.items h.0 more all,
  gone_too old.waiting new.waiting q taken names h.1,
  fresh ∙ h.2,
)

-- who is noted stays so where each noted index does
noted_on : (m n : NameMap (Vec ℕ Global)) → ((q : Name) (j : ℕ) → IsNotedAt m q j → IsNotedAt n q j)
    → (i : ℕ) (s : PointStage) → IsNoted m i s → IsNoted n i s
noted_on m n keeps i (stage.Answered a) h = h
noted_on m n keeps i (stage.Waits q spare) h = keeps q i h
noted_on m n keeps i (stage.Closed e) h = h

unequal : (i j : ℕ) → (i < j) ⊎ (j < i) → i ≡ j → ⊥
unequal i j (inl l) e = absurd (omega arith)
unequal i j (inr l) e = absurd (omega arith)

module _ {B : Type 0} where
  -- the task has stopped, and is noted
  abbrev Rests : Assignment → Agenda → ℕ → Point B → Type 0
  Rests V a i p = HasStopped V p × IsNoted a.waiting i p.stage

  module _ (V : Assignment) (a : Agenda) (qs : List (Point B)) (w : IsAgendaOf V a qs) where
    -- where nobody is ahead, all have stopped
    pub all_rest : ((i : ℕ) → i < length qs → ¬ IsAhead a i) → (i : ℕ) (d : Point B) → i < length qs
        → Rests V a i (get_or qs i d)
    all_rest none i d h = by (w.known i d h) where
      by : IsAhead a i ⊎ Rests V a i (get_or qs i d) → Rests V a i (get_or qs i d)
      by (inl k) = absurd (none i h k)
      by (inr r) = r

    -- an agenda with the same notes is one of them, too
    pub nobody_left : (b : Agenda) → b.waiting ≡ a.waiting → (a.fresh ≤ length qs → b.fresh ≤ length qs)
        → ((i : ℕ) → i < length qs → ¬ IsAhead a i) → IsAgendaOf V b qs
    nobody_left b notes within none = record {
      within = within w.within;
      known = λ i d h.
          let r = all_rest none i d h in inr (r.0, subst (λ m. IsNoted m i (get_or qs i d).stage) (sym notes) r.1);
    }

    -- a task is taken from the agenda, stops and is noted, and others begin
    module _ (b c : Agenda) (at : ℕ) (end : Point B) (rest ms : List (Point B))
        (rest_is : rest ≡ slice_set qs at (emptied end) ++ ms) (there : at < length qs)
        (others : (i : ℕ) → i < length qs → IsAhead a i → (i ≡ at) ⊎ IsAhead b i)
        (within : a.fresh ≤ length qs → b.fresh ≤ length qs) (notes : b.waiting ≡ a.waiting)
        (stopped : HasStopped V end) (noted : IsNoted c.waiting at end.stage)
        (keeps : (q : Name) (i : ℕ) → IsNotedAt b.waiting q i → IsNotedAt c.waiting q i)
        (ahead : (c.woken ≡ b.woken) × (c.fresh ≡ b.fresh)) where
      stays_ahead : (i : ℕ) → IsAhead b i → IsAhead c i
      stays_ahead i (inl k) = inl (subst (λ (v : Vec ℕ Global). IsIn i v.items) (sym ahead.0) k)
      stays_ahead i (inr l) = inr (subst (λ n. n ≤ i) (sym ahead.1) l)

      abbrev front : List (Point B)
      front = slice_set qs at (emptied end)

      other : (i : ℕ) (d : Point B) → i < length qs → (i < at) ⊎ (at < i)
          → IsAhead c i ⊎ Rests V c i (get_or front i d)
      other i d h apart = by (w.known i d h) where
        from : (i ≡ at) ⊎ IsAhead b i → IsAhead c i
        from (inl e) = absurd (unequal i at apart e)
        from (inr k) = stays_ahead i k

        by : IsAhead a i ⊎ Rests V a i (get_or qs i d) → IsAhead c i ⊎ Rests V c i (get_or front i d)
        by (inl k) = inl (from (others i h k))
        by (inr r) = inr (subst (Rests V c i) (sym (set_other qs at i (emptied end) d apart)) (
          r.0,
          noted_on a.waiting c.waiting (λ q j k. keeps q j (subst (λ m. IsNotedAt m q j) (sym notes) k)) i
              (get_or qs i d).stage r.1,
        ))

      itself : (d : Point B) → Rests V c at (get_or front at d)
      itself d = subst (Rests V c at) (sym (set_here qs at (emptied end) d there)) (stopped, noted)

      in_its_place : (i : ℕ) (d : Point B) → i < length qs → IsAhead c i ⊎ Rests V c i (get_or front i d)
      in_its_place i d h =
          dite (dec_le at i)
          (λ k. dite (dec_le i at)
          (λ m. let e : i ≡ at = omega arith in
          subst (λ j. IsAhead c j ⊎ Rests V c j (get_or front j d)) (sym e) (inr (itself d)))
          (λ m. other i d h (inr (omega arith))))
          (λ k. other i d h (inl (omega arith)))

      pub taken_up : IsAgendaOf V c rest
      taken_up = subst (IsAgendaOf V c) (sym rest_is) (record {
        within =
            let l = within w.within in
            let e = ahead.1 in
            let f = set_length qs at (emptied end) in
            let g = length-append front ms in
            omega arith;
        known = known;
      })
        where
          known : (i : ℕ) (d : Point B) → i < length (front ++ ms)
              → IsAhead c i ⊎ Rests V c i (get_or (front ++ ms) i d)
          known i d h =
              let f = set_length qs at (emptied end) in
              let l = within w.within in
              let e = ahead.1 in
              dite (dec_le (length qs) i)
              (λ k. inl (inr (omega arith)))
              (λ k. subst (λ z. IsAhead c i ⊎ Rests V c i z) (sym (in_front front ms i d (omega arith)))
              (in_its_place i d (omega arith)))

    -- where all have stopped, those are woken for whose cells there are entries now, and others begin
    module _ (F : Assignment) (writes : List (Name × Entry)) (enters : Enters writes V F) (b : Agenda)
        (woken : IsWoken a b (map (λ w. w.0) writes)) (none : (i : ℕ) → i < length qs → ¬ IsAhead a i)
        (rest ms : List (Point B)) (rest_is : rest ≡ qs ++ ms) where
      -- no entry came for a cell under which the index is noted still
      still_none : (q : Name) (i : ℕ) → IsNotedAt b.waiting q i → V q ≡ None → F q ≡ None
      still_none q i k n = by (F q) refl where
        by : (o : Option Entry) → F q ≡ o → F q ≡ None
        by None f = f
        by (Some x) f = from (enters.only q x f) where
          from : IsIn (q, x) writes ⊎ (V q ≡ Some x) → F q ≡ None
          from (inl j) = absurd (woken.1 q i (to_map (λ (w : Name × Entry). w.0) (q, x) writes j) k)
          from (inr g) = let z : None ≡ Some x = sym n ∙ g in absurd (cc)

      goes_on : (i : ℕ) (p : Point B) → Rests V a i p → IsAhead b i ⊎ Rests F b i p
      goes_on i p (inl c, n) = inr (inl c, subst (IsNoted b.waiting i) (sym c.1) tt)
      goes_on i p (inr h, n) = by (woken.0 h.0 i (subst (IsNoted a.waiting i) h.2 n)) where
        by : IsIn i b.woken.items ⊎ IsNotedAt b.waiting h.0 i → IsAhead b i ⊎ Rests F b i p
        by (inl k) = inl (inl k)
        by (inr k) =
            inr (inr (h.0, h.1, h.2, still_none h.0 i k h.3), subst (IsNoted b.waiting i) (sym h.2) k)

      pub agenda_next : IsAgendaOf F b rest
      agenda_next = subst (IsAgendaOf F b) (sym rest_is) (record {
        within = let e = woken.2 in let l = w.within in let g = length-append qs ms in omega arith;
        known = known;
      })
        where
          known : (i : ℕ) (d : Point B) → i < length (qs ++ ms) → IsAhead b i ⊎ Rests F b i (get_or (qs ++ ms) i d)
          known i d h =
              let l = w.within in
              let e = woken.2 in
              dite (dec_le (length qs) i)
              (λ k. inl (inr (omega arith)))
              (λ k. subst (λ z. IsAhead b i ⊎ Rests F b i z) (sym (in_front qs ms i d (omega arith)))
              (goes_on i (get_or qs i d) (all_rest none i d (omega arith))))
