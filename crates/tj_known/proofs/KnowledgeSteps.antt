-- Knowledge, act by act: what a task knows when it begins, and what an act adds to it. These equations determine it, so
-- a row that follows them has what the least relation has.
use Rattle.std.proofs.Common.{◌≡◌, ◌<◌, ◌↔◌, ◌⊎◌, ℕ, suc, pred, Bool, true, false, List, [], Some, inl, inr, refl, sym}
use Rattle.std.proofs.Common.{ap, ◌∙◌, subst, arith}
use Rattle.tj_base.specs.ForkOrder.{Name, child}
use Rattle.tj_mean.specs.ActLines.{HasAct, AreActLines, act_count}
use Rattle.tj_mean.specs.declared.act.Act.{Act}
use Rattle.tj_mean.specs.declared.act.Act.TheVariants as act
use Rattle.tj_mean.specs.declared.act.ActLine.{ActLine}
use Rattle.tj_known.specs.Knowledge.{Knows, stays, forks, inherits, learns}
use Rattle.tj_base.proofs.ChildNames.{child_some, child_same}

-- the other task of an act
abbrev other : Act → Name
other (act.Fork c) = c
other (act.Join u answered) = u

-- whether an act is a fork
abbrev is_fork : Act → Bool
is_fork (act.Fork c) = true
is_fork (act.Join u answered) = false

-- what stands in an option is one
some_is : (a b : Act) → Some a ≡ Some b → a ≡ b
some_is a b e = cc

module _ (lines : List ActLine) where
  -- a task does one act after n acts
  pub one_act : (t s : Name) (n m : ℕ) (a b : Act) → HasAct lines t n a → HasAct lines s m b → s ≡ t → m ≡ n → a ≡ b
  one_act t s n m a b h g et en = some_is a b
      (sym h ∙ subst (λ x. HasAct lines x n b) et (subst (λ k. HasAct lines s k b) en g))

  -- a fork is no join
  pub not_both : (t s c u : Name) (n m : ℕ) (answered : Bool) → HasAct lines t n (act.Fork c)
      → HasAct lines s m (act.Join u answered) → s ≡ t → m ≡ n → ⊥
  not_both t s c u n m answered h g et en =
      let e = ap is_fork (one_act t s n m (act.Fork c) (act.Join u answered) h g et en) in absurd (cc)

  -- the same knowledge, under other words for the task and the number of acts
  moved : (t s u : Name) (n m : ℕ) → s ≡ t → m ≡ n → Knows lines s m u → Knows lines t n u
  moved t s u n m et en k = subst (λ x. Knows lines x n u) et (subst (λ j. Knows lines s j u) en k)

  one_less : (m n : ℕ) → suc m ≡ suc n → m ≡ n
  one_less m n e = ap pred e

  fork_adds : (t c : Name) (n : ℕ) → HasAct lines t n (act.Fork c) → (s u : Name) (m : ℕ)
      → Knows lines s m u → s ≡ t → m ≡ suc n → Knows lines t n u ⊎ (u ≡ c)
  fork_adds t c n h _ _ _ (stays s u m a g knew) et en = inl (moved t s u n m et (one_less m n en) knew)
  fork_adds t c n h _ _ _ (forks s d m g) et en =
      inr (ap other (sym (one_act t s n m (act.Fork c) (act.Fork d) h g et (one_less m n en))))
  fork_adds t c n h _ _ _ (inherits s d u m g knew) et en = absurd (omega arith)
  fork_adds t c n h _ _ _ (learns s w u m g knew told) et en =
      absurd (not_both t s c w n m true h g et (one_less m n en))

  -- after a fork a task knows what it knew, and the child
  pub after_fork : (t c u : Name) (n : ℕ) → HasAct lines t n (act.Fork c)
      → Knows lines t (suc n) u ↔ (Knows lines t n u ⊎ (u ≡ c))
  after_fork t c u n h = (
    λ knows. fork_adds t c n h t u (suc n) knows refl refl,
    λ either. back either,
  ) where
    back : Knows lines t n u ⊎ (u ≡ c) → Knows lines t (suc n) u
    back (inl knew) = stays t u n (act.Fork c) h knew
    back (inr e) = subst (λ x. Knows lines t (suc n) x) (sym e) (forks t c n h)

  join_adds : (t w : Name) (n : ℕ) (answered : Bool) → HasAct lines t n (act.Join w answered) → (s u : Name) (m : ℕ)
      → Knows lines s m u → s ≡ t → m ≡ suc n → Knows lines t n u
      ⊎ ((answered ≡ true) × Knows lines t n w × Knows lines w (act_count lines w) u)
  join_adds t w n answered h _ _ _ (stays s u m a g knew) et en = inl (moved t s u n m et (one_less m n en) knew)
  join_adds t w n answered h _ _ _ (forks s d m g) et en =
      absurd (not_both s t d w m n answered g h (sym et) (sym (one_less m n en)))
  join_adds t w n answered h _ _ _ (inherits s d u m g knew) et en = absurd (omega arith)
  join_adds t w n answered h _ _ _ (learns s v u m g knew told) et en =
      let one = one_act t s n m (act.Join w answered) (act.Join v true) h g et (one_less m n en) in
      let v_is : w ≡ v = ap other one in
      inr (
        is_answered one,
        moved t s w n m et (one_less m n en) (subst (λ x. Knows lines s m x) (sym v_is) knew),
        subst (λ x. Knows lines x (act_count lines x) u) (sym v_is) told,
      )
    where
      is_answered : act.Join w answered ≡ act.Join v true → answered ≡ true
      is_answered e = cc

  -- after an answered join of a task that it knew, a task knows what it knew and all that that one knows at its end
  pub after_told : (t w u : Name) (n : ℕ) → HasAct lines t n (act.Join w true) → Knows lines t n w
      → Knows lines t (suc n) u ↔ (Knows lines t n u ⊎ Knows lines w (act_count lines w) u)
  after_told t w u n h knew_w = (
    λ knows. out (join_adds t w n true h t u (suc n) knows refl refl),
    λ either. back either,
  ) where
    out : Knows lines t n u ⊎ ((true ≡ true) × Knows lines t n w × Knows lines w (act_count lines w) u)
        → Knows lines t n u ⊎ Knows lines w (act_count lines w) u
    out (inl knew) = inl knew
    out (inr x) = inr x.2

    back : Knows lines t n u ⊎ Knows lines w (act_count lines w) u → Knows lines t (suc n) u
    back (inl knew) = stays t u n (act.Join w true) h knew
    back (inr told) = learns t w u n h knew_w told

  -- after another join it knows what it knew
  pub after_join : (t w u : Name) (n : ℕ) (answered : Bool) → HasAct lines t n (act.Join w answered)
      → (answered ≡ true → ¬ Knows lines t n w) → Knows lines t (suc n) u ↔ Knows lines t n u
  after_join t w u n answered h not = (
    λ knows. out (join_adds t w n answered h t u (suc n) knows refl refl),
    λ knew. stays t u n (act.Join w answered) h knew,
  ) where
    out : Knows lines t n u ⊎ ((answered ≡ true) × Knows lines t n w × Knows lines w (act_count lines w) u)
        → Knows lines t n u
    out (inl knew) = knew
    out (inr x) = absurd (not x.0 x.1)

  module _ (fit : AreActLines lines) where
    -- of two forks of one task after different acts the numbers differ
    not_later : (t s : Name) (n m j k : ℕ) → HasAct lines t n (act.Fork (child t j))
        → HasAct lines s m (act.Fork (child s k)) → t ≡ s → j ≡ k → n < m → ⊥
    not_later t s n m j k h g et ej less =
        let g2 = subst (λ x. HasAct lines x m (act.Fork (child x k))) (sym et) g in
        let rises = fit.numbers_rise t n m j k less h g2 in omega (arith, ej)

    -- a child is forked once
    pub one_fork : (t s c : Name) (n m : ℕ) → HasAct lines t n (act.Fork c) → HasAct lines s m (act.Fork c)
        → (s ≡ t) × (m ≡ n)
    one_fork t s c n m h g =
        let a = fit.own_children t c n h in
        let b = fit.own_children s c m g in
        let one = child_same t s a.0 b.0 (sym a.1 ∙ b.1) in
        let h2 = subst (λ d. HasAct lines t n (act.Fork d)) a.1 h in
        let g2 = subst (λ d. HasAct lines s m (act.Fork d)) b.1 g in
        let before = not_later t s n m a.0 b.0 h2 g2 one.0 one.1 in
        let after = not_later s t m n b.0 a.0 g2 h2 (sym one.0) (sym one.1) in
        (sym one.0, omega (arith, before, after))

    begins : (t c : Name) (n : ℕ) → HasAct lines t n (act.Fork c) → (s u : Name) (m : ℕ) → Knows lines s m u
        → s ≡ c → m ≡ 0 → Knows lines t n u
    begins t c n h _ _ _ (inherits s d u m g knew) ec en =
        let one = one_fork t s c n m h (subst (λ x. HasAct lines s m (act.Fork x)) ec g) in
        moved t s u n m one.0 one.1 knew
    begins t c n h _ _ _ step ec en = absurd (omega arith)

    -- a child begins with what its parent knew before the fork
    pub at_begin : (t c u : Name) (n : ℕ) → HasAct lines t n (act.Fork c)
        → Knows lines c 0 u ↔ Knows lines t n u
    at_begin t c u n h = (λ knows. begins t c n h c u 0 knows refl refl, λ knew. inherits t c u n h knew)

    root_begins : (s u : Name) (m : ℕ) → Knows lines s m u → s ≡ [] → m ≡ 0 → ⊥
    root_begins _ _ _ (inherits s d u m g knew) es en =
        let own = fit.own_children s d m g in child_some s own.0 (sym own.1 ∙ es)
    root_begins _ _ _ step es en = absurd (omega arith)

    -- the root begins with nothing
    pub at_root : (u : Name) → ¬ Knows lines [] 0 u
    at_root u knows = root_begins [] u 0 knows refl refl
