-- The wait graph is a relation in which each task leads to one at most: what all such relations have, of it.
use Rattle.std.proofs.Common.{◌≡◌, ℕ, ◌<◌, nat_eq, Option, Some, None, refl, sym, ◌∙◌, subst, inl, inr, ◌⊎◌, eqb-true, eq-eqb}
use Rattle.std.specs.Bool.{Decides}
use Rattle.tj_base.specs.Cycles.{LeadsToOne, TellsWhetherOn}
use Rattle.tj_base.proofs.Ways as ways
use Rattle.tj_events.specs.CoreState.{Cells, owner, wait}
use Rattle.tj_events.specs.WaitGraph.{Leads, Reaches, IsOnCycle, IsOnCycleOf}

-- an option has one value
pub some_same : (u v : ℕ) (o : Option ℕ) → o ≡ Some u → o ≡ Some v → u ≡ v
some_same u v o a b = let e = sym a ∙ b in cc

-- whether two numbers are equal is told
pub same_numbers : (a b : ℕ) → Decides (nat_eq a b) (a ≡ b)
same_numbers a b = (eqb-true a b, eq-eqb a b)

module _ (s : Cells) where
  -- a task leads to one task at most
  pub leads_one : LeadsToOne (Leads s)
  leads_one t u v a b =
      let e : a.0 ≡ b.0 = some_same a.0 b.0 (wait s t) a.1 b.1 in
      some_same u v (owner s b.0) (subst (λ c. owner s c ≡ Some u) e a.2) b.2

  -- whether a task leads on
  pub leads_on : TellsWhetherOn (Leads s)
  leads_on t = by_wait (wait s t) refl
    where
      by_owner : (c : ℕ) → wait s t ≡ Some c → (o : Option ℕ) → owner s c ≡ o
          → ((u : ℕ) × Leads s t u) ⊎ ((u : ℕ) → ¬ Leads s t u)
      by_owner c w None e = inr (λ u l.
          let k = some_same l.0 c (wait s t) l.1 w in
          let f : None ≡ Some u = sym e ∙ subst (λ x. owner s x ≡ Some u) k l.2 in absurd (cc))
      by_owner c w (Some v) e = inl (v, (c, w, e))

      by_wait : (o : Option ℕ) → wait s t ≡ o → ((u : ℕ) × Leads s t u) ⊎ ((u : ℕ) → ¬ Leads s t u)
      by_wait None e = inr (λ u l. let f : None ≡ Some l.0 = sym e ∙ l.1 in absurd (cc))
      by_wait (Some c) e = by_owner c e (owner s c) refl

  -- k steps lead to one task at most
  pub reach_one : (t k u v : ℕ) → Reaches s t k u → Reaches s t k v → u ≡ v
  reach_one = ways.reach_one (Leads s) leads_one

  -- the next member of a cycle is on a cycle of as many tasks
  pub cycle_next : (t n u : ℕ) → IsOnCycleOf s t n → Leads s t u → IsOnCycleOf s u n
  cycle_next = ways.cycle_next (Leads s) leads_one

  -- each member of a cycle is on a cycle of as many tasks
  pub cycle_at : (t n k u : ℕ) → IsOnCycleOf s t n → Reaches s t k u → IsOnCycleOf s u n
  cycle_at = ways.cycle_at (Leads s) leads_one

  -- a member of a cycle leads to a task
  pub cycle_leads : (t n : ℕ) → IsOnCycleOf s t n → (u : ℕ) × Leads s t u
  cycle_leads = ways.cycle_leads (Leads s)

  -- a task that is reached from itself is on a cycle
  pub round_least : (t n : ℕ) → 0 < n → Reaches s t n t → IsOnCycle s t
  round_least = ways.round_least (Leads s) leads_one leads_on nat_eq same_numbers
