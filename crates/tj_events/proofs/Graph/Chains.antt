-- Chains of waits, and how cycles of the wait graph go on over an event.
use Rattle.std.proofs.Common.{◌≡◌, ℕ, suc, nat_eq, List, [], ◌∷◌, length, Some, refl, subst}
use Rattle.tj_base.proofs.CyclesOn.{cycle_moves, cycle_list_moves}
use Rattle.tj_events.specs.CoreState.{Cells, CoreState, owner, wait, present}
use Rattle.tj_events.specs.declared.walk.TrailLink.{TrailLink}
use Rattle.tj_events.specs.WaitGraph.{Leads, IsCycle, Reaches, IsOnCycle, IsOnCycleOf}
use Rattle.tj_events.specs.Facts.{IsPresentChain}
use Rattle.tj_events.proofs.Graph.WaitSteps.{some_same, leads_one, cycle_at, cycle_leads}
use Rattle.tj_events.proofs.OneCell.Frames.{Frame, leads_stays}

module _ (s : Cells) where
  -- the task at the end of a chain of waits from t
  pub chain_end : (t p : ℕ) (ls : List TrailLink)
      → wait s t ≡ Some p
      → IsPresentChain s p ls
      → (x : ℕ) × Reaches s t (length ls) x × (wait s x ≡ Some (present p ls))
  chain_end t p [] w h = (t, refl, w)
  chain_end t p (l ∷ ls) w h =
      let x = chain_end t p ls w h.1 in (l.owner, (x.0, x.1, (present p ls, x.2, h.0.0)), h.0.1)

  -- on a cycle the cell at the end of such a chain has an owner
  pub chain_owner : (t n p : ℕ) (ls : List TrailLink)
      → IsOnCycleOf s t n
      → wait s t ≡ Some p
      → IsPresentChain s p ls
      → (v : ℕ) × (owner s (present p ls) ≡ Some v) × Reaches s t (suc (length ls)) v
  chain_owner t n p ls c w h =
      let x = chain_end t p ls w h in
      let l = cycle_leads s x.0 n (cycle_at s t n (length ls) x.0 c x.1) in
      let e : l.1.0 ≡ present p ls = some_same l.1.0 (present p ls) (wait s x.0) l.1.1 x.2 in
      (l.0, subst (λ z. owner s z ≡ Some l.0) e l.1.2, (x.0, x.1, l.1))

-- a cycle goes on over an event, with as many tasks
pub cycle_on : (s s' : CoreState) → Frame s s' → (t n : ℕ) → IsOnCycleOf s.cells t n → IsOnCycleOf s'.cells t n
cycle_on s s' f =
    cycle_moves (Leads s.cells) (Leads s'.cells) (leads_stays s s' f) (leads_one s.cells) (leads_one s'.cells)

-- and as a list of tasks
pub cycle_list_on : (s s' : CoreState) → Frame s s' → (tasks : List ℕ) → IsCycle s.cells tasks → IsCycle s'.cells tasks
cycle_list_on s s' f = cycle_list_moves (Leads s.cells) (Leads s'.cells) (leads_stays s s' f) nat_eq

-- who is on a cycle stays on one
pub on_cycle_on : (s s' : CoreState) → Frame s s' → (t : ℕ) → IsOnCycle s.cells t → IsOnCycle s'.cells t
on_cycle_on s s' f t c = (c.0, cycle_on s s' f t c.0 c.1)
