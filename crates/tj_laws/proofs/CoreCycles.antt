-- Cycles of the core: each member waits on for the same cell, and none stands where OTHERS is 0.
use Rattle.std.proofs.Common.{◌≡◌, ℕ, zero, List, [], ◌∷◌, length, Some, Contains, refl, subst, arith}
use Rattle.tj_events.specs.declared.event.Event.{Event}
use Rattle.tj_events.specs.CoreState.{CoreState, owner, wait}
use Rattle.tj_events.specs.Events.{Allowed, after}
use Rattle.tj_events.specs.Runs.{AreAllowed, after_all}
use Rattle.tj_events.specs.WaitGraph.{IsCycle}
use Rattle.tj_events.specs.CoreFacts.{CoreFacts}
use Rattle.tj_events.proofs.OneCell.Frames.{Frame, wait_stays}
use Rattle.tj_events.proofs.Graph.WaitSteps.{cycle_leads, some_same}
use Rattle.tj_events.proofs.Graph.Chains.{cycle_list_on}
use Rattle.tj_events.proofs.Graph.CycleLists.{cycles_return}
use Rattle.tj_events.proofs.Graph.ForkOrders.{no_return}
use Rattle.tj_events.proofs.Events.EachEvent.{kept_by_event}
use Rattle.tj_events.proofs.Events.LegalRuns.{kept_by_run}

-- a member's wait is for a cell that is owned
owned_wait : (s : CoreState) (tasks : List ℕ) (t c : ℕ) → IsCycle s.cells tasks → Contains tasks t
    → wait s.cells t ≡ Some c → (v : ℕ) × (owner s.cells c ≡ Some v)
owned_wait s tasks t c cycle has is =
    let l = cycle_leads s.cells t (length tasks) (cycles_return s.cells tasks t cycle has) in
    (l.0, subst (λ k. owner s.cells k ≡ Some l.0) (some_same l.1.0 c (wait s.cells t) l.1.1 is) l.1.2)

-- it waits on over a change that takes nothing away
waits_over : (s s' : CoreState) → Frame s s' → (tasks : List ℕ) (t c : ℕ) → IsCycle s.cells tasks → Contains tasks t
    → wait s.cells t ≡ Some c → wait s'.cells t ≡ Some c
waits_over s s' f tasks t c cycle has is =
    let o = owned_wait s tasks t c cycle has is in wait_stays s s' f t c o.0 is o.1

module _ (from : CoreState) (tasks : List ℕ) where
  -- the cycle stands, with the cells that its members waited for at first
  abbrev pub StandsOn : CoreState → Type 0
  StandsOn s = IsCycle s.cells tasks
      × ((t c : ℕ) → Contains tasks t → wait from.cells t ≡ Some c → wait s.cells t ≡ Some c)

  stands_over : (s s' : CoreState) → Frame s s' → StandsOn s → StandsOn s'
  stands_over s s' f h = (
    cycle_list_on s s' f tasks h.0,
    λ t c has is. waits_over s s' f tasks t c h.0 has (h.1 t c has is),
  )

  stands_after : (N : ℕ) (s : CoreState) (e : Event) → CoreFacts s → Allowed N s e → StandsOn s → StandsOn (after s e)
  stands_after N s e x a h = let k = kept_by_event N s e x a in
      stands_over k.1.0 (after s e) k.1.2.frame (stands_over s k.1.0 k.1.1.frame h)

  -- so it does after any allowed events
  pub stands_on : (N : ℕ) (es : List Event) → CoreFacts from → AreAllowed N from es → IsCycle from.cells tasks
      → StandsOn (after_all from es)
  stands_on N es x a cycle = kept_by_run N StandsOn (stands_after N) from es x a (cycle, λ t c has is. is)

-- where OTHERS is 0 no cycle stands
pub none_stands : (s : CoreState) → CoreFacts s → s.others ≡ 0 → (tasks : List ℕ) → ¬ IsCycle s.cells tasks
none_stands s x none [] c = absurd c
none_stands s x none (t ∷ ts) c =
    let r = cycles_return s.cells (t ∷ ts) t c (zero, omega arith, refl) in
    absurd (no_return s x none t (length (t ∷ ts)) r.some r.round)
