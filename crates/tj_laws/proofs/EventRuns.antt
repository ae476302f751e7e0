-- Short legal runs that meet the premises of the laws of events and of cycles: a task that waits for a promise of its
-- own and alarms, and one that joins its child, is parked, and whose wait is cleared.
use Rattle.std.proofs.Common.{◌≡◌, ℕ, zero, suc, List, [], ◌∷◌, Some, ap, refl, inl, arith}
use Rattle.tj_base.specs.declared.cell.CellId.{CellId}
use Rattle.tj_events.specs.declared.event.Event.{Event}
use Rattle.tj_events.specs.declared.event.Event.TheVariants.{Make, Fork, Close, Raise, Publish, LoadOthers, LoadCount}
use Rattle.tj_events.specs.declared.event.Event.TheVariants.{ReadOwner, Alarm, Settle, Unwait}
use Rattle.tj_events.specs.declared.walk.Way.TheVariants.{Along, Other}
use Rattle.tj_events.specs.CoreState.{CellState, alarmed, owner, running, stage, waits}
use Rattle.tj_events.specs.RunLaws.{run_to}
use Rattle.tj_events.specs.Runs.{IsLegalRun}
use Rattle.tj_events.specs.WaitGraph.{IsCycle, IsOnCycleOf}
use Rattle.tj_events.proofs.Graph.CycleLists.{returns_are_cycles}
use Rattle.tj_events.proofs.Events.LegalRuns.{legal_facts}
use Rattle.tj_events.proofs.OneCell.Frames.{some_none}

-- an event is allowed, and so are those behind it
pub also : {A B : Type 0} → A → B → A × B
also a b = (a, b)

-- the cell of this number
abbrev pub cell : ℕ → CellId
cell c = record { 0 = c }

-- the root makes a promise and publishes that it waits for it
abbrev pub waits_alone : List Event
waits_alone = Make (cell 0) ∷ Raise (cell 0) ∷ Publish (cell 0) (cell 1) ∷ []

waits_legal : IsLegalRun 2 waits_alone
waits_legal = also (tt, omega arith) (also tt (also (omega arith, refl) tt))

-- then it is on a cycle of its own, where OTHERS is 1
waits_round : IsOnCycleOf (run_to waits_alone).cells 0 1
waits_round = record {
  some = omega arith;
  round = (0, refl, (1, refl, refl));
  least = λ k x y r. omega (arith, x, y);
}

pub waits_cycle : (ts : List ℕ) × IsCycle (run_to waits_alone).cells (0 ∷ ts)
waits_cycle = let c = returns_are_cycles (run_to waits_alone).cells 0 1 waits_round in (c.0, c.1)

-- and it walks and alarms
abbrev pub alarms_alone : List Event
alarms_alone = Make (cell 0) ∷ Raise (cell 0) ∷ Publish (cell 0) (cell 1) ∷ LoadCount (cell 0) ∷ ReadOwner (cell 0)
    ∷ Alarm (cell 0) ∷ []

alarms_legal : IsLegalRun 2 alarms_alone
alarms_legal = also (tt, omega arith) (also tt (also (omega arith, refl) (
    also (1, Other, _, refl, inl (refl, refl)) (also (1, Other, _, refl, inl refl) (
    also (1, Other, _, refl, refl) tt)))))

alarms_end : stage (run_to alarms_alone).cells 0 ≡ waits 1 Other alarmed
alarms_end = refl

-- the root forks a child and joins it; it is parked, the child closes its result, and the wait is cleared
abbrev pub cleared_once : List Event
cleared_once = Fork (cell 0) ∷ Publish (cell 0) (cell 1) ∷ LoadOthers (cell 0) ∷ Settle (cell 0)
    ∷ Close (cell 1) (cell 1) ∷ Unwait (cell 0) ∷ []

-- the same up to the close
abbrev settled_once : List Event
settled_once = Fork (cell 0) ∷ Publish (cell 0) (cell 1) ∷ LoadOthers (cell 0) ∷ Settle (cell 0) ∷ []

settled_legal : IsLegalRun 2 settled_once
settled_legal = also (tt, omega arith) (also (omega arith, tt) (also (1, Along, _, refl, (refl, refl)) (
    also (1, Along, _, refl, refl) tt)))

only_result : (c : ℕ) → owner (run_to settled_once).cells c ≡ Some 1 → c ≡ 1
only_result zero e = absurd (cc)
only_result (suc zero) e = refl
only_result (suc (suc c)) e = some_none e (ap (λ (y : CellState). y.owner)
    ((legal_facts 2 settled_once settled_legal).places.blanks (suc (suc c)) (omega arith)))

cleared_legal : IsLegalRun 2 cleared_once
cleared_legal = also (tt, omega arith) (also (omega arith, tt) (also (1, Along, _, refl, (refl, refl)) (
    also (1, Along, _, refl, refl) (also (tt, refl, λ e. only_result) (also (1, Along, refl, refl) tt)))))

cleared_end : stage (run_to cleared_once).cells 0 ≡ running
cleared_end = refl
