-- Standing cycles as lists of tasks, and how many tasks they have.
use Rattle.std.proofs.Common.{◌≡◌, ℕ, ◌<◌, ◌≤◌, nat_eq, ◌∷◌, length, Some, subst}
use Rattle.std.proofs.lemmas.Map.Made.{is_member-Decides}
use Rattle.std.proofs.lemmas.Map.Steps.{length-le_from_distinct_below}
use Rattle.tj_base.proofs.CycleLists as lists
use Rattle.tj_events.specs.CoreState.{CoreState, wait}
use Rattle.tj_events.specs.WaitGraph.{Leads, IsOnCycleOf}
use Rattle.tj_events.specs.CoreFacts.{CoreFacts}
use Rattle.tj_events.specs.Laws.{CyclesReturn, ReturnsAreCycles, CyclesAreOne}
use Rattle.tj_events.proofs.Graph.WaitSteps.{leads_one, same_numbers, cycle_leads}
use Rattle.tj_events.proofs.Graph.ForkOrders.{waiter_there}

-- a task that is on a cycle of n tasks is the first of one
pub returns_are_cycles : ReturnsAreCycles
returns_are_cycles s = lists.returns_are_cycles (Leads s) (leads_one s) nat_eq same_numbers

-- each task of a cycle is on a cycle of that many tasks
pub cycles_return : CyclesReturn
cycles_return s = lists.cycles_return (Leads s) (leads_one s) nat_eq same_numbers

-- the tasks of a cycle from t on are one list
pub cycle_one : CyclesAreOne
cycle_one s = lists.cycle_one (Leads s) (leads_one s) nat_eq same_numbers

-- the tasks of a cycle are distinct, and are there as each of them waits
pub cycle_fits_there : (s : CoreState) (t n : ℕ) → IsOnCycleOf s.cells t n
    → ((t c : ℕ) → wait s.cells t ≡ Some c → t < s.count) → n ≤ s.count
cycle_fits_there s t n c there =
    let x = returns_are_cycles s.cells t n c in
    subst (λ m. m ≤ s.count) x.2 (length-le_from_distinct_below (t ∷ x.0) s.count x.1.0
    (λ q h.
    let w = (is_member-Decides same_numbers (t ∷ x.0) q).0 h in
    let l = cycle_leads s.cells q (length (t ∷ x.0)) (cycles_return s.cells (t ∷ x.0) q x.1 w) in
    there q l.1.0 l.1.1))

-- so they are in a state that meets the facts
pub cycle_fits : (s : CoreState) (t n : ℕ) → IsOnCycleOf s.cells t n → CoreFacts s → n ≤ s.count
cycle_fits s t n c x = cycle_fits_there s t n c (waiter_there s x)
