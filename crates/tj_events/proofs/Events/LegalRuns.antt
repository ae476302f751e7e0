-- The facts over runs of events. Who is on a cycle when it has published stays on course, so it never settles.
use Rattle.std.proofs.Common.{◌≡◌, ℕ, List, [], ◌∷◌, sym, subst, rules}
use Rattle.tj_events.specs.declared.event.Event.{Event}
use Rattle.tj_events.specs.declared.event.Event.TheVariants.{Publish}
use Rattle.tj_events.specs.CoreState.{walks, waits, CoreState, root_alone, stage}
use Rattle.tj_events.specs.Events.{Allowed, after, way_of_wait, start_walk}
use Rattle.tj_events.specs.WaitGraph.{IsOnCycleOf}
use Rattle.tj_events.specs.Runs.{AreAllowed, after_all}
use Rattle.tj_events.specs.EventLaws.{WatchesItsCycle}
use Rattle.tj_events.specs.Facts.{Watches}
use Rattle.tj_events.specs.CoreFacts.{CoreFacts}
use Rattle.tj_events.specs.Laws.{StartMeetsFacts, LegalRunsMeetFacts, OnCourseIsOpen, SettlesOffCycles, CyclesStand}
use Rattle.tj_events.proofs.Puts.{re_here}
use Rattle.tj_events.proofs.Graph.Chains.{cycle_on}
use Rattle.tj_events.proofs.Events.WalkEnds.{off_course}
use Rattle.tj_events.proofs.Events.EachEvent.{kept_by_event, facts_after_event}
use Rattle.tj_events.proofs.Events.EventEffects.{event_keeps_watches}

-- the state with the root alone meets the facts
pub start_facts : StartMeetsFacts
start_facts = search rules

-- what each allowed event keeps, a run of them keeps
pub kept_by_run : (N : ℕ) (P : CoreState → Type 0)
    → ((s : CoreState) (e : Event) → CoreFacts s → Allowed N s e → P s → P (after s e))
    → (s : CoreState) (es : List Event) → CoreFacts s → AreAllowed N s es → P s → P (after_all s es)
kept_by_run N P keeps s [] x a p = p
kept_by_run N P keeps s (e ∷ es) x a p =
    kept_by_run N P keeps (after s e) es (facts_after_event N s e x a.0) a.1 (keeps s e x a.0 p)

-- a legal run ends in a state that meets the facts
pub legal_facts : LegalRunsMeetFacts
legal_facts N es legal =
    kept_by_run N CoreFacts (λ s e x a _. facts_after_event N s e x a) root_alone es start_facts legal start_facts

-- a walk that is on course is open
pub on_course_open : OnCourseIsOpen
on_course_open cells n p w on_course ends = off_course cells n p w w.last ends on_course

-- a task settles only where no cycle through it stood just after it had published
pub settles_off_cycles : SettlesOffCycles
settles_off_cycles N s t p es x a (c, way, w, is, ends) (n, cycle) =
    let z = after s (Publish t p) in
    let y = facts_after_event N s (Publish t p) x a.0 in
    let start = waits p.0 (way_of_wait s t.0 p.0) (walks start_walk) in
    let here : stage z.cells t.0 ≡ start = re_here s t.0 (λ _. start) in
    let h = kept_by_run N (λ u. WatchesItsCycle u t.0 n) (λ u e. event_keeps_watches N u e t.0 n) z es y a.1
    (record { on_cycle = cycle; watches = subst (Watches z.cells n) (sym here) tt }) in
    let last = after_all z es in
    off_course last.cells n c w w.last ends (subst (Watches last.cells n) is h.watches)

-- a standing cycle stands for good, with as many tasks
pub cycles_stand : CyclesStand
cycles_stand N s es x a t n c = kept_by_run N (λ u. IsOnCycleOf u.cells t n) one_event s es x a c
  where
    one_event : (u : CoreState) (e : Event)
        → CoreFacts u → Allowed N u e → IsOnCycleOf u.cells t n → IsOnCycleOf (after u e).cells t n
    one_event u e y b d = let k = kept_by_event N u e y b in
        cycle_on k.1.0 (after u e) k.1.2.frame t n (cycle_on u k.1.0 k.1.1.frame t n d)
