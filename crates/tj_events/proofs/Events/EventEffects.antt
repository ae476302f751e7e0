-- What one allowed event leaves as it is.
use Rattle.std.proofs.Common.{◌≡◌, ◌≢◌, ℕ, ◌<◌, nat_eq, Option, Some, None, refl, sym, ap, ◌∙◌, subst, arith}
use Rattle.tj_events.specs.declared.event.Event.{Event}
use Rattle.tj_events.specs.declared.event.Event.TheVariants.{Make, Fork, Hand, Close, Raise, Publish, LoadOthers}
use Rattle.tj_events.specs.declared.event.Event.TheVariants.{LoadCount, ReadOwner, ReadWait, ReadOwnerAgain, Alarm}
use Rattle.tj_events.specs.declared.event.Event.TheVariants.{Settle, Unwait, Lower}
use Rattle.tj_events.specs.declared.walk.Way.{Way}
use Rattle.tj_events.specs.declared.walk.Way.TheVariants.{Along, Other}
use Rattle.tj_events.specs.declared.walk.Walker.{Walker}
use Rattle.tj_base.specs.Puts.{put}
use Rattle.tj_events.specs.CoreState.{walks, parked, alarmed, CellStage, promise, fresh, running, raised, waits, Cells, CoreState, CellState, stage, wait_of, Runs}
use Rattle.tj_events.specs.Events.{Allowed, after, Walks, MayPublish, one_made, new_cell, with_new, restage, alter, owned_by, way_of_wait, stage_after_close}
use Rattle.tj_events.specs.Laws.{actor}
use Rattle.tj_events.specs.EventLaws.{EventKeepsCycles, EventLeavesOthers, EventKeepsAlarms, WatchesItsCycle, EventKeepsWatches}
use Rattle.tj_base.proofs.Puts.{at_put, put_else}
use Rattle.tj_events.proofs.Graph.Chains.{cycle_on, cycle_list_on}
use Rattle.tj_events.proofs.Graph.Watches.{GoesOn}
use Rattle.tj_events.proofs.Graph.ForkOrders.{waiter_there}
use Rattle.tj_events.proofs.Events.EachEvent.{kept_by_event}

-- a standing cycle stands after the event, with the same tasks
pub event_keeps_cycles : EventKeepsCycles
event_keeps_cycles N s e tasks x a c =
    let k = kept_by_event N s e x a in
    let m = k.1.0 in
    let z = after s e in
    cycle_list_on m z k.1.2.frame tasks (cycle_list_on s m k.1.1.frame tasks c)

watches_on : (s s' : CoreState) → GoesOn s s' → (t n : ℕ) → WatchesItsCycle s t n → WatchesItsCycle s' t n
watches_on s s' g t n h = record {
  on_cycle = cycle_on s s' g.frame t n h.on_cycle;
  watches = g.own t n h.on_cycle h.watches;
}

-- a task that watches its cycle goes on to
pub event_keeps_watches : EventKeepsWatches
event_keeps_watches N s e t n x a h =
    let k = kept_by_event N s e x a in
    watches_on k.1.0 (after s e) k.1.2 t n (watches_on s k.1.0 k.1.1 t n h)

-- another owner of a cell changes no stage
owner_alone : (s : CoreState) (p t : ℕ) (o : Option ℕ) → stage (alter s p (owned_by o)).cells t ≡ stage s.cells t
owner_alone s p t o = at_put s.cells p (owned_by o (s.cells p)) (λ j y. y.stage ≡ stage s.cells j) t refl (λ d. refl)

-- another cell of u changes no stage but that of u
else_alone : (cells : Cells) (u t : ℕ) (y : CellState) → Some u ≢ Some t → stage (put cells u y) t ≡ stage cells t
else_alone cells u t y other =
    ap (λ (z : CellState). z.stage) (put_else cells u y t (λ e. other (ap (λ (k : ℕ). Some k) (sym e))))

-- nor does a new cell
made_alone : (s : CoreState) (u o t : ℕ) (st : CellStage)
    → t < s.count → Some u ≢ Some t → stage (with_new s u o st).cells t ≡ stage s.cells t
made_alone s u o t st there other =
    ap (λ (z : CellState). z.stage)
    (put_else (put s.cells u (one_made (s.cells u))) s.count (new_cell u (s.cells u) o st) t (λ e. omega arith))
    ∙ else_alone s.cells u t (one_made (s.cells u)) other

-- the event of one task leaves every other task at its stage
pub event_leaves_others : EventLeavesOthers
event_leaves_others N s (Make u) t x a there other = made_alone s u.0 u.0 t promise there other
event_leaves_others N s (Fork u) t x a there other = made_alone s u.0 s.count t fresh there other
event_leaves_others N s (Hand u p c) t x a there other =
    owner_alone (restage s u.0 (λ _. running)) p.0 t (Some c.0) ∙ else_alone s.cells u.0 t _ other
event_leaves_others N s (Close u p) t x a there other =
    owner_alone (restage s u.0 (λ _. stage_after_close (nat_eq p.0 u.0))) p.0 t None ∙ else_alone s.cells u.0 t _ other
event_leaves_others N s (Raise u) t x a there other = else_alone s.cells u.0 t _ other
event_leaves_others N s (Publish u p) t x a there other = else_alone s.cells u.0 t _ other
event_leaves_others N s (LoadOthers u) t x a there other = else_alone s.cells u.0 t _ other
event_leaves_others N s (LoadCount u) t x a there other = else_alone s.cells u.0 t _ other
event_leaves_others N s (ReadOwner u) t x a there other = else_alone s.cells u.0 t _ other
event_leaves_others N s (ReadWait u) t x a there other = else_alone s.cells u.0 t _ other
event_leaves_others N s (ReadOwnerAgain u) t x a there other = else_alone s.cells u.0 t _ other
event_leaves_others N s (Alarm u) t x a there other = else_alone s.cells u.0 t _ other
event_leaves_others N s (Settle u) t x a there other = else_alone s.cells u.0 t _ other
event_leaves_others N s (Unwait u) t x a there other = else_alone s.cells u.0 t _ other
event_leaves_others N s Lower t x a there other = refl

module _ (s : CoreState) (t c : ℕ) (way : Way) (is : stage s.cells t ≡ waits c way alarmed) where
  never_runs : Runs (stage s.cells t) → ⊥
  never_runs r = subst Runs is r

  never_publishes : (to : Way) → MayPublish to (stage s.cells t) → ⊥
  never_publishes Along r = never_runs r
  never_publishes Other r = let q : waits c way alarmed ≡ raised = sym is ∙ r in absurd (cc)

  never_walks : (F : ℕ → Way → Walker → Type 0) → Walks s t F → ⊥
  never_walks F k = let q : waits c way alarmed ≡ waits k.0 k.1 (walks k.2) = sym is ∙ k.3 in absurd (cc)

  never_parked : (p : ℕ) (to : Way) → stage s.cells t ≡ waits p to parked → ⊥
  never_parked p to e = let q : waits c way alarmed ≡ waits p to parked = sym is ∙ e in absurd (cc)

still : (s : CoreState) (t c : ℕ) (way : Way) → stage s.cells t ≡ waits c way alarmed
    → (u : ℕ) → Some u ≡ Some t → stage s.cells u ≡ waits c way alarmed
still s t c way is u e = let q : u ≡ t = cc in ap (stage s.cells) q ∙ is

-- a task that has alarmed has no event
alarmed_rests : (N : ℕ) (s : CoreState) (e : Event) (t c : ℕ) (way : Way)
    → Allowed N s e → stage s.cells t ≡ waits c way alarmed → actor e ≢ Some t
alarmed_rests N s (Make u) t c way a is e = never_runs s u.0 c way (still s t c way is u.0 e) a.0
alarmed_rests N s (Fork u) t c way a is e = never_runs s u.0 c way (still s t c way is u.0 e) a.0
alarmed_rests N s (Hand u p h) t c way a is e = never_runs s u.0 c way (still s t c way is u.0 e) a.0
alarmed_rests N s (Close u p) t c way a is e = never_runs s u.0 c way (still s t c way is u.0 e) a.0
alarmed_rests N s (Raise u) t c way a is e = never_runs s u.0 c way (still s t c way is u.0 e) a
alarmed_rests N s (Publish u p) t c way a is e =
    never_publishes s u.0 c way (still s t c way is u.0 e) (way_of_wait s u.0 p.0) a.1
alarmed_rests N s (LoadOthers u) t c way a is e = never_walks s u.0 c way (still s t c way is u.0 e) _ a
alarmed_rests N s (LoadCount u) t c way a is e = never_walks s u.0 c way (still s t c way is u.0 e) _ a
alarmed_rests N s (ReadOwner u) t c way a is e = never_walks s u.0 c way (still s t c way is u.0 e) _ a
alarmed_rests N s (ReadWait u) t c way a is e = never_walks s u.0 c way (still s t c way is u.0 e) _ a
alarmed_rests N s (ReadOwnerAgain u) t c way a is e = never_walks s u.0 c way (still s t c way is u.0 e) _ a
alarmed_rests N s (Alarm u) t c way a is e = never_walks s u.0 c way (still s t c way is u.0 e) _ a
alarmed_rests N s (Settle u) t c way a is e = never_walks s u.0 c way (still s t c way is u.0 e) _ a
alarmed_rests N s (Unwait u) t c way a is e =
    never_parked s u.0 c way (still s t c way is u.0 e) a.0 a.1 a.2
alarmed_rests N s Lower t c way a is e = absurd (cc)

-- a task that has alarmed stays alarmed, on the same cell
pub event_keeps_alarms : EventKeepsAlarms
event_keeps_alarms N s e t c way x a is =
    event_leaves_others N s e t x a (waiter_there s x t c (ap wait_of is)) (alarmed_rests N s e t c way a is) ∙ is
