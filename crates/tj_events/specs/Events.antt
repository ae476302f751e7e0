-- The events of the core: where each is allowed, and the state after it.
use Rattle.std.specs.Prelude.{◌≡◌, ◌≢◌, ◌⊎◌, ℕ, suc, ◌+◌, ◌-◌, ◌<◌, Bool, true, false, nat_eq, ◌&&◌, [], ◌∷◌}
use Rattle.std.specs.Prelude.{length, Option, Some, None}
use Rattle.tj_base.specs.ForkOrder.{child, before}
use Rattle.tj_events.specs.declared.event.Event.{Event}
use Rattle.tj_events.specs.declared.event.Event.TheVariants.{Make, Fork, Hand, Close, Raise, Publish, LoadOthers}
use Rattle.tj_events.specs.declared.event.Event.TheVariants.{LoadCount, ReadOwner, ReadWait, ReadOwnerAgain, Alarm}
use Rattle.tj_events.specs.declared.event.Event.TheVariants.{Settle, Unwait, Lower}
use Rattle.tj_events.specs.declared.walk.Way.{Way}
use Rattle.tj_events.specs.declared.walk.Way.TheVariants.{Along, Other}
use Rattle.tj_events.specs.declared.walk.Walker.{Walker}
use Rattle.tj_events.specs.declared.walk.LastRead.{LastRead}
use Rattle.tj_events.specs.declared.walk.LastRead.TheVariants.{Published, SawOthers, Counted, SawOwner, SawWait, Passed}
use Rattle.tj_events.specs.declared.walk.LastRead.TheVariants.{Changed}
use Rattle.tj_events.specs.CoreState.{WaitStage, walks, parked, alarmed, CellStage, promise, fresh, running, raised}
use Rattle.tj_base.specs.Puts.{put}
use Rattle.tj_events.specs.CoreState.{waits, ended, CellState, Cells, CoreState, owner, name, maker, stage, wait}
use Rattle.tj_events.specs.CoreState.{is_task, Runs, present}

-- t is fresh or running
abbrev pub IsRunning : CoreState → ℕ → Type 0
IsRunning s t = Runs (stage s.cells t)

-- t owns c
abbrev pub Owns : CoreState → ℕ → ℕ → Type 0
Owns s t c = owner s.cells c ≡ Some t

-- c is a child of t, another task than t itself, that had no event yet
abbrev pub IsFreshChild : CoreState → ℕ → ℕ → Type 0
IsFreshChild s t c = (stage s.cells c ≡ fresh) × (maker s.cells c ≡ t) × (c ≢ t)

-- t owns no cell but its own
abbrev pub OwnsNothingElse : CoreState → ℕ → Type 0
OwnsNothingElse s t = (c : ℕ) → Owns s t c → c ≡ t

-- t owns p, and no other cell where p is its own
abbrev pub MayClose : CoreState → ℕ → ℕ → Type 0
MayClose s t p = Owns s t p × (p ≡ t → OwnsNothingElse s t)

-- p is a promise that t owns, and c a fresh child of t
-- a hand to oneself isn't one to a child, though the root is its own maker
abbrev pub MayHand : CoreState → ℕ → ℕ → ℕ → Type 0
MayHand s t p c = (stage s.cells p ≡ promise) × Owns s t p × IsFreshChild s t c

-- a task at this stage walks, and F holds of the cell and the way of its wait and of its walker
abbrev pub WalksAt : CellStage → (ℕ → Way → Walker → Type 0) → Type 0
WalksAt st F = (c : ℕ) × (way : Way) × (w : Walker) × (st ≡ waits c way (walks w)) × F c way w

-- t walks, and F holds of its walk
abbrev pub Walks : CoreState → ℕ → (ℕ → Way → Walker → Type 0) → Type 0
Walks s t F = WalksAt (stage s.cells t) F

-- along or other
abbrev pub way_if : Bool → Way
way_if true = Along
way_if false = Other

-- the way of a wait of t for p: along where p is a task that t is before, else other
abbrev pub way_of_wait : CoreState → ℕ → ℕ → Way
way_of_wait s t p = way_if (is_task (stage s.cells p) && before (name s.cells t) (name s.cells p))

-- a wait along the order is published by a running task, an other wait by one that has raised OTHERS
abbrev pub MayPublish : Way → CellStage → Type 0
MayPublish Along st = Runs st
MayPublish Other st = st ≡ raised

-- it waits along the order and has just published
abbrev pub MayReadOthers : Way → Walker → Type 0
MayReadOthers way w = (way ≡ Along) × (w.last ≡ Published)

-- it has just published an other wait, or has just read OTHERS above 0
abbrev pub MayCount : Way → Walker → Type 0
MayCount way w = ((way ≡ Other) × (w.last ≡ Published)) ⊎ ((n : ℕ) × (w.last ≡ SawOthers n) × (0 < n))

-- it has just read the count, or has just passed an owner with the trail shorter than the bound
abbrev pub MayReadOwner : Walker → Type 0
MayReadOwner w = (w.last ≡ Counted) ⊎ ((w.last ≡ Passed) × (length w.trail < w.bound))

-- it has just read an owner that is neither nobody nor t itself
abbrev pub MayReadWait : ℕ → Walker → Type 0
MayReadWait t w = (u : ℕ) × (w.last ≡ SawOwner (Some u)) × (u ≢ t)

-- it has just read that the owner waits for a cell
abbrev pub MayReadAgain : Walker → Type 0
MayReadAgain w = (u v : ℕ) × (w.last ≡ SawWait u (Some v))

-- it has just read t itself as owner
abbrev pub MayAlarm : ℕ → Walker → Type 0
MayAlarm t w = w.last ≡ SawOwner (Some t)

-- the walk ends after this read, with a trail of this length under this bound
abbrev pub EndsWalk : ℕ → ℕ → LastRead → Type 0
EndsWalk len bound Published = ⊥
-- it read OTHERS as 0
EndsWalk len bound (SawOthers n) = n ≡ 0
EndsWalk len bound Counted = ⊥
-- it read nobody as owner
EndsWalk len bound (SawOwner o) = o ≡ None
-- it read that the owner doesn't wait
EndsWalk len bound (SawWait u o) = o ≡ None
-- it passed an owner, and the trail has the bound's length
EndsWalk len bound Passed = len ≡ bound
-- it read the owner again and found it changed
EndsWalk len bound Changed = Unit {0}

-- its walk is at its end
abbrev pub MaySettle : Walker → Type 0
MaySettle w = EndsWalk (length w.trail) w.bound w.last

-- the walk goes on: its next event can't be the end of it
abbrev pub IsOpen : Walker → Type 0
IsOpen w = ¬ MaySettle w

-- where an event is allowed, with at most N cells
abbrev pub Allowed : ℕ → CoreState → Event → Type 0
Allowed N s (Make t) = IsRunning s t.0 × (s.count < N)
Allowed N s (Fork t) = IsRunning s t.0 × (s.count < N)
Allowed N s (Hand t p c) =
    IsRunning s t.0 × (stage s.cells p.0 ≡ promise) × Owns s t.0 p.0 × IsFreshChild s t.0 c.0
Allowed N s (Close t p) = IsRunning s t.0 × Owns s t.0 p.0 × (p.0 ≡ t.0 → OwnsNothingElse s t.0)
Allowed N s (Raise t) = IsRunning s t.0
Allowed N s (Publish t p) = (p.0 < s.count) × MayPublish (way_of_wait s t.0 p.0) (stage s.cells t.0)
Allowed N s (LoadOthers t) = Walks s t.0 (λ c way w. MayReadOthers way w)
Allowed N s (LoadCount t) = Walks s t.0 (λ c way w. MayCount way w)
Allowed N s (ReadOwner t) = Walks s t.0 (λ c way w. MayReadOwner w)
Allowed N s (ReadWait t) = Walks s t.0 (λ c way w. MayReadWait t.0 w)
Allowed N s (ReadOwnerAgain t) = Walks s t.0 (λ c way w. MayReadAgain w)
Allowed N s (Alarm t) = Walks s t.0 (λ c way w. MayAlarm t.0 w)
Allowed N s (Settle t) = Walks s t.0 (λ c way w. MaySettle w)
-- it is parked on a cell that nobody owns
Allowed N s (Unwait t) =
    (c : ℕ) × (way : Way) × (stage s.cells t.0 ≡ waits c way parked) × (owner s.cells c ≡ None)
Allowed N s Lower = 0 < s.cleared

-- the state with the cell at i changed
abbrev pub alter : CoreState → ℕ → (CellState → CellState) → CoreState
alter s i f = record { count = s.count; cells = put s.cells i (f (s.cells i)); others = s.others; cleared = s.cleared }

-- the cell at this stage
abbrev pub staged : CellStage → CellState → CellState
staged st x = record x { stage = st }

-- the cell with this owner
abbrev pub owned_by : Option ℕ → CellState → CellState
owned_by o x = record x { owner = o }

-- the state with another stage of t
abbrev pub restage : CoreState → ℕ → (CellStage → CellStage) → CoreState
restage s t f = alter s t (λ x. staged (f x.stage) x)

-- the maker of one thing more, which is running now
abbrev pub one_made : CellState → CellState
one_made x = record x { made = suc x.made; stage = running }

-- what x makes next, with this owner, as a promise or a task
abbrev pub new_cell : ℕ → CellState → ℕ → CellStage → CellState
new_cell t x o st = record { maker = t; name = child x.name (suc x.made); made = 0; owner = Some o; stage = st }

-- the state with one cell more, made by t
abbrev pub with_new : CoreState → ℕ → ℕ → CellStage → CoreState
with_new s t o st = record {
  count = suc s.count;
  cells = put (put s.cells t (one_made (s.cells t))) s.count (new_cell t (s.cells t) o st);
  others = s.others;
  cleared = s.cleared;
}

-- the stage of a task that has closed a cell, by whether that was its own result
abbrev pub stage_after_close : Bool → CellStage
stage_after_close true = ended
stage_after_close false = running

-- the walker with its walk at the start
abbrev pub start_walk : Walker
start_walk = record { trail = []; bound = 0; loads = 0; last = Published }

-- the stage with the walk changed, by the cell that the task waits for
abbrev pub walked : (ℕ → Walker → Walker) → CellStage → CellStage
walked f promise = promise
walked f fresh = fresh
walked f running = running
walked f raised = raised
walked f (waits c way (walks w)) = waits c way (walks (f c w))
walked f (waits c way parked) = waits c way parked
walked f (waits c way alarmed) = waits c way alarmed
walked f ended = ended

-- the stage of a task that has ended its walk
abbrev pub walk_ended : WaitStage → CellStage → CellStage
walk_ended now promise = promise
walk_ended now fresh = fresh
walk_ended now running = running
walk_ended now raised = raised
walk_ended now (waits c way w) = waits c way now
walk_ended now ended = ended

-- the walker after it read OTHERS
abbrev pub others_read : ℕ → Walker → Walker
others_read n w = record { trail = w.trail; bound = w.bound; loads = w.loads; last = SawOthers n }

-- the walker after it read the number of cells
abbrev pub count_read : ℕ → Walker → Walker
count_read n w = record { trail = w.trail; bound = n; loads = w.loads; last = Counted }

-- the walker after it read the owner of the present cell
abbrev pub owner_read : Option ℕ → Walker → Walker
owner_read o w = record { trail = w.trail; bound = w.bound; loads = suc w.loads; last = SawOwner o }

-- the walker after it read that the owner u waits for o
abbrev pub wait_found : ℕ → Option ℕ → Walker → Walker
wait_found u o w = record { trail = w.trail; bound = w.bound; loads = suc w.loads; last = SawWait u o }

-- the walker after it read what the owner that it has read waits for
abbrev pub wait_read : Cells → Walker → LastRead → Walker
wait_read cells w (SawOwner (Some u)) = wait_found u (wait cells u) w
wait_read cells w (SawOwner None) = w
wait_read cells w Published = w
wait_read cells w (SawOthers n) = w
wait_read cells w Counted = w
wait_read cells w (SawWait u o) = w
wait_read cells w Passed = w
wait_read cells w Changed = w

-- whether the owner is u
abbrev pub is_owner : Option ℕ → ℕ → Bool
is_owner (Some o) u = nat_eq o u
is_owner None u = false

-- the walker after it read the owner u, which waits for v, again: unchanged or not
abbrev pub owner_found : Bool → ℕ → ℕ → Walker → Walker
owner_found true u v w =
    record { trail = record { owner = u; next = v } ∷ w.trail; bound = w.bound; loads = suc w.loads; last = Passed }
owner_found false u v w = record { trail = w.trail; bound = w.bound; loads = suc w.loads; last = Changed }

-- the walker after it read the owner of the present cell again, which is o now
abbrev pub owner_again : Option ℕ → Walker → LastRead → Walker
owner_again o w (SawWait u (Some v)) = owner_found (is_owner o u) u v w
owner_again o w (SawWait u None) = w
owner_again o w Published = w
owner_again o w (SawOthers n) = w
owner_again o w Counted = w
owner_again o w (SawOwner q) = w
owner_again o w Passed = w
owner_again o w Changed = w

-- by how much a wait of this way has raised OTHERS
abbrev pub raised_by_way : Way → ℕ
raised_by_way Along = 0
raised_by_way Other = 1

-- by how much a task has raised OTHERS
abbrev pub raised_by : CellStage → ℕ
raised_by promise = 0
raised_by fresh = 0
raised_by running = 0
raised_by raised = 1
raised_by (waits c way w) = raised_by_way way
raised_by ended = 0

-- the state after an event that is allowed in s. A fresh task is running after its first event
abbrev pub after : CoreState → Event → CoreState
-- a new promise that t owns
after s (Make t) = with_new s t.0 t.0 promise
-- a new fresh task, the child of t, that owns its own cell
after s (Fork t) = with_new s t.0 s.count fresh
-- c owns p
after s (Hand t p c) = alter (restage s t.0 (λ _. running)) p.0 (owned_by (Some c.0))
-- nobody owns p, and where p is t, t has ended
after s (Close t p) = alter (restage s t.0 (λ _. stage_after_close (nat_eq p.0 t.0))) p.0 (owned_by None)
-- OTHERS is up by one
after s (Raise t) = record (restage s t.0 (λ _. raised)) { others = suc s.others }
-- t walks, with an empty trail and no loads
after s (Publish t p) = restage s t.0 (λ _. waits p.0 (way_of_wait s t.0 p.0) (walks start_walk))
after s (LoadOthers t) = restage s t.0 (walked (λ c w. others_read s.others w))
after s (LoadCount t) = restage s t.0 (walked (λ c w. count_read s.count w))
after s (ReadOwner t) = restage s t.0 (walked (λ c w. owner_read (owner s.cells (present c w.trail)) w))
after s (ReadWait t) = restage s t.0 (walked (λ c w. wait_read s.cells w w.last))
after s (ReadOwnerAgain t) =
    restage s t.0 (walked (λ c w. owner_again (owner s.cells (present c w.trail)) w w.last))
after s (Alarm t) = restage s t.0 (walk_ended alarmed)
after s (Settle t) = restage s t.0 (walk_ended parked)
-- t runs again, and where its wait was an other wait, one more is cleared and not yet lowered
after s (Unwait t) = record (restage s t.0 (λ _. running)) { cleared = s.cleared + raised_by (stage s.cells t.0) }
after s Lower = record s { others = s.others - 1; cleared = s.cleared - 1 }
