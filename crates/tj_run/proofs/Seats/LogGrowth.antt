-- Each call makes the log of its seat longer.
use Rattle.std.proofs.Common.{◌≡◌, ◌≢◌, ℕ, Bool, [], ◌∷◌, ◌++◌, refl, sym, ap, ◌∙◌}
use Rattle.std.proofs.Common.{Option, Some, None, true, false, IfSome, append_assoc, min, ⊎_elim, ◌⊎◌}
use Rattle.tj_base.specs.declared.cell.CellId.{CellId}
use Rattle.tj_base.specs.declared.cell.Sort.{Sort}
use Rattle.tj_events.specs.declared.walk.Way.{Way}
use Rattle.tj_events.specs.declared.walk.Way.TheVariants as ways
use Rattle.tj_cells.proofs.CallLogs.{grows_by, grows_on, node_grows}
use Rattle.tj_base.specs.declared.cell.Sort.TheVariants as sort
use Rattle.tj_words.specs.declared.phase.Phase.TheVariants as phase
use Rattle.tj_cells.specs.CallLogs.{draw_entry, drawn_entries, owner_entry, phase_entry}
use Rattle.tj_cells.specs.CallLogs.{Grows, MakesClosed, MakesPromise, MakesRefusedDraw, MakesTask, Seat}
use Rattle.tj_cells.specs.ValueLogs.{LoadsEntry}
use Rattle.tj_cells.specs.declared.seen.Seen.{Seen}
use Rattle.tj_cells.specs.declared.seen.Seen.TheVariants as seen
use Rattle.tj_detect.specs.BlockLogs.{EndsAtChange, EndsAtNoWait, EndsAtOwner, LogsBlock, MakesBlock, MakesHops}
use Rattle.tj_detect.specs.BlockLogs.{MakesWalk, ends_there, finds_own, first_steps, last_steps, passes_all, passes_one}
use Rattle.tj_detect.specs.ClimbLogs.{LogsClimb}
use Rattle.tj_detect.specs.declared.blocking.Verdict.{Verdict}
use Rattle.tj_detect.specs.declared.blocking.Verdict.TheVariants as verdict
use Rattle.tj_park.specs.ParkLogs.{MakesJoin, MakesPark, MakesPushes, MakesReturn, adds, fails, finds_shut, lowering}
use Rattle.tj_words.specs.CallLaws.StepCalls as call
use Rattle.tj_words.specs.CallLaws.StepLogs.{IsLogged}
use Rattle.tj_words.specs.declared.head.Head.{Head}
use Rattle.tj_words.specs.declared.offsets.Once.TheVariants as once
use Rattle.tj_record.specs.declared.record.Fill.{Fill}
use Rattle.tj_run.specs.Leaving.{EndsLog, last_entry}
use Rattle.tj_run.specs.declared.why.Left.{Left}

module _ {B : Type 0} (u v : Seat B) where
  -- a look at a cell
  pub value_grows : (o : Seen) (p : ℕ) → (o ≡ seen.NotYet → IsLogged (call.sees_once p once.Tag) 0 0 0 u v)
      → (o ≢ seen.NotYet → LoadsEntry p o u v) → Grows u v
  value_grows seen.NotYet p h k = grows_by u v (_ ∷ []) (h refl)
  value_grows (seen.Num n) p h k = let l = k (λ e. cc) in grows_by u v (_ ∷ _ ∷ []) (l.log, l.took)
  value_grows (seen.Promise c) p h k = let l = k (λ e. cc) in grows_by u v (_ ∷ _ ∷ []) (l.log, l.took)
  value_grows (seen.Task c) p h k = let l = k (λ e. cc) in grows_by u v (_ ∷ _ ∷ []) (l.log, l.took)
  value_grows seen.Broken p h k = let l = k (λ e. cc) in grows_by u v (_ ∷ _ ∷ []) (l.log, l.took)

  -- a promise that was made
  pub promise_grows : (t kid c : ℕ) → MakesPromise t kid c u v → Grows u v
  promise_grows t kid c h = grows_by u v
      (owner_entry c (Some t) ∷ phase_entry c phase.Promise ∷ drawn_entries t kid sort.Promise c) h

  -- a draw that was refused
  pub refused_grows : (cells t : ℕ) (o : Sort) → MakesRefusedDraw cells t o u v → Grows u v
  refused_grows cells t o h = grows_by u v (draw_entry t o h.0 ∷ []) h.2

  -- a child that was made
  pub task_grows : (t kid c : ℕ) → MakesTask t kid c u v → Grows u v
  task_grows t kid c h = grows_on u h.0 v (grows_by u h.0 (drawn_entries t kid sort.Task c) h.2)
      (grows_on h.0 h.1 v (node_grows h.0 h.1 t c h.3) (grows_by h.1 v (owner_entry c (Some c) ∷ []) h.4))

  -- a cell that was closed
  pub closed_grows : (p : ℕ) (o : Option Fill) → MakesClosed p o u v → Grows u v
  closed_grows p o h = grows_by u v (_ ∷ _ ∷ _ ∷ []) h.2

  -- a walk up the tree
  pub climb_grows : (m n : ℕ) → LogsClimb m n u v → Grows u v
  climb_grows m n h = grows_by u v h.loads h.makes

-- the loads of a walk
hop_ends : {B : Type 0} (t p : ℕ) (u v : Seat B) → EndsAtOwner t p u v → Grows u v
hop_ends t p u v e = ⊎_elim (λ h. grows_by u v (_ ∷ []) h)
    (λ (k : EndsAtNoWait t p u v ⊎ EndsAtChange t p u v). ⊎_elim
    (λ (h : EndsAtNoWait t p u v). grows_by u v (_ ∷ _ ∷ []) h.4)
    (λ (h : EndsAtChange t p u v). grows_by u v (_ ∷ _ ∷ _ ∷ []) h.7) k) e

hops_grow : {B : Type 0} (t left p : ℕ) (o : Verdict) (u v : Seat B) → MakesHops t left p o u v → Grows u v
hops_grow t _ _ _ _ _ (passes_all p old) = (([], refl), refl)
hops_grow t _ _ _ _ _ (ends_there left p old new e) = hop_ends t p old new e
hops_grow t _ _ _ _ _ (finds_own left p old new m) = grows_by old new (_ ∷ []) m
hops_grow t _ _ _ _ _ (passes_one left p next o old between new g more) =
    grows_on old between new (grows_by old between (_ ∷ _ ∷ _ ∷ []) g.4) (hops_grow t left next o between new more)

walk_grows : {B : Type 0} (u v : Seat B) (cells t : ℕ) (q : CellId) (way : Way) (o : Verdict)
    → MakesWalk cells t q way o u v → Grows u v
walk_grows u v cells t q way o h = grows_on u h.counted v (grows_by u h.counted (_ ∷ []) h.loads_count)
    (grows_on h.counted h.walked v (hops_grow t (min h.count cells) q.0 o h.counted h.walked h.hops)
    (grows_by h.walked v (last_steps o t q way) h.ends))

-- a call that blocks
block_walks : {B : Type 0} (u v : Seat B) (cells t : ℕ) (q : CellId) (way : Way) (o : Verdict)
    → MakesBlock cells t q way o u v → Grows u v
block_walks u v cells t q way o h = grows_on u h.begun v (grows_by u h.begun (first_steps t q way h.others) h.begins)
    (walk_grows h.begun v cells t q way o h.walks)

pub block_grows : {B : Type 0} (u v : Seat B) (cells t : ℕ) (q : CellId) (way : Way) (o : Verdict)
    → LogsBlock cells t q way o u v → Grows u v
block_grows u v cells t q way verdict.Alarm h = block_walks u v cells t q way verdict.Alarm h
block_grows u v cells t q way verdict.Walked h = block_walks u v cells t q way verdict.Walked h
block_grows u v cells t q way verdict.Skipped h = grows_by u v (first_steps t q ways.Along 0) h.1

-- the pushes of a park
pushes_grow : {B : Type 0} (t q : ℕ) (b : Bool) (h : Head) (u v : Seat B) → MakesPushes t q b h u v → Grows u v
pushes_grow t q _ _ _ _ (adds asked old new m) = grows_by old new (_ ∷ _ ∷ []) m
pushes_grow t q _ _ _ _ (finds_shut old) = (([], refl), refl)
pushes_grow t q _ _ _ _ (fails added asked found old between new ne m more) =
    grows_on old between new (grows_by old between (_ ∷ _ ∷ []) m) (pushes_grow t q added found between new more)

join_grows : {B : Type 0} (t q : ℕ) (b : Bool) (u v : Seat B) → MakesJoin t q b u v → Grows u v
join_grows t q b u v h = grows_on u h.1 v (grows_by u h.1 (_ ∷ []) h.2) (pushes_grow t q b h.0 h.1 v h.3)

-- a park by which the task leaves
pub park_grows : {B : Type 0} (t q : ℕ) (way : Way) (u v : Seat B) → MakesPark t q way u v → Grows u v
park_grows t q way u v h = grows_on u h.0 v (grows_by u h.0 (_ ∷ []) h.3)
    (grows_on h.0 h.1 v (join_grows t q true h.0 h.1 h.4) (grows_by h.1 v (_ ∷ []) h.5))

-- a park from which it comes back
pub return_grows : {B : Type 0} (t q : ℕ) (way : Way) (u v : Seat B) → MakesReturn t q way u v → Grows u v
return_grows t q way u v h = grows_on u h.0 v (grows_by u h.0 (_ ∷ []) h.4)
    (grows_on h.0 h.1 v (join_grows t q false h.0 h.1 h.5)
    (grows_on h.1 h.2 v (grows_by h.1 h.2 (_ ∷ []) h.6) (grows_by h.2 v (lowering way h.3) h.7)))

-- a seat that makes no step
pub still : {B : Type 0} (u : Seat B) → Grows u u
still u = (([], refl), refl)

-- a worker leaves at its last step, whatever it did before
pub ends_since : {B : Type 0} (how : Left) (u v w : Seat B) → Grows u v → EndsLog how v w → EndsLog how u w
ends_since how u v w h e = (
  e.0 ++ h.0.0,
  e.1 ∙ ap (λ l. last_entry how ∷ l) (ap (λ l. e.0 ++ l) h.0.1 ∙ sym (append_assoc e.0 h.0.0 u.log)),
  e.2 ∙ h.1,
)

pub ends_grow : {B : Type 0} (how : Left) (u v : Seat B) → EndsLog how u v → Grows u v
ends_grow how u v e = ((_ ∷ e.0, e.1), e.2)

pub if_ends_since : {B : Type 0} (o : Option Left) (u v w : Seat B) → Grows u v → IfSome o (λ how. EndsLog how v w)
    → IfSome o (λ how. EndsLog how u w)
if_ends_since None u v w h e = tt
if_ends_since (Some how) u v w h e = ends_since how u v w h e
