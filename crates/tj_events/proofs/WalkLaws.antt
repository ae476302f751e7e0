-- What a walk may rely on: what it reads is there, OTHERS is small, and who settles isn't alone on a cycle.
use Rattle.std.proofs.Common.{◌≡◌, ℕ, zero, suc, ◌≤◌, true, Some, refl, ap, ◌∙◌, subst, ⊎_elim, arith}
use Rattle.tj_events.specs.declared.walk.LastRead.TheVariants.{SawOwner}
use Rattle.tj_events.specs.declared.walk.Way.TheVariants.{Along, Other}
use Rattle.tj_events.specs.CoreState.{CellStage, promise, fresh, running, raised, waits, ended, Cells}
use Rattle.tj_events.specs.CoreState.{owner, stage, wait_of, is_task, HasBegun, present}
use Rattle.tj_events.specs.Events.{raised_by}
use Rattle.tj_events.specs.Facts.{raised_by_all, Watches}
use Rattle.tj_events.specs.WalkLaws.{PresentCellsAreThere, OwnersAreThere, ReadOwnersAreThere, OthersAreFew, SettlersAreNotAlone}
use Rattle.tj_events.proofs.Graph.ForkOrders.{task_there}
use Rattle.tj_events.proofs.OneCell.SoundTasks.{lives_task, present_there}
use Rattle.tj_events.proofs.OneCell.WaitChanges.{walker_of, last_read_is}
use Rattle.tj_events.proofs.Events.WalkEnds.{off_course}

-- a walker's present cell is there
pub present_cells_there : PresentCellsAreThere
present_cells_there s t x c way w is =
    present_there s.count c w.trail (x.places.waits_there t c (ap wait_of is)) (x.places.nexts_there t c way w is)

-- a cell's owner is there
pub owners_there : OwnersAreThere
owners_there s c u x e = task_there s x u (lives_task (stage s.cells u) (x.owners.owners_live c u e))

begun_task : (st : CellStage) → HasBegun st → is_task st ≡ true
begun_task promise h = absurd h
begun_task fresh h = absurd h
begun_task running h = refl
begun_task raised h = refl
begun_task (waits c way w) h = refl
begun_task ended h = refl

-- an owner that a walker has just read is there
pub read_owners_there : ReadOwnersAreThere
read_owners_there s t u x c way w is at = ⊎_elim
    (λ (e : owner s.cells (present c w.trail) ≡ Some u). owners_there s (present c w.trail) u x e)
    (λ (h : HasBegun (stage s.cells u)). task_there s x u (begun_task (stage s.cells u) h))
    (last_read_is s t c way w (SawOwner (Some u)) (walker_of s x t c way w is) at).0

raised_once : (st : CellStage) → raised_by st ≤ 1
raised_once promise = omega arith
raised_once fresh = omega arith
raised_once running = omega arith
raised_once raised = omega arith
raised_once (waits c Along w) = omega arith
raised_once (waits c Other w) = omega arith
raised_once ended = omega arith

raised_few : (n : ℕ) (cells : Cells) → raised_by_all n cells ≤ n
raised_few zero cells = omega arith
raised_few (suc n) cells = let a = raised_once (stage cells n) in let b = raised_few n cells in omega arith

-- OTHERS is at most the number of cells and of the waits cleared and not yet lowered
pub others_few : OthersAreFew
others_few s x = let a = raised_few s.count s.cells in let b = x.others_count in omega arith

-- a cycle through a task whose walk may settle has another member that has alarmed or is on course
pub settlers_not_alone : SettlersAreNotAlone
settlers_not_alone s t n x (c, way, w, is, ends) on_cycle =
    let m = x.last_closer t n on_cycle in (
      m.0,
      m.1,
      m.2,
      λ e. off_course s.cells n c w w.last ends
          (subst (Watches s.cells n) (ap (stage s.cells) e ∙ is) m.3),
      m.3,
    )
