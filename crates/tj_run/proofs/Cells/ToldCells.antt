-- The task of a record and the cells that it holds, as the seat that runs the task knows them.
use Rattle.tj_run.proofs.Prelude.{Held, HeldSays, IsHeldAs, IsIn, KnowsTask, Laid, Point, Rec, RunsTask, SeatMe, Tells}
use Rattle.tj_run.proofs.Prelude.{arith, held_at, in_left, inl, inr, inside, length, reference, refl, subst, sym}
use Rattle.tj_run.proofs.Prelude.{to_map, to_task, ℕ, ◌<◌, ◌≡◌}
use Rattle.tj_run.proofs.Asks.PointSteps.{pairs_at}
use Rattle.tj_run.proofs.Seats.RunningTasks.{in_at}
use Rattle.tj_base.specs.declared.cell.Sort.TheVariants as sort

module _ {B : Type 0} (laid : Laid B) (r : Rec B) (me : SeatMe B) (runs : RunsTask laid r me) (x : Point B)
    (tells : Tells me.0.born r x) where
  -- the task is a cell of the table, and the seat knows it
  pub told_task : r.cell.0 < laid.cells
  told_task = let i = inside me.0.born r.cell.0 (to_task x.name) tells.of in let f = runs.worker.cells.few in
      omega arith

  pub task_known : IsIn r.cell.0 me.0.known
  task_known = runs.has.knows r.cell.0 (inl refl)

  pub told_knows : KnowsTask r.cell.0 me.0
  told_knows = (inr task_known, (to_task x.name, tells.of, refl))

  module _ (k : ℕ) (within : k < length r.held) (cell : Held) (is : cell ≡ held_at r.held k) where
    abbrev default : Held
    default = record { cell = record { 0 = 0 }; sort = sort.Task }

    -- the held cell at the place is this reference
    pub told_says : HeldSays me.0.born cell (reference x k)
    told_says = subst (λ d. HeldSays me.0.born d (reference x k)) (sym is)
        (pairs_at (HeldSays me.0.born) r.held x.references default (to_task x.name) tells.held k within)

    -- it is a cell of the table, and the seat knows it
    pub told_cell : cell.cell.0 < laid.cells
    told_cell = let i = inside me.0.born cell.cell.0 (reference x k) told_says.0 in let f = runs.worker.cells.few in
        omega arith

    pub cell_known : IsIn cell.cell.0 me.0.known
    cell_known = runs.has.knows cell.cell.0 (inr (in_left cell.cell.0 _ _
        (to_map (λ (d : Held). d.cell.0) cell r.held (subst (λ d. IsIn d r.held) (sym is)
        (in_at r.held default k within)))))

    pub told_held : IsHeldAs cell me.0
    told_held = record { reference = reference x k; is = told_says.0; sort = sym told_says.1; known = cell_known }
