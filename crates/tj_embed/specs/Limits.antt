-- What the calls of this crate ask of the numbers that they are given.
use Rattle.std.specs.Prelude.{◌<◌, ◌≤◌}
use Rattle.tj_base.specs.declared.cell.TheConstants.{MAX_CELLS}
use Rattle.tj_eval.specs.declared.body.TheConstants.{MAX_STEPS}
use Rattle.tj_embed.specs.declared.options.Options.{Options}

-- the numbers of workers, cells and statements are within the limits
pub record AreLimits (o : Options) : Type 0 where
  pub some_workers : 0 < o.workers
  pub few_workers : o.workers ≤ 64
  pub some_cells : 0 < o.cells
  pub few_cells : o.cells ≤ MAX_CELLS
  pub some_steps : 0 < o.steps
  pub few_steps : o.steps ≤ MAX_STEPS
