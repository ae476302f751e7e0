-- What runs of a script ask of their limits.
use Rattle.std.specs.Prelude.{◌<◌, ◌≤◌}
use Rattle.tj_base.specs.declared.cell.TheConstants.{MAX_CELLS}
use Rattle.tj_eval.specs.declared.body.TheConstants.{MAX_STEPS}
use Rattle.tj_command.specs.declared.limits.Limits.{Limits}

-- the cells and the statements of a run are within the greatest limits
pub record AreLimits (limits : Limits) : Type 0 where
  pub some_cells : 0 < limits.cells
  pub few_cells : limits.cells ≤ MAX_CELLS
  pub some_steps : 0 < limits.steps
  pub few_steps : limits.steps ≤ MAX_STEPS
