use Rattle.tj_modes.proofs.Prelude.{IsKnown, Known, inr}
use Rattle.tj_modes.proofs.Outputs.{if_ok, of_refused}
use Rattle.tj_syntax.specs.View as view
use Rattle.tj_modes.proofs.known_run.joins_of.Goals as goal

pub returns-in-Err : goal.returns-in-Err
returns-in-Err c = of_refused (IsKnown (Known c.args.cells c.args.steps)) c.in-Err.fault c.args.input.now
    c.refused.result c.in-Err.ensures.fault c.refused.ensures.status c.refused.ensures.text c.refused.ensures.none

pub returns-in-Ok : goal.returns-in-Ok
returns-in-Ok c = if_ok c.joins_in_script.result (λ output told all read.
    inr (told.0, (view.script c.in-Ok.script, c.in-Ok.ensures.ok all read, told.1), told.2)) c.joins_in_script.ensures
