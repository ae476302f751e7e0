use Rattle.tj_modes.proofs.Prelude.{IsListed, inr, refl}
use Rattle.tj_modes.proofs.Outputs.{of_refused}
use Rattle.tj_syntax.specs.View as view
use Rattle.tj_modes.proofs.plain_outputs.listing.Goals as goal

pub returns-in-Err : goal.returns-in-Err
returns-in-Err c = of_refused IsListed c.in-Err.fault c.args.input.now c.refused.result c.in-Err.ensures.fault
    c.refused.ensures.status c.refused.ensures.text c.refused.ensures.none

pub returns-in_ok-list_text-in-Ok : goal.returns-in_ok-list_text-in-Ok
returns-in_ok-list_text-in-Ok c = λ all read.
    inr (view.script c.in-Ok.script, c.in-Ok.ensures.ok all read, refl, c.in_ok-list_text-in-Ok.ensures.text)
