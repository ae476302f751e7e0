use Rattle.tj_modes.proofs.Prelude.{Judge, Known, Plan, list, refl}
use Rattle.tj_modes.proofs.Outputs.{as_command}
use Rattle.tj_modes.proofs.plain_outputs.output_of.Goals as goal

pub returns-in-Plan : goal.returns-in-Plan
returns-in-Plan c = as_command c.args.command (Plan c.in-Plan.cells c.in-Plan.steps c.in-Plan.strict) c.args.input.now
    c.report.result c.in-Plan.is refl c.report.ensures

pub returns-in-List : goal.returns-in-List
returns-in-List c = as_command c.args.command list c.args.input.now c.listing.result c.in-List.is refl c.listing.ensures

pub returns-in-Judge : goal.returns-in-Judge
returns-in-Judge c = as_command c.args.command (Judge c.in-Judge.cells) c.args.input.now c.judging_of.result
    c.in-Judge.is refl c.judging_of.ensures

pub returns-in-Known : goal.returns-in-Known
returns-in-Known c = as_command c.args.command (Known c.in-Known.cells c.in-Known.steps) c.args.input.now
    c.joins_of.result c.in-Known.is refl c.joins_of.ensures
