use Rattle.std.proofs.Common.{ap, subst, sym}
use Rattle.tj_syntax.specs.View as view
use Rattle.tj_trace.specs.Logs.{logged_program}
use Rattle.tj_trace.specs.Traces.{AreTraced}
use Rattle.tj_trace.proofs.Seen.{is_full_alike}
use Rattle.tj_explain.proofs.ToldInputs.{root_told}
use Rattle.tj_explain.proofs.told.told_script.Goals as goal

pub told_lines-requires : goal.told_lines-requires
told_lines-requires c =
    let limits = c.args.command.limits in
    let program = logged_program limits.strict c.in_ok-root.root in
    (program, limits.cells, subst (AreTraced program limits.cells) (sym c.items.ensures) c.in-Ok.ensures.traced)

pub returns-in-Ok : goal.returns-in-Ok
returns-in-Ok c =
    let limits = c.args.command.limits in
    let program = logged_program limits.strict c.in_ok-root.root in
    root_told c.args.command c.args.text.now (view.script c.args.script.now) c.args.tokens.now c.in_ok-root.root
    c.items.result.now c.told_lines.result c.in_ok-root.ensures.main c.in-Ok.ensures.fits
    (subst (AreTraced program limits.cells) (sym c.items.ensures) c.in-Ok.ensures.traced) c.told_lines.ensures

pub told_full-requires-clause-full : goal.told_full-requires-clause-full
told_full-requires-clause-full c =
    let limits = c.args.command.limits in
    (is_full_alike limits.strict c.in_ok-root.root limits.cells).0 (c.in-Err-Full.ensures.full c.in-Err-Full.field-0-is)

-- the root is the script's task `main`
pub told_full-requires-clause-script : goal.told_full-requires-clause-script
told_full-requires-clause-script c = ap (λ t. t.script) c.in_ok-root.ensures.main.0.2
