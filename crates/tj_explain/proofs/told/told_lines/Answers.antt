use Rattle.std.proofs.Common.{ap, sym, ◌∙◌}
use Rattle.tj_syntax.specs.View as view
use Rattle.tj_explain.proofs.ToldInputs.{fine_told, lines_told}
use Rattle.tj_explain.proofs.told.told_lines.Goals as goal
use Rattle.tj_explain.specs.WhyOutput.{tells_lines}

pub returns-then-tells_lines : goal.returns-then-tells_lines
returns-then-tells_lines c =
    lines_told c.args.command c.args.text.now (view.script c.args.script.now) c.args.tokens.now
    c.in_ok-outcome.outcome c.args.lines.now c.told_traced.result c.in_ok-outcome.ensures c.told_traced.ensures

pub returns : goal.returns
returns c =
    let kind = c.args.command.telling in
    fine_told c.args.command c.args.text.now (view.script c.args.script.now) c.args.tokens.now
    c.in_ok-outcome.outcome c.args.lines.now c.told_fine.result c.in_ok-outcome.ensures
    (ap (tells_lines kind) (sym c.marked.ensures) ∙ (sym c.tells_lines.ensures ∙ c.if-tells_lines.false))
    c.told_fine.ensures.status c.told_fine.ensures.text
