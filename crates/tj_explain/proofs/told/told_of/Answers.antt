use Rattle.std.proofs.Common.{ap, sym, ◌∙◌}
use Rattle.tj_lex.specs.Positions.{position_after}
use Rattle.tj_explain.proofs.ToldInputs.{long_told, whole_told}
use Rattle.tj_explain.proofs.told.told_of.Goals as goal

pub returns-in-Whole : goal.returns-in-Whole
returns-in-Whole c = whole_told c.args.command c.args.input.now c.in-Whole.text c.items.result.now
    c.told_of_text.result c.in-Whole.is c.items.ensures c.told_of_text.ensures

pub returns-in-Long : goal.returns-in-Long
returns-in-Long c = long_told c.args.command c.args.input.now c.in-Long.text c.items-in-Long-2.result.now
    c.position_behind-at.result c.told_fault.result c.in-Long.is c.items-in-Long-2.ensures
    (c.position_behind-at.ensures ∙ ap position_after (c.items-in-Long.ensures ∙ sym c.items-in-Long-2.ensures))
    (c.told_fault.ensures.status, c.told_fault.ensures.text, c.told_fault.ensures.none)
