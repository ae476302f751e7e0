use Rattle.std.proofs.Common.{ap, sym, ◌∙◌}
use Rattle.std.proofs.lemmas.Result.{IfOk-weaker}
use Rattle.std.specs.Option.{is_some}
use Rattle.tj_forest.proofs.PutsAfter.{is_some_map, put_after_failure}
use Rattle.tj_findings.specs.Forests.{view_forest}
use Rattle.tj_forest.proofs.consequences.add_after_failure.Goals as goal

pub returns : goal.returns
returns c = IfOk-weaker c.add_debts.result _ _ (λ u is fs are.
    put_after_failure c.args.guide.now.lookups.lines.now c.args.line.now fs c.cause_number-number.result
    (view_forest c.args.forest.now) (view_forest c.add_debts.new.forest)
    (ap is_some (sym c.echoed_by.ensures) ∙ is_some_map _ c.echoed_by.result ∙ sym c.is_some.ensures
    ∙ c.if-is_some.false)
    (c.cause_number-number.ensures fs are) is) c.add_debts.ensures
