use Rattle.std.proofs.Common.{ap, ◌∙◌}
use Rattle.std.proofs.lemmas.Result.{IfOk-weaker}
use Rattle.std.specs.Prelude.{option_and_then, slice_get}
use Rattle.std.specs.Option.{option_map}
use Rattle.tj_forest.proofs.ChainsBegun.{origin_here}
use Rattle.tj_forest.proofs.PutsAfter.{is_there, put_after_chain}
use Rattle.tj_findings.specs.Forests.{begun_by, view_forest}
use Rattle.tj_forest.proofs.consequences.add_after_chain.Goals as goal

pub told_echo-requires-clause-origin : goal.told_echo-requires-clause-origin
told_echo-requires-clause-origin c =
    let lines = c.args.guide.now.lookups.lines.now in
    origin_here lines c.args.line.now c.in-Some.cell.now (slice_get lines c.args.at)
    (option_map (λ line. line.now) c.origin_of-origin.result) c.origin_of-origin.ensures c.requires.here
    (is_there _ c.echoed_by.result c.in-Some.cell _ c.echoed_by.ensures c.in-Some.is)

pub returns : goal.returns
returns c =
    let lines = c.args.guide.now.lookups.lines.now in
    IfOk-weaker c.add_debts.result _ _ (λ u is fs are.
    put_after_chain lines c.args.line.now c.in-Some.cell.now fs c.cause_number-number.result _
    c.in_ok-finding.finding (view_forest c.args.forest.now) (view_forest c.put.new.self)
    (view_forest c.add_debts.new.forest)
    (is_there _ c.echoed_by.result c.in-Some.cell _ c.echoed_by.ensures c.in-Some.is)
    (c.cause_number-number.ensures fs are)
    (c.begun_by-name.ensures ∙ ap (option_and_then (begun_by lines)) c.requires.here)
    c.in_ok-finding.ensures c.in_ok-put.ensures is)
    c.add_debts.ensures
