use Rattle.std.proofs.Common.{◌∙◌}
use Rattle.tj_forest.proofs.RanksMore.{next_ranked, ranked_more}
use Rattle.tj_findings.specs.Findings.{told_cycle}
use Rattle.tj_forest.proofs.causes.add_cycles.Goals as goal

pub loop-number-preserved : goal.loop-number-preserved
loop-number-preserved c =
    let l = c.loop-number in
    let x = c.index-cycles-number.result in
    let told = told_cycle c.args.lookups.now.lines.now in
    ranked_more l.trees.items c.push.new.self.items c.bare.result l.number (told x) _ _ _ c.in_ok-push.ensures.items
    c.bare.ensures.rank (c.bare.ensures.root ∙ c.in_ok-finding.ensures) c.bare.ensures.below l.invariant
    (next_ranked told c.args.cycles.now l.number x c.loop-number-test.true c.index-cycles-number.is)
