use Rattle.std.proofs.Common.{◌∙◌}
use Rattle.tj_forest.proofs.RanksMore.{next_twice, ranked_more}
use Rattle.tj_findings.specs.Findings.{told_debt}
use Rattle.tj_forest.proofs.causes.add_debts.Goals as goal

pub loop-promise-preserved : goal.loop-promise-preserved
loop-promise-preserved c =
    let l = c.loop-promise in
    let x = c.promise-item.result in
    let told = told_debt c.args.lookups.now.lines.now c.args.line.now in
    ranked_more l.trees.items c.push.new.self.items c.bare.result c.args.rank (told x) _ _ _ c.in_ok-push.ensures.items
    c.bare.ensures.rank (c.bare.ensures.root ∙ c.in_ok-finding.ensures) c.bare.ensures.below l.invariant
    (next_twice (λ f. (c.args.rank, f)) told c.args.line.now.line.owes c.items-promise-items.result.now
    l.promise-index x c.items-promise-items.ensures c.loop-promise-test.true c.promise-item.is)
