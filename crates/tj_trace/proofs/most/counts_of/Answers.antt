use Rattle.std.proofs.Common.{get_or}
use Rattle.tj_base.specs.declared.cell.Sort.TheVariants as sort
use Rattle.tj_trace.proofs.Counted.{counts_more}
use Rattle.tj_trace.proofs.MostSeen.{same_default}
use Rattle.tj_trace.proofs.most.counts_of.Goals as goal

pub loop-maker-preserved : goal.loop-maker-preserved
loop-maker-preserved c =
    let makers = c.args.makers.now in
    let n = c.loop-maker.maker-index in
    let m = get_or makers n (record { sort = sort.Task; decl = 0; at = 0 }) in
    let same = same_default makers n (record { sort = sort.Task; decl = 0; at = 0 }) m c.loop-maker-test.true in
    counts_more makers n c.loop-maker-test.true c.loop-maker.counts c.insert.new.self c.loop-maker.invariant m same
    c.count_of-before.result c.count_of-before.ensures c.in_ok-insert.ensures.updates.0
