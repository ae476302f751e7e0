use Rattle.std.proofs.Common.{arith}
use Rattle.tj_mean.proofs.Outcomes.LeastIndexes.{told_more, told_all}
use Rattle.tj_mean.proofs.least_indexes.least_indexes.Goals as goal

pub loop-first-preserved : goal.loop-first-preserved
loop-first-preserved c =
    let l = c.loop-first in let w = c.walk-found in let t = c.tell in
    told_more c.args.next.now l.first l.met.items w.new.met.items l.least.items t.new.least.items w.result l.invariant
    w.ensures.length t.ensures.length w.ensures.first w.ensures.kept w.ensures.cycles t.ensures.kept t.ensures.told

pub returns-clause-told : goal.returns-clause-told
returns-clause-told c m ps k =
    let l = c.loop-first in
    let ended = c.loop-first-test.false in
    told_all c.args.next.now l.first l.met.items l.least.items l.invariant (omega arith) m ps k
