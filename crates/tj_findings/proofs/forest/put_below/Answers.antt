use Rattle.std.proofs.Common.{arith, ◌≤◌, length}
use Rattle.tj_findings.proofs.PutBelow.{put_past, put_there}
use Rattle.tj_findings.proofs.forest.put_below.Goals as goal

pub returns-in_ok-put : goal.returns-in_ok-put
returns-in_ok-put c = put_there c.args.trees.now.items c.args.number c.args.finding c.index_mut.result.now
    c.put.new.self (let less = c.if-number-len.true in omega arith) c.index_mut.ensures.value c.in_ok-put.ensures

pub returns-else-number-len : goal.returns-else-number-len
returns-else-number-len c = put_past c.args.trees.now.items c.args.number c.args.finding
    (let past = c.if-number-len.false in omega arith)
