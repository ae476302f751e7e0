use Rattle.std.proofs.Common.{◌≡◌, arith}
use Rattle.tj_known.proofs.WorkSteps.{as_many, at_work_still, sweep_ends}
use Rattle.tj_known.proofs.work.Monitor.sweep.Goals as goal

pub go_on-requires-clause-work : goal.go_on-requires-clause-work
go_on-requires-clause-work c = at_work_still c.args.self.now c.loop-index.self c.requires.work
    c.loop-index.invariant.lines c.loop-index.invariant.sweep.under_way

pub returns-clause-sweep : goal.returns-clause-sweep
returns-clause-sweep c =
    let old = c.args.self.now.learners.items in
    let now = c.loop-index.self.learners.items in
    let sweep = c.loop-index.invariant.sweep in
    let many = as_many c.args.self.now.lines.now old now c.requires.work.under_way sweep.under_way in
    let long = c.args.self.now.learners.ok.0 in
    let end : c.len-index-end.result ≡ c.args.self.now.learners.len = c.len-index-end.ensures in
    let past = c.loop-index-test.false in
    sweep_ends c.args.self.now.lines.now c.loop-index.index old now c.loop-index.moved sweep (omega arith)
