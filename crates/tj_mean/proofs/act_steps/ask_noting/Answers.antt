use Rattle.std.proofs.Common.{◌++◌, false, length}
use Rattle.std.proofs.lemmas.Result.{IfOk-equal}
use Rattle.tj_mean.specs.Acts.{ask_acts}
use Rattle.tj_mean.specs.Inner.Assignments.{assignment_in}
use Rattle.tj_mean.specs.Inner.NotedActs.{forked_since}
use Rattle.tj_mean.proofs.NotedActs.NotedAsks.{acts_noted}
use Rattle.tj_mean.proofs.act_steps.ask_noting.Goals as goal

pub returns-clause-acts : goal.returns-clause-acts
returns-clause-acts g c =
    let p = c.args.p.now in
    let V = assignment_in c.args.given.now in
    let ask = g.B.Body.asks p.body c.args.answer in
    let children = c.items-forked.result.now in
    IfOk-equal c.note_fork.result c.note_fork.new.acts
    (c.note_join.new.acts ++ forked_since (length children) c.take.new.p) (c.args.acts.now ++ ask_acts V ask p)
    c.note_fork.ensures
    (acts_noted false V p c.next.new.self ask c.in_ok-ask.ask c.in_ok-joined.joined children c.take.new.p
    c.args.acts.now c.note_join.new.acts c.in_ok-ask.ensures.ask c.in_ok-joined.ensures c.items-forked.ensures
    c.in_ok-take.ensures c.in_ok-note_join.ensures)
