use Rattle.std.proofs.Common.{subst}
use Rattle.tj_known.specs.Inner.Learners.{IsTried}
use Rattle.tj_known.proofs.WorkSteps.{advanced, at_work_still}
use Rattle.tj_known.proofs.work.Monitor.go_on.Goals as goal

pub act-requires-clause-work : goal.act-requires-clause-work
act-requires-clause-work c = at_work_still c.args.self.now c.loop-moved.self c.requires.work
    c.loop-moved.invariant.lines c.loop-moved.invariant.under_way

pub returns-clause-acts : goal.returns-clause-acts
returns-clause-acts c =
    let now = c.loop-moved.self.learners.items in
    let new = c.act.new.self.learners.items in
    advanced c.args.self.now.lines.now c.args.index c.args.self.now.learners.items now new c.loop-moved.moved
    (subst (λ b. IsTried c.args.self.now.lines.now c.args.index now new b) c.if-branch.false
    (subst (λ lines. IsTried lines c.args.index now new c.in_ok-act.field-0) c.loop-moved.invariant.lines
    c.in_ok-act.ensures.act)) c.loop-moved.invariant.fewer c.loop-moved.invariant.still
