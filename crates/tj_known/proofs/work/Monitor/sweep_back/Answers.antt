use Rattle.std.proofs.Common.{◌∙◌, arith, subst}
use Rattle.tj_known.specs.Inner.Learners.{IsUnderWay}
use Rattle.tj_known.proofs.WorkSteps.{as_many, at_work_still, no_more}
use Rattle.tj_known.proofs.work.Monitor.sweep_back.Goals as goal

pub go_on-requires-clause-work : goal.go_on-requires-clause-work
go_on-requires-clause-work c = at_work_still c.args.self.now c.loop-left.self c.requires.work c.loop-left.invariant.lines
    c.loop-left.invariant.under_way

pub loop-left-preserved : goal.loop-left-preserved
loop-left-preserved c =
    let old = c.loop-left.self.learners.items in
    let new = c.go_on.new.self.learners.items in
    let on = c.in_ok-go_on.ensures.acts in
    let less = no_more c.loop-left.self.lines.now _ old new c.in_ok-go_on.field-0 on in
    let under = subst (λ lines. IsUnderWay lines new) c.loop-left.invariant.lines on.under_way in
    let many = as_many c.args.self.now.lines.now old new c.loop-left.invariant.under_way under in
    let within = c.loop-left.invariant.within in
    let fewer = c.loop-left.invariant.fewer in
    record {
      lines = c.in_ok-go_on.ensures.lines ∙ c.loop-left.invariant.lines;
      under_way = under;
      fewer = omega arith;
      within = omega arith;
    }
