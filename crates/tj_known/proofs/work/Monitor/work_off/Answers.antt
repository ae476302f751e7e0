use Rattle.std.proofs.Common.{◌∙◌, arith, sym, subst}
use Rattle.tj_mean.specs.ActLines.{AreActLines}
use Rattle.tj_known.specs.Inner.Learners.{IsUnderWay}
use Rattle.tj_known.proofs.WorkedOff.{all_done}
use Rattle.tj_known.proofs.WorkSteps.{at_work_still}
use Rattle.tj_known.proofs.work.Monitor.work_off.Goals as goal

pub sweep-requires : goal.sweep-requires
sweep-requires c = record {
  work = at_work_still c.args.self.now c.loop-self.self c.requires.work c.loop-self.invariant.lines c.loop-self.invariant.under_way;
}

pub sweep_back-requires : goal.sweep_back-requires
sweep_back-requires c = record {
  work = at_work_still c.args.self.now c.sweep.new.self c.requires.work
      (c.in_ok-sweep.ensures.lines ∙ c.loop-self.invariant.lines)
      (subst (λ lines. IsUnderWay lines c.sweep.new.self.learners.items) c.loop-self.invariant.lines
      c.in_ok-sweep.ensures.sweep.under_way);
}

pub loop-self-smaller : goal.loop-self-smaller
loop-self-smaller c =
    let one = c.in_ok-sweep.ensures.sweep.fewer c.if-branch.true in
    let two = c.in_ok-sweep_back.ensures.fewer in omega arith

pub loop-self-preserved : goal.loop-self-preserved
loop-self-preserved c =
    let same = c.in_ok-sweep.ensures.lines ∙ c.loop-self.invariant.lines in
    let back = c.in_ok-sweep_back.ensures in
    record {
      lines = back.lines ∙ same;
      under_way = subst (λ lines. IsUnderWay lines c.sweep_back.new.self.learners.items) same back.under_way;
    }

pub returns-clause-done : goal.returns-clause-done
returns-clause-done c =
    let sweep = c.in_ok-sweep.ensures.sweep in
    all_done c.loop-self.self.lines.now c.sweep.new.self.learners.items
    (subst AreActLines (sym c.loop-self.invariant.lines) c.requires.work.lines) sweep.under_way
    (sweep.stuck c.if-branch.false)
