use Rattle.std.proofs.Common.{◌∷◌, [], sym, ap, subst, arith, length}
use Rattle.std.proofs.lemmas.List.{length-append}
use Rattle.std.proofs.Common.{List}
use Rattle.tj_known.specs.declared.learner.Learner.{Learner}
use Rattle.tj_known.proofs.Beginnings.{AreNew, begins, line_acts_there, more_new}
use Rattle.tj_known.proofs.work.Monitor.new.Goals as goal

pub new_learner-requires-clause-there : goal.new_learner-requires-clause-there
new_learner-requires-clause-there c = line_acts_there c.args.lines.now c.requires c.loop-index.index
    c.index-lines-index.result c.loop-index-test.true c.index-lines-index.is

pub loop-index-preserved : goal.loop-index-preserved
loop-index-preserved c =
    let count = c.loop-index.invariant.count in
    let more = ap length c.in_ok-push.ensures.items in
    let one = length-append c.loop-index.learners.items (c.in_ok-new_learner.field-0 ∷ []) in
    record {
      count = omega arith;
      new = subst (λ ls. AreNew c.args.lines.now ls) (sym {A = List Learner} c.in_ok-push.ensures.items)
          (more_new c.args.lines.now c.loop-index.learners.items c.loop-index.index c.index-lines-index.result
          c.in_ok-new_learner.field-0 c.loop-index.invariant.count c.loop-index.invariant.new c.loop-index-test.true
          c.index-lines-index.is c.in_ok-new_learner.ensures);
    }

pub returns-clause-work : goal.returns-clause-work
returns-clause-work c =
    let count = c.loop-index.invariant.count in
    let end = c.loop-index-test.false in
    let most = c.loop-index.auto.index-end in record {
      lines = c.requires;
      under_way = begins c.args.lines.now c.requires c.loop-index.learners.items (omega arith) c.loop-index.invariant.new;
    }
