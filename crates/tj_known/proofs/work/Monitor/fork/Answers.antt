use Rattle.std.proofs.Common.{refl, ap, ◌∙◌, arith}
use Rattle.tj_known.specs.declared.learner.Learner.{Learner}
use Rattle.tj_known.proofs.WorkSteps.{child_less, forked}
use Rattle.tj_known.proofs.work.Monitor.fork.Goals as goal

pub index_mut-requires-2 : goal.index_mut-requires-2
index_mut-requires-2 c =
    let less = child_less c.args.self.now.lines.now c.args.self.now.learners.items c.requires.work.lines c.requires.work.under_way
    c.args.index c.args.child c.requires.next in
    let long = c.args.self.now.learners.ok.0 in omega arith

pub returns : goal.returns
returns c = record {
  lines = refl;
  act = forked c.args.self.now.lines.now c.args.self.now.learners.items c.requires.work.lines
      c.requires.work.under_way c.args.index c.args.child c.requires.next c.index_mut.result.now c.fork.new.self
      c.index_mut-2.result.now c.begin.new.self c.index_mut.ensures.value c.index_mut-2.ensures.value
      (ap (λ (w : Learner). w.steps.items) c.begin.ensures) (ap (λ (w : Learner). w.marks.items) c.begin.ensures)
      (ap (λ (w : Learner). w.begun) c.begin.ensures)
      (ap (λ (w : Learner). w.knows.items) c.begin.ensures ∙ c.in_ok-inherited.ensures.inherited)
      c.in_ok-inherited.ensures.act c.in_ok-inherited.ensures.row;
}
