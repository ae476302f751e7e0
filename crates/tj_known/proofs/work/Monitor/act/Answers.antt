use Rattle.std.proofs.Common.{◌∙◌, refl, sym}
use Rattle.tj_known.proofs.WorkSteps.{none_next, some_next}
use Rattle.tj_known.proofs.work.Monitor.act.Goals as goal

pub returns-in-None : goal.returns-in-None
returns-in-None c = record {
  lines = refl;
  act = none_next c.args.self.now.lines.now c.args.self.now.learners.items c.args.index c.index.result.now
      c.requires.work.under_way c.requires.index c.index.ensures (sym c.next.ensures ∙ c.in-None.is);
}

pub take_step-requires-clause-next : goal.take_step-requires-clause-next
take_step-requires-clause-next c = some_next c.args.self.now.learners.items c.args.index c.index.result.now
    c.in-Some.step c.requires.index c.index.ensures (sym c.next.ensures ∙ c.in-Some.is)
