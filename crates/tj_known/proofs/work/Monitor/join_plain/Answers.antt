use Rattle.std.proofs.Common.{refl, arith}
use Rattle.tj_known.proofs.WorkSteps.{joined_plain, index_less}
use Rattle.tj_known.specs.declared.step.Step.TheVariants as step
use Rattle.tj_known.proofs.work.Monitor.join_plain.Goals as goal

pub index_mut-requires : goal.index_mut-requires
index_mut-requires c =
    let less = index_less c.args.self.now.lines.now c.args.self.now.learners.items c.requires.work.lines
    c.requires.work.under_way c.args.index (step.Join c.args.joined c.args.answered) c.requires.next in
    let long = c.args.self.now.learners.ok.0 in omega arith

pub returns : goal.returns
returns c = record {
  lines = refl;
  act = joined_plain c.args.self.now.lines.now c.args.self.now.learners.items c.requires.work.lines
      c.requires.work.under_way c.args.index c.args.joined c.args.answered c.requires.next c.index_mut.result.now
      c.join.new.self c.knows-known.result c.index_mut.ensures.value c.knows-known.ensures c.requires.tells_nothing
      c.in_ok-join.ensures.act c.in_ok-join.ensures.row;
}
