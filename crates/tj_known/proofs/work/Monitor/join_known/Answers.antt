use Rattle.std.proofs.Common.{◌∙◌, ◌||◌, refl, sym, ap, arith}
use Rattle.tj_known.specs.Inner.Learners.{has_index}
use Rattle.tj_known.proofs.WorkSteps.{done_again, joined_known, joined_less, joined_waits, index_less}
use Rattle.tj_known.specs.declared.step.Step.TheVariants as step
use Rattle.tj_known.proofs.work.Monitor.join_known.Goals as goal

pub index-requires : goal.index-requires
index-requires c =
    let less = joined_less c.args.self.now.lines.now c.args.self.now.learners.items c.requires.work.lines
    c.requires.work.under_way c.args.index c.args.joined c.args.answered c.requires.next in
    let long = c.args.self.now.learners.ok.0 in omega arith

pub returns-then-not-is_done : goal.returns-then-not-is_done
returns-then-not-is_done c = record {
  lines = refl;
  act = joined_waits c.args.self.now.lines.now c.args.self.now.learners.items c.requires.work.lines
      c.requires.work.under_way c.args.index c.args.joined c.args.answered c.requires.next c.requires.tells
      c.index.result.now c.index.ensures (sym c.is_done.ensures ∙ c.if-not-is_done.true);
}

pub index-requires-2 : goal.index-requires-2
index-requires-2 c =
    let less = joined_less c.args.self.now.lines.now c.args.self.now.learners.items c.requires.work.lines
    c.requires.work.under_way c.args.index c.args.joined c.args.answered c.requires.next in
    let long = c.args.self.now.learners.ok.0 in omega arith

pub index_mut-requires : goal.index_mut-requires
index_mut-requires c =
    let less = index_less c.args.self.now.lines.now c.args.self.now.learners.items c.requires.work.lines
    c.requires.work.under_way c.args.index (step.Join c.args.joined c.args.answered) c.requires.next in
    let long = c.args.self.now.learners.ok.0 in omega arith

pub returns : goal.returns
returns c =
    let less = joined_less c.args.self.now.lines.now c.args.self.now.learners.items c.requires.work.lines
    c.requires.work.under_way c.args.index c.args.joined c.args.answered c.requires.next in record {
      lines = refl;
      act = joined_known c.args.self.now.lines.now c.args.self.now.learners.items c.requires.work.lines
          c.requires.work.under_way c.args.index c.args.joined c.args.answered c.requires.next c.requires.tells
          c.index_mut.result.now c.learn.new.self c.index-2.result.now c.index_mut.ensures.value c.index-2.ensures
          (done_again c.args.self.now.learners.items c.args.joined c.index.result.now c.index-2.result.now less
          c.index.ensures c.index-2.ensures (sym c.is_done.ensures ∙ c.if-not-is_done.false))
          c.in_ok-learn.ensures.act
          (λ k. c.in_ok-learn.ensures.row k
          ∙ ap (λ r. has_index c.index_mut.result.now.knows.items k || has_index r k)
          (c.as_slice-2.ensures.value ∙ (c.in_ok-told.ensures.items ∙ c.as_slice.ensures.value)));
    }
