use Rattle.std.proofs.Common.{◌≡◌, ◌+◌, [], ◌∷◌, ◌++◌, take, ap, sym, subst, ◌∙◌}
use Rattle.std.proofs.lemmas.List.{take_more}
use Rattle.tj_mean.specs.WaitIndexes.{AreNext}
use Rattle.tj_mean.proofs.Outcomes.Indexes.{next_more}
use Rattle.tj_mean.proofs.Lists.Elements.{all_taken}
use Rattle.tj_mean.proofs.wait_graph.next_tasks.Goals as goal

pub loop-task-preserved : goal.loop-task-preserved
loop-task-preserved c =
    let i = c.loop-task.task-index in let ts = c.args.tasks.now in let t = c.task-item.result in
    let more = next_more ts (take i ts) c.loop-task.next.items t c.next_of.result c.loop-task.invariant
    c.next_of.ensures in
    let taken : take (i + 1) ts ≡ take i ts ++ t ∷ [] =
    take_more ts i t c.loop-task-test.true ∙ ap (λ z. take i ts ++ z ∷ []) (sym c.task-item.is) in
    subst (λ us. AreNext ts us c.push.new.self.items) (sym taken)
    (subst (λ os. AreNext ts (take i ts ++ t ∷ []) os) (sym c.in_ok-push.ensures.items) more)

pub returns : goal.returns
returns c =
    let ts = c.args.tasks.now in
    subst (λ us. AreNext ts us c.loop-task.next.items) (all_taken ts c.loop-task.task-index c.loop-task-test.false)
    c.loop-task.invariant
