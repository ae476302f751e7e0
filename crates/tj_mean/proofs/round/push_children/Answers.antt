use Rattle.std.proofs.Common.{◌-◌, ◌∷◌, [], ◌++◌, ap, sym, ◌∙◌, append_assoc}
use Rattle.std.specs.List.{flat_map}
use Rattle.tj_body.specs.Rounds.{family}
use Rattle.tj_mean.specs.Inner.KeptRounds.{still}
use Rattle.tj_mean.specs.declared.round.Pending.{Pending}
use Rattle.tj_mean.proofs.AtWork.RoundSteps.{still_push}
use Rattle.tj_mean.proofs.round.push_children.Goals as goal

pub loop-task-preserved : goal.loop-task-preserved
loop-task-preserved g c =
    let i = c.loop-task.invariant in let t = c.in-Some.task in
    let w : Pending g.row.B.Denot = record { task = t; depth = c.args.depth - 1 } in (
      t ∷ i.0,
      i.1 ∙ ap (λ l. l ++ i.0) c.in-Some.ensures.items ∙ append_assoc c.pop.new.self.items (t ∷ []) i.0,
      λ rules V.
          let of = family rules V (c.args.depth - 1) in
          ap (λ l. still rules V l) c.in_ok-push.ensures.items
          ∙ still_push rules V c.loop-task.pending.items w
          ∙ ap (λ l. of t ++ l) (i.2 rules V)
          ∙ sym (append_assoc (of t) (flat_map of i.0) (still rules V c.args.pending.now.items)),
    )
