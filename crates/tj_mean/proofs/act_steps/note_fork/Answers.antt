use Rattle.std.proofs.Common.{◌≤◌, ◌++◌, append-nil, ap, length, sym, subst, ◌∙◌}
use Rattle.std.proofs.lemmas.Option.{slice_get_past}
use Rattle.tj_mean.specs.Inner.NotedActs.{fork_noted}
use Rattle.tj_mean.proofs.act_steps.note_fork.Goals as goal

pub returns-in_default : goal.returns-in_default
returns-in_default g c =
    let acts = c.args.acts.now in
    let past = slice_get_past c.args.p.now.children c.args.forked
    (subst (λ l. length l ≤ c.args.forked) c.items.ensures c.in_default.ensures.lookup.3) in
    sym (ap (λ o. acts ++ fork_noted o) past ∙ append-nil acts)
