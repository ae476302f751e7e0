use Rattle.std.proofs.Common.{[], ◌∷◌, ◌++◌, ap, ◌∙◌}
use Rattle.tj_body.specs.History.{start}
use Rattle.tj_mean.proofs.rounds.first_points.Goals as goal

pub returns : goal.returns
returns g c = c.in_ok-push.ensures.items
    ∙ ap (λ l. l ++ c.in_ok-start.field-0 ∷ []) c.new-points.ensures.items
    ∙ ap (λ p. p ∷ []) (c.in_ok-start.ensures ∙ ap (λ t. start t) c.in_ok-root_task.ensures)
