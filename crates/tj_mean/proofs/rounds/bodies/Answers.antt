-- What the tasks have come to is told, with their bodies.
use Rattle.std.proofs.Common.{◌∙◌}
use Rattle.tj_mean.proofs.rounds.bodies.Goals as goal

pub bodies_of-requires-clause-stopped : goal.bodies_of-requires-clause-stopped
bodies_of-requires-clause-stopped g c κs within = c.in_ok-rest.ensures.stopped

pub returns-clause-told : goal.returns-clause-told
returns-clause-told g c =
    let r = c.in_ok-rest.ensures.rest in (r.0, r.1, r.2 ∙ c.in_ok-bodies_of.ensures)
