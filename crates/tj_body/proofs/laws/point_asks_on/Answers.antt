use Rattle.tj_body.specs.Programs.{rules_of}
use Rattle.tj_body.proofs.Histories.Points.{asks_on}
use Rattle.tj_body.proofs.laws.point_asks_on.Goals as goal

pub returns : goal.returns
returns g c =
    let b = g.B.Body in
    λ strict t proper V p a. asks_on (rules_of b.places b.awaits b.left b.asks b.then strict) V t p a
