use Rattle.tj_body.specs.Programs.{rules_of}
use Rattle.tj_laws.proofs.JoinsAgainst.{fails_against}
use Rattle.tj_laws.proofs.joins.joins_against_the_order.Goals as goal

pub returns : goal.returns
returns g c =
    let b = g.B.Body in
    let o = (g.met.B.Body g.world.𝓛 g.world.𝓜 g.world.𝓡 ((λ s x. x), (λ x. x), (λ x. x), λ x. x)).obeys in
    λ strict t proper. fails_against (rules_of b.places b.awaits b.left b.asks b.then strict) o t proper
