use Rattle.tj_body.specs.History.{history}
use Rattle.tj_body.specs.Programs.{rules_of}
use Rattle.tj_body.proofs.Histories.Grows.{extends}
use Rattle.tj_body.proofs.Histories.Points.{stopped, in_history, whole}
use Rattle.tj_body.proofs.laws.history_stops.Goals as goal

pub returns : goal.returns
returns g c =
    let b = g.B.Body in
    let o = (g.met.B.Body g.world.𝓛 g.world.𝓜 g.world.𝓡 ((λ s x. x), (λ x. x), (λ x. x), λ x. x)).obeys in
    λ strict t proper V.
    let rules = rules_of b.places b.awaits b.left b.asks b.then strict in (
      stopped rules o V t proper,
      (λ p h. extends p (history rules V t) (in_history rules o V t proper p h)),
      whole rules o V t proper,
    )
