use Rattle.tj_body.specs.Laws.{CountsMade}
use Rattle.tj_body.proofs.Proper.{of_lawful}
use Rattle.tj_body.proofs.Rounds.Sizes.{counts_made}
use Rattle.tj_body.proofs.laws.point_counts_made.Goals as goal

pub returns : goal.returns
returns g c =
    let b = g.B.Body in
    let o = (g.met.B.Body g.world.𝓛 g.world.𝓜 g.world.𝓡 ((λ s x. x), (λ x. x), (λ x. x), λ x. x)).obeys in
    of_lawful b.places b.awaits b.left b.asks b.then o CountsMade counts_made
