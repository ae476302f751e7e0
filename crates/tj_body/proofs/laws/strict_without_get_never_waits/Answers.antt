use Rattle.tj_body.specs.Programs.{program_of, strictly}
use Rattle.tj_body.proofs.Proper.{root_proper}
use Rattle.tj_body.proofs.Rounds.WithoutGets.{never_waits}
use Rattle.tj_body.proofs.laws.strict_without_get_never_waits.Goals as goal

pub returns : goal.returns
returns g c =
    let b = g.B.Body in
    let o = (g.met.B.Body g.world.𝓛 g.world.𝓜 g.world.𝓡 ((λ s x. x), (λ x. x), (λ x. x), λ x. x)).obeys in
    λ strict root fresh. let program = program_of b.places b.awaits b.left b.asks b.then strict root in
    never_waits program o (root_proper (strictly program) fresh)
