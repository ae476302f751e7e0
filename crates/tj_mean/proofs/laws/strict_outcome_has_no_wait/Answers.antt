use Rattle.tj_body.specs.Programs.{program_of, strictly}
use Rattle.tj_body.specs.Rounds.{meaning}
use Rattle.tj_body.proofs.Proper.{root_proper}
use Rattle.tj_body.proofs.Rounds.WithoutGets.{never_waits}
use Rattle.tj_mean.proofs.Outcomes.NoWaits.{has_no_wait}
use Rattle.tj_mean.proofs.laws.strict_outcome_has_no_wait.Goals as goal

pub returns : goal.returns
returns g c =
    let b = g.B.Body in
    let o = (g.met.B.Body g.world.𝓛 g.world.𝓜 g.world.𝓡 ((λ s x. x), (λ x. x), (λ x. x), λ x. x)).obeys in
    λ strict root fresh calm no_get calm_root N fits.
    let program = program_of b.places b.awaits b.left b.asks b.then strict root in
    let proper = root_proper (strictly program) fresh in
    has_no_wait (meaning (strictly program) N) (never_waits program o proper calm no_get calm_root N fits)
