use Rattle.tj_body.specs.Programs.{program_of}
use Rattle.tj_body.specs.Rounds.{meaning}
use Rattle.tj_body.proofs.Proper.{root_proper}
use Rattle.tj_body.proofs.WaitGraph.{waits_lead}
use Rattle.tj_mean.proofs.Outcomes.StandingCycles.{has_cycle_where_waits}
use Rattle.tj_mean.proofs.Outcomes.ToldOutcomes.{meaning_apart}
use Rattle.tj_mean.proofs.laws.outcome_has_cycle_where_waits.Goals as goal

pub returns : goal.returns
returns g c =
    let b = g.B.Body in
    let o = (g.met.B.Body g.world.𝓛 g.world.𝓜 g.world.𝓡 ((λ s x. x), (λ x. x), (λ x. x), λ x. x)).obeys in
    λ strict root fresh N fits.
    let program = program_of b.places b.awaits b.left b.asks b.then strict root in
    has_cycle_where_waits (meaning program N) (meaning_apart program N)
    (λ x q w. let l = waits_lead program o (root_proper program fresh) N fits x q w in (l.0, l.3))
