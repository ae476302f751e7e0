use Rattle.tj_body.specs.WaitGraph.{OwnersWait, WaitsLeadToCycle}
use Rattle.tj_body.proofs.Proper.{of_lawful}
use Rattle.tj_body.proofs.WaitGraph.{owners_wait, waits_lead}
use Rattle.tj_body.proofs.laws.waits_lead_to_a_cycle.Goals as goal

pub returns : goal.returns
returns g c =
    let b = g.B.Body in
    let o = (g.met.B.Body g.world.𝓛 g.world.𝓜 g.world.𝓡 ((λ s x. x), (λ x. x), (λ x. x), λ x. x)).obeys in record {
      owners = of_lawful b.places b.awaits b.left b.asks b.then o OwnersWait owners_wait;
      cycle = of_lawful b.places b.awaits b.left b.asks b.then o WaitsLeadToCycle waits_lead;
    }
