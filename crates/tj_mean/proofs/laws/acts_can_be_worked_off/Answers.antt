use Rattle.tj_body.specs.Programs.{program_of}
use Rattle.tj_body.proofs.Proper.{root_proper}
use Rattle.tj_mean.proofs.NotedActs.ActsAgree.{acts_agree}
use Rattle.tj_mean.proofs.laws.acts_can_be_worked_off.Goals as goal

pub returns : goal.returns
returns g c =
    let b = g.B.Body in
    let o = (g.met.B.Body g.world.𝓛 g.world.𝓜 g.world.𝓡 ((λ s x. x), (λ x. x), (λ x. x), λ x. x)).obeys in
    λ strict root fresh calm N fits lines are.
    let program = program_of b.places b.awaits b.left b.asks b.then strict root in
    acts_agree program o (root_proper program fresh) calm N fits lines are
