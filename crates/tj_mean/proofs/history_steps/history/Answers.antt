use Rattle.tj_body.specs.Programs.{rules_of}
use Rattle.tj_body.proofs.Histories.Points.{whole}
use Rattle.tj_mean.specs.Inner.Assignments.{assignment_in}
use Rattle.tj_mean.proofs.RoundWaves.{point_reaches}
use Rattle.tj_mean.proofs.history_steps.history.Goals as goal

pub returns : goal.returns
returns g c =
    let b = g.B.Body in
    let rules = rules_of b.places b.awaits b.left b.asks b.then c.args.strict in
    let V = assignment_in c.args.given.now in
    whole rules (g.met.B.Body g.world.𝓛 g.world.𝓜 g.world.𝓡 ((λ s x. x), (λ x. x), (λ x. x), λ x. x)).obeys V
    c.args.task
    c.requires.proper c.go_to_stop.new.p
    (point_reaches rules V c.args.task c.in_ok-p.p c.go_to_stop.new.p (0, c.in_ok-p.ensures)
    c.in_ok-go_to_stop.ensures.reached)
    c.in_ok-go_to_stop.ensures.stopped
