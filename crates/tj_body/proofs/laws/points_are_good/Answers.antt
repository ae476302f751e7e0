use Rattle.std.proofs.Common.{subst, sym}
use Rattle.tj_body.specs.Points.{IsGood}
use Rattle.tj_body.specs.Rounds.{given}
use Rattle.tj_body.specs.Laws.{IsAllGood}
use Rattle.tj_body.proofs.Histories.Good.{good, task_proper}
use Rattle.tj_body.proofs.Proper.{of_lawful}
use Rattle.tj_body.proofs.laws.points_are_good.Goals as goal

pub returns : goal.returns
returns g c =
    let b = g.B.Body in
    let o = (g.met.B.Body g.world.𝓛 g.world.𝓜 g.world.𝓡 ((λ s x. x), (λ x. x), (λ x. x), λ x. x)).obeys in
    of_lawful b.places b.awaits b.left b.asks b.then o IsAllGood
    (λ program o root_proper t i. let proper = task_proper program o root_proper i.0 t i.1 in (
      proper,
      λ p h. subst (IsGood program.rules) (sym h.1.1)
          (good program.rules o (given program h.0) t proper h.1.0),
    ))
