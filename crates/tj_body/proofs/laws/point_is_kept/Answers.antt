use Rattle.tj_body.specs.Laws.{IsKept}
use Rattle.tj_body.proofs.Proper.{of_lawful}
use Rattle.tj_body.proofs.Rounds.Keeps.{task_cell, written, promised, forked}
use Rattle.tj_body.proofs.laws.point_is_kept.Goals as goal

pub returns : goal.returns
returns g c =
    let b = g.B.Body in
    let o = (g.met.B.Body g.world.𝓛 g.world.𝓜 g.world.𝓡 ((λ s x. x), (λ x. x), (λ x. x), λ x. x)).obeys in
    of_lawful b.places b.awaits b.left b.asks b.then o IsKept
    (λ program o proper n t p i h. (
      task_cell program n t i,
      written program o proper n t p i h,
      promised program o proper n t p i h,
      forked program o proper n t p i h,
    ))
