use Rattle.tj_body.specs.Programs.{program_of}
use Rattle.tj_body.specs.Rounds.{last_round}
use Rattle.tj_body.proofs.Rounds.Settles.{full_somewhere}
use Rattle.tj_body.proofs.laws.full_exactly.Goals as goal

pub returns : goal.returns
returns g c =
    let b = g.B.Body in
    λ strict root fresh N. (
      full_somewhere (program_of b.places b.awaits b.left b.asks b.then strict root) N,
      λ full. (last_round N, full),
    )
