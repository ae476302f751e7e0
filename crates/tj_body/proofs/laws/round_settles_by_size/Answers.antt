use Rattle.tj_body.specs.Programs.{program_of}
use Rattle.tj_body.proofs.Rounds.Settles.{settles_by_size}
use Rattle.tj_body.proofs.laws.round_settles_by_size.Goals as goal

pub returns : goal.returns
returns g c =
    let b = g.B.Body in
    λ strict root fresh. settles_by_size (program_of b.places b.awaits b.left b.asks b.then strict root)
