use Rattle.tj_body.specs.Programs.{program_of}
use Rattle.tj_body.proofs.Rounds.Rises.{grow}
use Rattle.tj_body.proofs.laws.rounds_grow.Goals as goal

pub returns : goal.returns
returns g c =
    let b = g.B.Body in
    λ strict root fresh. grow (program_of b.places b.awaits b.left b.asks b.then strict root)
