use Rattle.tj_body.specs.Programs.{program_of}
use Rattle.tj_body.proofs.Rounds.Rises.{one_of_all}
use Rattle.tj_body.proofs.laws.names_are_apart.Goals as goal

pub returns : goal.returns
returns g c =
    let b = g.B.Body in
    λ strict root fresh. one_of_all (program_of b.places b.awaits b.left b.asks b.then strict root)
