use Rattle.tj_body.specs.Programs.{program_of}
use Rattle.tj_body.proofs.Rounds.Rises.{apart}
use Rattle.tj_body.proofs.laws.cells_are_apart.Goals as goal

pub returns : goal.returns
returns g c =
    let b = g.B.Body in
    λ strict root fresh. apart (program_of b.places b.awaits b.left b.asks b.then strict root)
