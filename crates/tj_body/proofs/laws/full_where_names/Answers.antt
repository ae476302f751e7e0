use Rattle.tj_body.specs.Programs.{program_of}
use Rattle.tj_body.proofs.Rounds.Settles.{full_where}
use Rattle.tj_body.proofs.laws.full_where_names.Goals as goal

pub returns : goal.returns
returns g c =
    let b = g.B.Body in
    λ strict root fresh. full_where (program_of b.places b.awaits b.left b.asks b.then strict root)
