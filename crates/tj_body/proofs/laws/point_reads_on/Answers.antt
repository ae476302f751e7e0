use Rattle.tj_body.specs.Programs.{program_of}
use Rattle.tj_body.proofs.Rounds.Keeps.{reads_later}
use Rattle.tj_body.proofs.laws.point_reads_on.Goals as goal

pub returns : goal.returns
returns g c =
    let b = g.B.Body in
    λ strict root fresh. reads_later (program_of b.places b.awaits b.left b.asks b.then strict root)
