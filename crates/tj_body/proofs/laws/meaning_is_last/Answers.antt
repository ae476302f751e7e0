use Rattle.tj_body.specs.Programs.{program_of}
use Rattle.tj_body.proofs.Rounds.Settles.{is_last}
use Rattle.tj_body.proofs.laws.meaning_is_last.Goals as goal

pub returns : goal.returns
returns g c =
    let b = g.B.Body in
    λ strict root fresh. is_last (program_of b.places b.awaits b.left b.asks b.then strict root)
