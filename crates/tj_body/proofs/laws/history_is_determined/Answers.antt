use Rattle.tj_body.specs.Programs.{rules_of}
use Rattle.tj_body.proofs.Histories.Points.{same_history}
use Rattle.tj_body.proofs.laws.history_is_determined.Goals as goal

pub returns : goal.returns
returns g c =
    let b = g.B.Body in
    λ strict t proper V W same.
    same_history (rules_of b.places b.awaits b.left b.asks b.then strict) V W same t
