use Rattle.std.proofs.Common.{◌*◌, suc, sym}
use Rattle.tj_body.specs.History.{history}
use Rattle.tj_body.specs.Programs.{rules_of}
use Rattle.tj_body.proofs.Histories.Grows.{extends, ended_same, still_point, more}
use Rattle.tj_body.proofs.laws.history_is_monotone.Goals as goal

pub returns : goal.returns
returns g c =
    let b = g.B.Body in
    λ strict t proper V W within.
    let rules = rules_of b.places b.awaits b.left b.asks b.then strict in
    let k = 2 * suc (b.left t.body) in
    let s = still_point rules V W within t k in (
      (λ e. sym (ended_same rules V W within t k e.0 e.1)),
      (s.0, sym s.1),
      extends (history rules V t) (history rules W t) (more rules V W within t k),
    )
