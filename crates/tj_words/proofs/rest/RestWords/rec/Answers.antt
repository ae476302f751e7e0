use Rattle.tj_words.proofs.Prelude.{IsPromise, None, ap, length, subst, sym, ◌<◌, ◌↔◌, ◌≡◌}
use Rattle.tj_words.specs.AtRest.RestShown.{RestShown}
use Rattle.tj_words.proofs.Meaning.ClosedWords.{mapped_none}
use Rattle.tj_words.proofs.Meaning.Rested.{promise_at}
use Rattle.tj_words.proofs.rest.RestWords.rec.Goals as goal

pub returns-clause-promise : goal.returns-clause-promise
returns-clause-promise g c =
    let e = ap (λ (z : RestShown g.row.B.Denot). z.cells) c.self.view_is in
    subst (λ l. (c.get.result ≡ None) ↔ IsPromise l c.args.c.0) e
    (promise_at c.self.inside.closed _ c.args.c.0 c.self.invariant.0
    (subst (λ l. c.args.c.0 < length l) (sym e) c.requires) c.get.result (mapped_none _ c.get.result _ c.get.ensures))
