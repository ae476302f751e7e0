-- What the search finds, and how many there are where it finds nothing.
use Rattle.std.proofs.Common.{◌≡◌, ◌∙◌, ap, length, nat_eq, rules, tests}
use Rattle.std.proofs.lemmas.Iterator.{YieldsList-from_slice}
use Rattle.std.proofs.lemmas.Iterator.Adapters.{position_from-zero}
use Rattle.std.proofs.lemmas.Iterator.Search.{position_from_yields_List}
use Rattle.std.specs.Prelude.{unwrap_or}
use Rattle.std.specs.List.{position_from}
use Rattle.tj_chan.proofs.RowLoops.{first_or_count}
use Rattle.tj_chan.proofs.spawn.position.Goals as goal

pub returns-clause-position : goal.returns-clause-position
returns-clause-position c = let test = nat_eq c.args.first in let firsts = c.args.firsts.now in
    let found : c.position-found.result ≡ position_from test 0 firsts =
    position_from_yields_List test _ _ c.position-found.result c.position-found.ensures.ran
    (YieldsList-from_slice firsts cc) (λ x b q k. search (rules, tests)) ∙ position_from-zero test firsts in
    let told : c.unwrap_or.result ≡ unwrap_or c.position-found.result (length firsts) = search rules in
    told ∙ ap (λ o. unwrap_or o (length firsts)) found ∙ first_or_count c.args.first firsts
