use Rattle.std.proofs.Common.{◌≡◌, Ok, map, rules}
use Rattle.tj_syntax.specs.Trees as tree
use Rattle.tj_syntax.specs.View.{expression, pair, pairs_of}
use Rattle.tj_syntax.specs.declared.expr.Expr.{the_lemmas}
use Rattle.tj_reasons.specs.Reasons as spec
use Rattle.tj_reasons.proofs.ReasonsAgree.{chain_found}
use Rattle.tj_reasons.proofs.values.+found.Goals as goal

pub found-returns-in_ok-number-in-Chain : goal.found-returns-in_ok-number-in-Chain
found-returns-in_ok-number-in-Chain t c = let w = c.in-Chain in
    let held = c.args.held.now in
    let first = expression w.a.value in
    let rest = pairs_of (map pair w.pairs.items) in
    let n = c.in_ok-number-in-Chain.field-0 in
    let is : expression c.args.e.now ≡ tree.chain first rest = search (rules, the_lemmas) in
    let begins : Ok n ≡ spec.and_then (spec.found held first) spec.as_number = search (rules) in
    let goes : c.chained.result ≡ spec.chained held n rest = search (rules) in
    chain_found held (expression c.args.e.now) first rest n c.chained.result c.met_number.result is begins goes
    c.met_number.ensures
