use Rattle.std.proofs.Common.{◌≡◌, ◌++◌, map, drop}
use Rattle.tj_syntax.specs.Listing.{text_of, pairs_parts}
use Rattle.tj_syntax.specs.View.{pair, pairs_of}
use Rattle.tj_syntax.proofs.list_expr.+expression.Given as goal

-- the text so far and that of the pairs to come are the whole chain's
abbrev pub invariant-list_pairs-loop-op : goal.invariant-list_pairs-loop-op
invariant-list_pairs-loop-op l =
    l.text.items ++ text_of (pairs_parts l.vars (pairs_of (map pair (drop l.op-index l.pairs))))
    ≡ l.fn.text.items ++ text_of (pairs_parts l.vars (pairs_of (map pair l.pairs)))
