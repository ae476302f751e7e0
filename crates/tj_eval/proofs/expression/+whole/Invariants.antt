use Rattle.std.proofs.Common.{◌≡◌, map, drop}
use Rattle.tj_syntax.specs.View.{pair, pairs_of}
use Rattle.tj_eval.specs.Expressions as meaning
use Rattle.tj_eval.proofs.expression.+whole.Given as goal

-- what is left of the chain gives what all of it gives
abbrev pub invariant-chained-loop-op : goal.invariant-chained-loop-op
invariant-chained-loop-op l = meaning.chained l.vars l.fn.n (pairs_of (map pair l.pairs))
    ≡ meaning.chained l.vars l.so_far (pairs_of (map pair (drop l.op-index l.pairs)))
