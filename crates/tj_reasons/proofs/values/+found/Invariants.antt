use Rattle.std.proofs.Common.{◌≡◌, map, drop}
use Rattle.tj_syntax.specs.View.{pair, pairs_of}
use Rattle.tj_reasons.specs.Reasons as spec
use Rattle.tj_reasons.proofs.values.+found.Given as goal

-- what is left of the chain comes to what all of it comes to
abbrev pub invariant-chained-loop-op : goal.invariant-chained-loop-op
invariant-chained-loop-op l = spec.chained l.held l.fn.n (pairs_of (map pair l.pairs))
    ≡ spec.chained l.held l.so_far (pairs_of (map pair (drop l.op-index l.pairs)))
