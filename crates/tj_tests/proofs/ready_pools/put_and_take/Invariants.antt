use Rattle.std.proofs.Common.{◌≡◌}
use Rattle.tj_tests.proofs.ready_pools.put_and_take.Given as goal

abbrev pub invariant-loop-number : goal.invariant-loop-number
invariant-loop-number g l = g.P.Pool.limit l.end ≡ 12500

abbrev pub invariant-loop-i : goal.invariant-loop-i
invariant-loop-i g l = g.P.Pool.limit l.end ≡ 12500
