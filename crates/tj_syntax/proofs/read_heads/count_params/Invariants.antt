use Rattle.std.proofs.Common.{◌≡◌, ◌+◌, ◌≤◌, map, drop}
use Rattle.tj_syntax.specs.Inner.Input.{count_params}
use Rattle.tj_syntax.specs.Inner.State.{bare}
use Rattle.tj_syntax.proofs.read_heads.count_params.Given as goal

abbrev pub invariant-loop-token : goal.invariant-loop-token
invariant-loop-token l = record {
  few : l.count ≤ l.token-index;
  counts : l.count + count_params (map bare (drop l.token-index l.tokens)) ≡ count_params (map bare l.tokens);
}
