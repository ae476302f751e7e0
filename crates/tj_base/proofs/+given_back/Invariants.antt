use Rattle.std.proofs.Common.{◌≤◌, length}
use Rattle.tj_base.proofs.+given_back.Given as goal

-- what is left to give back is no longer than the name
abbrev pub invariant-name::Name::drop-loop-made : goal.invariant-name::Name::drop-loop-made
invariant-name::Name::drop-loop-made l = length l.self ≤ length l.fn.self
