use Rattle.std.proofs.Common.{◌≡◌, map, take}
use Rattle.tj_forest.specs.Inner.Jumps.{jump}
use Rattle.tj_forest.proofs.jumps.doubled.Given as goal

-- the jumps so far
abbrev pub invariant-loop-to : goal.invariant-loop-to
invariant-loop-to l = l.more.items ≡ map (jump l.jumps) (take l.to-index l.jumps)
