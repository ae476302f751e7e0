use Rattle.std.proofs.Common.{◌≡◌, ◌+◌, ◌<◌, ◌≤◌, suc, length}
use Rattle.tj_core.specs.Inner.Births.{name_of}
use Rattle.tj_core.proofs.births.Births.depth.Given as goal

abbrev pub invariant-loop-above : goal.invariant-loop-above
invariant-loop-above l = record {
  there : l.above < suc (length l.self.births.items);
  low : l.depth + l.above ≤ l.c;
  deep : l.depth + length (name_of l.self.births.items l.above) ≡ length (name_of l.self.births.items l.c);
}

abbrev pub decreases-loop-above : goal.decreases-loop-above
decreases-loop-above l = l.above
