use Rattle.std.proofs.Common.{◌≡◌, ◌-◌, ◌<◌, ◌≤◌, suc, length, take}
use Rattle.tj_core.specs.Inner.Births.{name_of}
use Rattle.tj_core.proofs.births.Births.climb.Given as goal

abbrev pub invariant-loop-left : goal.invariant-loop-left
invariant-loop-left l = record {
  there : l.above < suc (length l.self.births.items);
  short : l.left ≤ length (name_of l.self.births.items l.above);
  same : take (length (name_of l.self.births.items l.c) - l.steps) (name_of l.self.births.items l.c)
      ≡ take (length (name_of l.self.births.items l.above) - l.left) (name_of l.self.births.items l.above);
}

abbrev pub decreases-loop-left : goal.decreases-loop-left
decreases-loop-left l = l.left
