use Rattle.std.proofs.Common.{◌≡◌, ◌<◌, suc, length}
use Rattle.tj_base.specs.ForkOrder.{before}
use Rattle.tj_core.specs.Inner.Births.{name_of}
use Rattle.tj_core.proofs.Columns.BirthNames.{before_else}
use Rattle.tj_core.proofs.births.Births.is_before.Given as goal

abbrev pub invariant-loop-up_a : goal.invariant-loop-up_a
invariant-loop-up_a l = record {
  there_a : l.up_a < suc (length l.self.births.items);
  there_b : l.up_b < suc (length l.self.births.items);
  level : length (name_of l.self.births.items l.up_a) ≡ length (name_of l.self.births.items l.up_b);
  same : before (name_of l.self.births.items l.a) (name_of l.self.births.items l.b)
      ≡ before_else l.before (name_of l.self.births.items l.up_a) (name_of l.self.births.items l.up_b);
}

abbrev pub decreases-loop-up_a : goal.decreases-loop-up_a
decreases-loop-up_a l = l.up_a
