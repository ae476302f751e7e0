use Rattle.std.proofs.Common.{◌≡◌, ℕ, ◌++◌, take, drop, true}
use Rattle.tj_tree.specs.Forks.{insert_after}
use Rattle.tj_tree.proofs.Lists.{has}
use Rattle.tj_tree.proofs.list.index_behind.Given as goal

abbrev pub invariant-loop-index : goal.invariant-loop-index
invariant-loop-index l = record {
  there : has (drop l.index l.tasks) l.task ≡ true;
  passed : (c : ℕ) → insert_after l.task c l.tasks ≡ take l.index l.tasks ++ insert_after l.task c
      (drop l.index l.tasks);
}
