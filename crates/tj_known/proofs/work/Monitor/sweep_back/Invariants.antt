use Rattle.std.proofs.Common.{◌≡◌, ◌≤◌, length}
use Rattle.tj_known.specs.Inner.Learners.{IsUnderWay, acts_left}
use Rattle.tj_known.proofs.work.Monitor.sweep_back.Given as goal

-- the tasks are as they have to be, and no more acts are left
abbrev pub invariant-loop-left : goal.invariant-loop-left
invariant-loop-left l = record {
  lines : l.self.lines.now ≡ l.initial.self.lines.now;
  under_way : IsUnderWay l.initial.self.lines.now l.self.learners.items;
  fewer : acts_left l.self.learners.items ≤ acts_left l.initial.self.learners.items;
  within : l.left ≤ length l.self.learners.items;
}

-- one task less each time
abbrev pub decreases-loop-left : goal.decreases-loop-left
decreases-loop-left l = l.left
