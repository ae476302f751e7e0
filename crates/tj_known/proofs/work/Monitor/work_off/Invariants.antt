use Rattle.std.proofs.Common.{◌≡◌}
use Rattle.tj_known.specs.Inner.Learners.{IsUnderWay, acts_left}
use Rattle.tj_known.proofs.work.Monitor.work_off.Given as goal

-- the tasks are as they have to be
abbrev pub invariant-loop-self : goal.invariant-loop-self
invariant-loop-self l = record {
  lines : l.self.lines.now ≡ l.initial.self.lines.now;
  under_way : IsUnderWay l.initial.self.lines.now l.self.learners.items;
}

-- each sweep leaves fewer acts
abbrev pub decreases-loop-self : goal.decreases-loop-self
decreases-loop-self l = acts_left l.self.learners.items
