use Rattle.std.proofs.Common.{◌≡◌, ◌<◌, true, false}
use Rattle.tj_known.specs.Inner.Learners.{IsUnderWay, acts_left}
use Rattle.tj_known.proofs.work.Monitor.go_on.Given as goal

-- where something moved, fewer acts are left, and else nothing changed
abbrev pub invariant-loop-moved : goal.invariant-loop-moved
invariant-loop-moved l = record {
  lines : l.self.lines.now ≡ l.initial.self.lines.now;
  under_way : IsUnderWay l.initial.self.lines.now l.self.learners.items;
  fewer : l.moved ≡ true → acts_left l.self.learners.items < acts_left l.initial.self.learners.items;
  still : l.moved ≡ false → l.self.learners.items ≡ l.initial.self.learners.items;
}

-- each act leaves one less
abbrev pub decreases-loop-moved : goal.decreases-loop-moved
decreases-loop-moved l = acts_left l.self.learners.items
