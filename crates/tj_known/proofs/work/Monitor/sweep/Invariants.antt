use Rattle.std.proofs.Common.{◌≡◌}
use Rattle.tj_known.proofs.WorkSteps.{IsSwept}
use Rattle.tj_known.proofs.work.Monitor.sweep.Given as goal

-- what the tasks so far make of all
abbrev pub invariant-loop-index : goal.invariant-loop-index
invariant-loop-index l = record {
  lines : l.self.lines.now ≡ l.initial.self.lines.now;
  sweep : IsSwept l.initial.self.lines.now l.index l.initial.self.learners.items l.self.learners.items l.moved;
}
