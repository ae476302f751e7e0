use Rattle.std.proofs.Common.{◌≡◌, length}
use Rattle.tj_known.proofs.Beginnings.{AreNew}
use Rattle.tj_known.proofs.work.Monitor.new.Given as goal

-- there is a new task for each of the lines so far
abbrev pub invariant-loop-index : goal.invariant-loop-index
invariant-loop-index l = record {
  count : length l.learners.items ≡ l.index;
  new : AreNew l.lines l.learners.items;
}
