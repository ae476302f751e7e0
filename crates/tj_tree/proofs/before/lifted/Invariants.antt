use Rattle.std.proofs.Common.{◌≡◌, ◌+◌}
use Rattle.tj_tree.specs.Walk.{GoesOn}
use Rattle.tj_tree.proofs.Lifts.{IsLifted}
use Rattle.tj_tree.proofs.before.lifted.Given as goal

abbrev pub invariant-loop-at : goal.invariant-loop-at
invariant-loop-at g l =
    let shows = g.R.NodeReader.shows in
    let may = g.R.NodeReader.may_look in
    record {
      lifted : IsLifted (shows l.reader) (may l.reader) l.fn.from l.at l.depth l.initial.steps l.steps;
      counted : l.steps + g.R.NodeReader.looks l.initial.reader
          ≡ l.initial.steps + g.R.NodeReader.looks l.reader;
      goes_on : GoesOn (shows l.initial.reader) (may l.initial.reader) (shows l.reader) (may l.reader);
      stays : g.R.NodeReader.stays l.initial.reader l.reader;
    }

abbrev pub decreases-loop-at : goal.decreases-loop-at
decreases-loop-at g l = l.at.node.depth
