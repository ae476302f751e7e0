use Rattle.std.proofs.Common.{◌≡◌, ◌+◌}
use Rattle.tj_tree.specs.Walk.{GoesOn}
use Rattle.tj_tree.proofs.Pairs.{ArePair}
use Rattle.tj_tree.proofs.before.parted.Given as goal

abbrev pub invariant-loop-x : goal.invariant-loop-x
invariant-loop-x g l =
    let shows = g.R.NodeReader.shows in
    let may = g.R.NodeReader.may_look in
    record {
      pair : ArePair (shows l.reader) (may l.reader) l.fn.a l.fn.b l.x l.y l.initial.steps l.steps;
      counted : l.steps + g.R.NodeReader.looks l.initial.reader
          ≡ l.initial.steps + g.R.NodeReader.looks l.reader;
      goes_on : GoesOn (shows l.initial.reader) (may l.initial.reader) (shows l.reader) (may l.reader);
      stays : g.R.NodeReader.stays l.initial.reader l.reader;
    }

abbrev pub decreases-loop-x : goal.decreases-loop-x
decreases-loop-x g l = l.x.node.depth
