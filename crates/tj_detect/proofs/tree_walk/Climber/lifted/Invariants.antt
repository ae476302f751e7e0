use Rattle.tj_tree.proofs.Lifts.{IsLifted}
use Rattle.tj_words.specs.SeatViews.TreeReads.{MayLook, TreeShown}
use Rattle.tj_detect.specs.Inner.Climbs.{HasClimbed}
use Rattle.tj_detect.proofs.tree_walk.Climber.lifted.Given as goal

abbrev pub invariant-loop-at : goal.invariant-loop-at
invariant-loop-at g l =
    let start = l.initial.self in
    record {
      lifted : IsLifted (TreeShown l.self.seat.now) (MayLook l.laid l.self.seat.now) l.fn.from l.at l.depth
          start.steps.now l.self.steps.now;
      climbs : HasClimbed l.laid start.seat l.self.seat start.steps l.self.steps;
    }

abbrev pub decreases-loop-at : goal.decreases-loop-at
decreases-loop-at g l = l.at.node.depth
