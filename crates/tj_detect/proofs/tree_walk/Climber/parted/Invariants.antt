use Rattle.tj_tree.proofs.Pairs.{ArePair}
use Rattle.tj_words.specs.SeatViews.TreeReads.{MayLook, TreeShown}
use Rattle.tj_detect.specs.Inner.Climbs.{HasClimbed}
use Rattle.tj_detect.proofs.tree_walk.Climber.parted.Given as goal

abbrev pub invariant-loop-x : goal.invariant-loop-x
invariant-loop-x g l =
    let start = l.initial.self in
    record {
      pair : ArePair (TreeShown l.self.seat.now) (MayLook l.laid l.self.seat.now) l.fn.a l.fn.b l.x l.y start.steps.now
          l.self.steps.now;
      climbs : HasClimbed l.laid start.seat l.self.seat start.steps l.self.steps;
    }

abbrev pub decreases-loop-x : goal.decreases-loop-x
decreases-loop-x g l = l.x.node.depth
