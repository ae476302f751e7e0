use Rattle.std.proofs.Common.{◌-◌, ◌≤◌, List, Option}
use Rattle.tj_trace.specs.declared.line.TraceLine.{TraceLine}
use Rattle.tj_forest.specs.Inner.Jumps.{AreJumps}
use Rattle.tj_forest.proofs.jumps.doubled_often.Given as goal

-- they are doubled so often
abbrev pub invariant-loop-left : goal.invariant-loop-left
invariant-loop-left l = ((lines : List TraceLine) (f : TraceLine → Option TraceLine)
    → AreJumps lines f 0 l.initial.jumps.items → AreJumps lines f (21 - l.left) l.jumps.items) × (l.left ≤ 21)

abbrev pub decreases-loop-left : goal.decreases-loop-left
decreases-loop-left l = l.left
