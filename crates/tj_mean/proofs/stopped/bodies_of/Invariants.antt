use Rattle.std.proofs.Common.{◌≡◌, ◌++◌, List, map, reverse, Some, vec_len}
use Rattle.tj_body.specs.declared.point.Point.{Point}
use Rattle.tj_mean.specs.Outcomes.{body_of}
use Rattle.tj_mean.proofs.stopped.bodies_of.Given as goal

-- what is told of the points that were taken from the end, the last one first
abbrev pub invariant-loop-point : goal.invariant-loop-point
invariant-loop-point g l = (taken : List (Point g.row.B.Denot)) × (l.fn.points.items ≡ l.points.items ++ taken)
    × (map body_of taken ≡ map (λ s. Some s) (reverse l.tasks.items))

abbrev pub decreases-loop-point : goal.decreases-loop-point
decreases-loop-point g l = vec_len l.points
