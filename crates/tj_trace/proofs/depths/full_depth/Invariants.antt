use Rattle.tj_body.specs.Programs.{program_of}
use Rattle.tj_trace.proofs.DepthRounds.{AreReached}
use Rattle.tj_trace.proofs.depths.full_depth.Given as goal

-- the tasks of all depths before have ended, and so much room is left
abbrev pub invariant-loop-alloc : goal.invariant-loop-alloc
invariant-loop-alloc g l = let b = g.B.Body in
    AreReached (program_of b.places b.awaits b.left b.asks b.then l.strict l.root) l.cells l.tasks.items l.room l.depth

abbrev pub decreases-loop-alloc : goal.decreases-loop-alloc
decreases-loop-alloc g l = l.room
