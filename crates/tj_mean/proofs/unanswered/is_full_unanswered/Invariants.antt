use Rattle.std.proofs.Common.{map}
use Rattle.tj_body.specs.History.{start}
use Rattle.tj_body.specs.Programs.{program_of}
use Rattle.tj_mean.proofs.AtWork.TasksAtWork.{steps_left}
use Rattle.tj_mean.proofs.AtWork.UnansweredTasks.{AreCounted}
use Rattle.tj_mean.proofs.unanswered.is_full_unanswered.Given as goal

-- the tasks are still to be taken, and so many cells may still be made
abbrev pub invariant-loop-task : goal.invariant-loop-task
invariant-loop-task g l = let b = g.B.Body in
    AreCounted (program_of b.places b.awaits b.left b.asks b.then l.strict l.root) l.cells l.tasks.items l.left

abbrev pub decreases-loop-task : goal.decreases-loop-task
decreases-loop-task g l = steps_left g.B.Body.left (map (λ t. start t) l.tasks.items) l.left
