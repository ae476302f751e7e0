use Rattle.std.proofs.Common.{◌-◌, length}
use Rattle.tj_trace.proofs.FoundTasks.{IsGathered}
use Rattle.tj_trace.proofs.MostTold.{noted_program}
use Rattle.tj_trace.proofs.full.first_makers.Given as goal

-- what was noted and what is below the pending tasks are together what made the round's cells
abbrev pub invariant-loop-task : goal.invariant-loop-task
invariant-loop-task l =
    IsGathered (noted_program l.strict l.root) (l.number - 1) l.pending.items l.makers.items

abbrev pub decreases-loop-task : goal.decreases-loop-task
decreases-loop-task l = l.cells - length l.makers.items
