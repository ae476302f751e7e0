use Rattle.std.proofs.Common.{◌<◌}
use Rattle.tj_told.specs.Observers.{LooksOn}
use Rattle.tj_told.proofs.LoggedRounds.{IsOnRound}
use Rattle.tj_told.proofs.links.cycle_of.Given as goal

-- the seat knows what it knew, the next task is one of the table, and the turns so far lead to it
abbrev pub invariant-loop-i : goal.invariant-loop-i
invariant-loop-i g l = LooksOn l.fn.seat l.seat × (l.task.0 < l.laid.cells)
    × IsOnRound l.fn.t.0 l.task.0 l.links.items l.seat.log l.seat.me.0.seen
