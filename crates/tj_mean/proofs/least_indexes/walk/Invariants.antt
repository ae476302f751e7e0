use Rattle.std.proofs.Common.{◌≡◌, ◌<◌, length}
use Rattle.tj_mean.proofs.Outcomes.LeastIndexes.{IsWalked}
use Rattle.tj_mean.proofs.least_indexes.walk.Given as goal

-- the walk has come to this index
abbrev pub invariant-loop-step : goal.invariant-loop-step
invariant-loop-step l = (l.at < length l.next) × (length l.met.items ≡ length l.next)
    × IsWalked l.next l.initial.met.items l.first l.step l.at l.met.items
