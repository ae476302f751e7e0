use Rattle.tj_mean.proofs.Outcomes.LeastIndexes.{IsOnRound}
use Rattle.tj_mean.proofs.least_indexes.least_from.Given as goal

-- the walk hasn't come back yet
abbrev pub invariant-loop-step : goal.invariant-loop-step
invariant-loop-step l = IsOnRound l.next l.from l.step l.at l.least
