use Rattle.tj_mean.proofs.Outcomes.LeastIndexes.{AreMetAndTold}
use Rattle.tj_mean.proofs.least_indexes.least_indexes.Given as goal

-- the walks from the indexes before this one
abbrev pub invariant-loop-first : goal.invariant-loop-first
invariant-loop-first l = AreMetAndTold l.next l.first l.met.items l.least.items
