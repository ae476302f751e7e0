use Rattle.tj_mean.proofs.Outcomes.IndexCycles.{FoundBy}
use Rattle.tj_mean.proofs.wait_graph.cycles_by.Given as goal

-- the cycles from the indexes before this one on
abbrev pub invariant-loop-first : goal.invariant-loop-first
invariant-loop-first l = FoundBy l.next l.cycles.items l.first
