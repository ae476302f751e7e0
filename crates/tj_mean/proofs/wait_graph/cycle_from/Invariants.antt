use Rattle.std.proofs.Common.{◌<◌, ◌≤◌, length}
use Rattle.std.specs.List.{All}
use Rattle.tj_base.proofs.CycleWays.{IsOnWay}
use Rattle.tj_mean.specs.WaitIndexes.{Next}
use Rattle.tj_mean.proofs.wait_graph.cycle_from.Given as goal

-- the way so far doesn't come back, and none of its indexes is less than the first
abbrev pub invariant-loop-step : goal.invariant-loop-step
invariant-loop-step l = record {
  in_range : l.at < length l.next;
  way : IsOnWay (Next l.next) l.first l.at l.step l.indexes.items;
  least : All (λ p. l.first ≤ p) l.indexes.items;
  later : l.first ≤ l.at;
}
