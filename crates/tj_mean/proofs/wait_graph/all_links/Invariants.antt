use Rattle.std.proofs.Common.{◌≡◌, map, take}
use Rattle.tj_mean.specs.WaitIndexes.{link_at}
use Rattle.tj_mean.proofs.wait_graph.all_links.Given as goal

-- the links of the cycles so far
abbrev pub invariant-loop-cycle : goal.invariant-loop-cycle
invariant-loop-cycle l = l.all.items ≡ map (map (link_at l.tasks)) (take l.cycle-index l.cycles)
