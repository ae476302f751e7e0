use Rattle.std.proofs.Common.{◌≡◌, map, take}
use Rattle.tj_mean.specs.WaitIndexes.{link_at}
use Rattle.tj_mean.proofs.wait_graph.links.Given as goal

-- the links of the indexes so far
abbrev pub invariant-loop-index : goal.invariant-loop-index
invariant-loop-index l = l.links.items ≡ map (link_at l.tasks) (take l.index-index l.indexes)
