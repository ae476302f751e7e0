use Rattle.std.proofs.Common.{◌≡◌, take}
use Rattle.std.specs.List.{flat_map}
use Rattle.tj_forest.specs.DotTexts.{promise_node}
use Rattle.tj_forest.proofs.dot.promise_nodes.Given as goal

-- the promises so far
abbrev pub invariant-loop-name : goal.invariant-loop-name
invariant-loop-name l = l.text.items ≡ flat_map (promise_node l.style l.owner) (take l.name-index l.names)
