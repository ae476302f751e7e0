use Rattle.std.proofs.Common.{◌≡◌, ◌++◌, take}
use Rattle.tj_base.proofs.name.Name.descendant.Given as goal

-- the name goes on with the numbers that were taken
abbrev pub invariant-loop-k : goal.invariant-loop-k
invariant-loop-k l = l.name ≡ l.self ++ take l.k-index l.numbers
