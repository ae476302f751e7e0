use Rattle.std.proofs.Common.{◌≡◌, take}
use Rattle.tj_examples.specs.Sums as sums
use Rattle.tj_examples.proofs.sum.total.Given as goal

abbrev pub invariant-loop-x : goal.invariant-loop-x
invariant-loop-x l = l.sum ≡ sums.total (take l.x-index l.part)
