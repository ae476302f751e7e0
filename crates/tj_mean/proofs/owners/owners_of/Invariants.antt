use Rattle.std.proofs.Common.{take}
use Rattle.tj_mean.specs.Inner.Owners.{AreOwners}
use Rattle.tj_mean.proofs.owners.owners_of.Given as goal

-- the owners of the cells of the tasks so far
abbrev pub invariant-loop-index : goal.invariant-loop-index
invariant-loop-index l = AreOwners (take l.index l.tasks) l.owners
