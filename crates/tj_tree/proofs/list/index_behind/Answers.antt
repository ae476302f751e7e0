use Rattle.std.proofs.Common.{refl}
use Rattle.tj_tree.proofs.Lists.{has_from_Contains}
use Rattle.tj_tree.proofs.list.index_behind.Goals as goal

pub loop-index-init : goal.loop-index-init
loop-index-init c = record { there = has_from_Contains _ _ c.requires; passed = λ _. refl }
