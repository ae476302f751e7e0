use Rattle.std.proofs.Common.{◌≡◌, ◌∷◌, take}
use Rattle.tj_texts.specs.Inner.GroupKeys.{stands}
use Rattle.tj_texts.proofs.group_keys.cycle_key.Given as goal

-- the waits so far
abbrev pub invariant-loop-wait : goal.invariant-loop-wait
invariant-loop-wait l = l.key.items ≡ 0 ∷ stands (take l.wait-index l.waits)
