use Rattle.std.proofs.Common.{◌≡◌, ℕ, ◌-◌, ◌<◌, false, get_or}
use Rattle.std.specs.Slots.{slots_filled, slots_len}
use Rattle.std.specs.Slots.Ownership.{Filled}
use Rattle.tj_words.proofs.records.Records.drop.Given as goal

-- the slots in front are empty, and the others full
abbrev pub invariant-loop-slot : goal.invariant-loop-slot
invariant-loop-slot g l = Filled (slots_filled l.table.slots) l.slot (slots_len l.table.slots)
    × ((k : ℕ) → k < l.slot → get_or (slots_filled l.table.slots) k false ≡ false)

abbrev pub decreases-loop-slot : goal.decreases-loop-slot
decreases-loop-slot g l = slots_len l.table.slots - l.slot
