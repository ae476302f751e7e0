-- Counts of faults, before and after a call.
use Rattle.std.specs.Prelude.{ℕ, ◌≡◌, ◌≢◌, ◌<◌, ◌≤◌, ◌^◌, ◌-◌, ◌⊎◌}

-- where a count stands still
abbrev pub last_count : ℕ
last_count = 2 ^ 64 - 1

-- the call had a fault: the count rose, or it stands at its last value
abbrev pub HasFault : ℕ → ℕ → Type 0
HasFault before after = (before < after) ⊎ (after ≡ last_count)

-- the call had no fault: the count neither rose nor stands at its last value
pub record HasNoFault (before after : ℕ) : Type 0 where
  pub not_risen : after ≤ before
  pub not_last : after ≢ last_count

-- a port that doesn't fail counted nothing, and is still such a port
pub record IsSound (before after : ℕ) (StillSound : Type 0) : Type 0 where
  pub same : after ≡ before
  pub still : StillSound
