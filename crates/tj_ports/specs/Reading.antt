-- What reading up to a limit gives and takes.
use Rattle.std.specs.Prelude.{ℕ, ◌≡◌, ◌≤◌, List, Option, length, take, nat_le, if◌then◌else◌}
use Rattle.std.specs.Io.KnownBytes.{Consumes}
use Rattle.tj_ports.specs.declared.source.ReadEnd.{ReadEnd}
use Rattle.tj_ports.specs.declared.source.ReadEnd.TheVariants.{Whole, Long}

-- all bytes where they are within the limit, else the first of them
abbrev pub read_of : ℕ → List ℕ → ReadEnd
read_of limit bytes = if nat_le (length bytes) limit then Whole bytes else Long (take limit bytes)

-- a whole text has no more bytes than the limit, and of a long one there are so many
abbrev pub IsWithin : ℕ → ReadEnd → Type 0
IsWithin limit (Whole bytes) = length bytes ≤ limit
IsWithin limit (Long bytes) = length bytes ≡ limit

-- of the bytes that were left, at most so many were taken
abbrev pub TakesAtMost : ℕ → Option (List ℕ) → Option (List ℕ) → Type 0
TakesAtMost most before after = (taken : List ℕ) × (length taken ≤ most) × Consumes before after taken
