-- What is held after a text was put in part.
use Rattle.std.specs.Prelude.{ℕ, ◌<◌, List, Option, length, take}
use Rattle.std.specs.Io.KnownBytes.{Appends}

-- what is held grew by the first bytes of a text, and not by all of them
abbrev pub GrowsByPart : Option (List ℕ) → Option (List ℕ) → List ℕ → Type 0
GrowsByPart before after text = (n : ℕ) × (n < length text) × Appends before after (take n text)
