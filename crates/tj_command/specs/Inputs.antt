-- What was read of an input.
use Rattle.std.specs.Prelude.{ℕ, ◌≡◌, List}
use Rattle.tj_ports.specs.declared.source.ReadEnd.{ReadEnd}
use Rattle.tj_ports.specs.Reading.{read_of}
use Rattle.tj_syntax.specs.ScriptTexts.{most_bytes}

-- reading the input, up to the most bytes, gave this
abbrev pub IsReadOf : (input : List ℕ) → ReadEnd → Type 0
IsReadOf input end = end ≡ read_of most_bytes input
