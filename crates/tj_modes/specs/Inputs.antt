-- What a command has read of its input.
use Rattle.std.specs.Prelude.{ℕ, ◌≡◌, true, List}
use Rattle.tj_ports.specs.declared.source.ReadEnd.{ReadEnd}
pub use Rattle.tj_command.specs.Inputs.{IsReadOf}
use Rattle.tj_modes.specs.Output.{takes_input}
use Rattle.tj_modes.specs.declared.command.Command.{Command}

-- the command has read this of the input, if it takes it at all
abbrev pub HasRead : Command → (input : List ℕ) → ReadEnd → Type 0
HasRead command input end = takes_input command ≡ true → IsReadOf input end
