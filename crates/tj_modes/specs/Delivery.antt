-- A text on its way to the sink.
use Rattle.std.specs.Prelude.{ℕ, List, Option, String}
use Rattle.std.specs.declared.alloc.Global.{Global}
pub use Rattle.tj_command.specs.Delivery.{HasText, IsPutAs}
use Rattle.tj_command.specs.Delivery.{IsAnsweredBy, IsPartOf, IsPutOf}
use Rattle.tj_command.specs.declared.status.Status.{Status}
use Rattle.tj_modes.specs.Output.{IsCommandOutput, IsOutput}
use Rattle.tj_modes.specs.declared.command.Command.{Command}

-- the sink holds the output besides what it held, and the status is the output's; or memory was wanting
abbrev pub IsAnswered : List (String Global) → List ℕ → List ℕ → Status → Option (List ℕ) → Type 0
IsAnswered words input = IsAnsweredBy (IsOutput words input)

-- a part of the output was put, and not all of it
abbrev pub IsOutputPart : List (String Global) → List ℕ → Option (List ℕ) → Option (List ℕ) → Type 0
IsOutputPart words input = IsPartOf (IsOutput words input)

-- the output of a command was put, or the sink failed before its end
abbrev pub IsAnswerPut : (HasRoom : ℕ → Type 0) → Command → List ℕ → Option (List ℕ) → Option (List ℕ) → ℕ → ℕ → Status
    → Type 0
IsAnswerPut HasRoom command input = IsPutOf (IsCommandOutput command input) HasRoom
