-- The command that the words are, and what was read of the input that is told.
use Rattle.std.proofs.Common.{IfSome, List, MatchOption, Option, Some, String, subst, ℕ, ◌≡◌}
use Rattle.std.specs.declared.alloc.Global.{Global}
use Rattle.tj_command.specs.Inputs.{IsReadOf}
use Rattle.tj_ports.specs.Reading.{read_of}
use Rattle.tj_ports.specs.declared.source.ReadEnd.{ReadEnd}
use Rattle.tj_syntax.specs.ScriptTexts.{most_bytes}
use Rattle.tj_explain.specs.WhyLine.{HasNoForm, IsCommand}
use Rattle.tj_explain.specs.declared.line.WhyCommand.{WhyCommand}

-- the words are the command that was found
pub is_command : (words : List (String Global)) (found : Option WhyCommand) (command : WhyCommand)
    → MatchOption found (HasNoForm words) (IsCommand words) → found ≡ Some command → IsCommand words command
is_command words found command told is = subst (λ o. MatchOption o (HasNoForm words) (IsCommand words)) is told

-- what was read is what reading the input gives, where that is what the source has left
pub is_read : (left : Option (List ℕ)) (input : List ℕ) (end : ReadEnd)
    → IfSome left (λ bytes. end ≡ read_of most_bytes bytes) → left ≡ Some input → IsReadOf input end
is_read left input end told is = subst (λ o. IfSome o (λ bytes. end ≡ read_of most_bytes bytes)) is told
