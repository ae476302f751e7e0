-- What the top call answers to words, for whoever hands words on.
use Rattle.std.specs.Prelude.{ℕ, List, Option, String}
use Rattle.std.specs.declared.alloc.Global.{Global}
use Rattle.tj_command.specs.Answers.{IsAnswer}
use Rattle.tj_command.specs.declared.status.Status.{Status}
use Rattle.tj_explain.specs.WhyLine.{HasNoForm}
use Rattle.tj_explain.specs.WhyOutput.{HaveForm, IsOutput, usage_line}

-- what the top call answers to words, clause by clause: the input is read for words that have a form
abbrev pub IsWhyAnswer : List (String Global) → (left left_after : Option (List ℕ)) (reads reads_after : ℕ)
    (IsUnread NeverFails NeverFailsAfter : Type 0) (held held_after : Option (List ℕ)) (puts puts_after : ℕ)
    (HasRoom : ℕ → Type 0) (IsUnwritten : Type 0) → Status → Type 0
IsWhyAnswer words = IsAnswer (HaveForm words) (HasNoForm words) (HasNoForm words) (IsOutput words) usage_line
