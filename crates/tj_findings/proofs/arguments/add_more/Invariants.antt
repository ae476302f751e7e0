use Rattle.std.proofs.Common.{◌≡◌, ◌++◌, drop}
use Rattle.tj_findings.specs.Arguments.{more_text}
use Rattle.tj_findings.proofs.arguments.add_more.Given as goal

-- the text so far and that of the values to come are the whole
abbrev pub invariant-loop-value : goal.invariant-loop-value
invariant-loop-value l =
    l.text.items ++ more_text (drop l.value-index l.values) ≡ l.initial.text.items ++ more_text l.values
