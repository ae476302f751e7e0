use Rattle.std.proofs.Common.{inr, subst, ◌∙◌}
use Rattle.tj_command.specs.Inputs.{IsReadOf}
use Rattle.tj_command.proofs.Inputs.{read_long}
use Rattle.tj_syntax.proofs.ScriptTexts.{long_first}
use Rattle.tj_command.proofs.script_text.script_of.Goals as goal

pub returns-in-Long-clause-fault : goal.returns-in-Long-clause-fault
returns-in-Long-clause-fault c = inr (λ all read.
    let long = read_long c.in-Long.text all (subst (IsReadOf all) c.in-Long.is read) in
    long_first c.position_behind.result all _ c.position_behind.ensures (c.items-in-Long.ensures ∙ long.first)
    long.long)
