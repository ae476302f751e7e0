use Rattle.tj_modes.proofs.Prelude.{IsJudging, IsReadOf, subst, ◌∙◌}
use Rattle.tj_command.proofs.Inputs.{read_whole, read_long}
use Rattle.tj_modes.proofs.Outputs.{if_ok, long_fault, IsJudging-fault}
use Rattle.tj_modes.proofs.judging.judging_of.Goals as goal

pub returns-in-Whole : goal.returns-in-Whole
returns-in-Whole c = if_ok c.judged.result (λ output judged all read.
    let same = c.items.ensures ∙ read_whole c.in-Whole.bytes all (subst (IsReadOf all) c.in-Whole.is read) in
    subst (λ text. IsJudging c.args.cells text output.status output.text.items) same judged) c.judged.ensures

pub returns-in_ok-journal_fault-in-Long : goal.returns-in_ok-journal_fault-in-Long
returns-in_ok-journal_fault-in-Long c = λ all read.
    let long = read_long c.in-Long.bytes all (subst (IsReadOf all) c.in-Long.is read) in
    IsJudging-fault c.args.cells _ all _
    (long_fault c.position_behind.result all _ c.position_behind.ensures (c.items-in-Long.ensures ∙ long.first) long.long)
    c.in_ok-journal_fault-in-Long.ensures
