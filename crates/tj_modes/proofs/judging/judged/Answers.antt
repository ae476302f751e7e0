use Rattle.tj_modes.proofs.Prelude.{bad_line, lines_of, subst}
use Rattle.tj_modes.proofs.Outputs.{IsJudging-fault}
use Rattle.tj_core.specs.Journals.Lines as journal
use Rattle.tj_modes.proofs.judging.judged.Goals as goal

pub returns-in-Err-Line : goal.returns-in-Err-Line
returns-in-Err-Line c =
    let first = subst (journal.OrMemory (journal.IsFirstFault (lines_of c.args.journal.now))) c.in-Err-Line.field-0-is
    c.in-Err-Line.ensures.line in
    IsJudging-fault c.args.cells c.in-Err-Line.line c.args.journal.now _
    (bad_line c.in-Err-Line.line c.requires.short first) c.in_ok-journal_fault-in-Err-Line.ensures
