use Rattle.tj_core.specs.Journals.Lines.{lines_of}
use Rattle.tj_core.proofs.Journals.Reads.{only_line}
use Rattle.tj_core.proofs.journal.read_journal.Goals as goal

pub returns-clause-only_line : goal.returns-clause-only_line
returns-clause-only_line c = only_line (λ v. v.items) (lines_of c.args.bytes.now) c.read.result c.read.ensures.ok
    c.read.ensures.line
