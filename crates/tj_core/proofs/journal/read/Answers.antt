use Rattle.std.proofs.Common.{rules, ◌+◌}
use Rattle.tj_core.specs.Journals.Lines.{IsEventLine, words_of, HasSmallCells, Names}
use Rattle.tj_core.proofs.Journals.Reads.{read_on, read_fault}
use Rattle.tj_core.proofs.Journals.Words.{none_at, some_at}
use Rattle.tj_core.proofs.journal.read.Goals as goal

pub returns-in_default-found-clause-line : goal.returns-in_default-found-clause-line
returns-in_default-found-clause-line c =
    let l = c.loop-rest in let line = c.cut_line.result.0.now in
    read_fault c.args.bytes.now l.rest.now line c.cut_line.result.1.now l.events.items (c.len.result + 1) l.invariant
    c.cut_line.ensures.lines
    (none_at c.in-Ok.found (¬ IsEventLine line) c.in_default-found.is c.in-Ok.ensures.none) (search rules)

pub loop-rest-preserved : goal.loop-rest-preserved
loop-rest-preserved c =
    let l = c.loop-rest in let line = c.cut_line.result.0.now in
    read_on c.args.bytes.now l.rest.now line c.cut_line.result.1.now l.events.items c.push.new.self.items
    c.in-Some.event
    l.invariant c.cut_line.ensures.lines c.cut_line.ensures.shorter
    (some_at c.in-Ok.found (λ e. HasSmallCells e × Names (words_of line) e) c.in-Some.event c.in-Some.is
    c.in-Ok.ensures.found)
    c.in-Ok-push.ensures.items
