use Rattle.std.proofs.Common.{List}
use Rattle.tj_body.specs.Programs.{program_of}
use Rattle.tj_body.specs.declared.point.Reference.{Reference}
use Rattle.tj_words.specs.AtRest.RestMeaning.{AreWordsOf, AreRecordsOf}
use Rattle.tj_report.proofs.ToldTasks.{ToldBelow}
use Rattle.tj_report.proofs.closed_outcome.told_tasks.Given as goal

-- the slots before are told
abbrev pub invariant-loop-c : goal.invariant-loop-c
invariant-loop-c g l = let b = g.B.Body in
    let program = program_of b.places b.awaits b.left b.asks b.then l.rest.strict l.rest.root in
    (born : List Reference) → AreWordsOf program l.rest.limit born l.rest.cells
    → AreRecordsOf program l.rest.limit born l.rest.records
    → ToldBelow program l.rest.limit l.rest.records born l.c l.tasks.items
