use Rattle.std.proofs.Common.{length, false}
use Rattle.tj_body.specs.Programs.{program_of}
use Rattle.tj_body.specs.Rounds.{given}
use Rattle.tj_mean.specs.Inner.KeptRounds.{still}
use Rattle.tj_mean.proofs.NotedActs.NotedRounds.{IsNoted}
use Rattle.tj_mean.proofs.act_lines.lines_of.Given as goal

-- the tasks that were taken, with their acts, and those that are pending are together the round
abbrev pub invariant-loop-task : goal.invariant-loop-task
invariant-loop-task g l =
    let b = g.B.Body in
    IsNoted (program_of b.places b.awaits b.left b.asks b.then false l.root) l.n l.pending.items l.lines.items

abbrev pub decreases-loop-task : goal.decreases-loop-task
decreases-loop-task g l =
    let b = g.B.Body in
    let program = program_of b.places b.awaits b.left b.asks b.then false l.root in
    length (still program.rules (given program l.n) l.pending.items)
