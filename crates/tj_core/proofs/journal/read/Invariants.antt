use Rattle.std.proofs.Common.{length}
use Rattle.tj_core.proofs.Journals.Reads.{IsReadTo}
use Rattle.tj_core.proofs.journal.read.Given as goal

abbrev pub invariant-loop-rest : goal.invariant-loop-rest
invariant-loop-rest l = IsReadTo l.bytes l.rest l.events.items

abbrev pub decreases-loop-rest : goal.decreases-loop-rest
decreases-loop-rest l = length l.rest
