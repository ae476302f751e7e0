use Rattle.std.proofs.Common.{sym, subst}
use Rattle.tj_events.specs.CoreFacts.{CoreFacts}
use Rattle.tj_events.proofs.Events.LegalRuns.{start_facts}
use Rattle.tj_core.proofs.plain_core.Core.new.Goals as goal

pub returns-clause-facts : goal.returns-clause-facts
returns-clause-facts c = subst CoreFacts (sym c.in_ok-machine.ensures.state) start_facts
