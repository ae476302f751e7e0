use Rattle.std.proofs.Common.{sym, subst}
use Rattle.tj_core.specs.Inner.Machine.{state_of, limit_of}
use Rattle.tj_events.specs.CoreFacts.{CoreFacts}
use Rattle.tj_events.proofs.Events.EachEvent.{facts_after_event}
use Rattle.tj_core.proofs.plain_core.Core.apply.Goals as goal

pub returns-clause-facts : goal.returns-clause-facts
returns-clause-facts c x =
    let m = c.args.self.now.machine in let a = c.in_ok-step.ensures.ok in
    subst CoreFacts (sym a.state) (facts_after_event (limit_of m) (state_of m) c.args.e x a.allowed)
