use Rattle.std.proofs.Common.{rules, Some, ap, ◌∙◌}
use Rattle.tj_events.specs.CoreState.{CoreState}
use Rattle.tj_events.specs.Events.{alter, owned_by}
use Rattle.tj_core.proofs.machine.Machine.hand.Goals as goal

pub returns-clause-ok : goal.returns-clause-ok
returns-clause-ok c =
    let may = c.may_hand.ensures.hand.0 (search rules) in
    record {
      allowed = (c.runs.ensures.runs.0 (search rules), may.0, may.1, may.2);
      state = c.set_owner.ensures.state ∙ ap (λ (s : CoreState). alter s c.args.p.0 (owned_by (Some c.args.c.0)))
          c.set_idle.ensures.state;
      loads = λ i. c.set_owner.ensures.loads i ∙ c.set_idle.ensures.loads i;
      limit = c.set_owner.ensures.same.limit ∙ c.set_idle.ensures.same.limit;
    }
