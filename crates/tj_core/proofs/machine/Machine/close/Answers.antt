use Rattle.std.proofs.Common.{rules, None, ap, ◌∙◌}
use Rattle.tj_events.specs.CoreState.{CoreState, CellStage}
use Rattle.tj_events.specs.Events.{alter, owned_by, restage}
use Rattle.tj_core.specs.Inner.Machine.{state_of}
use Rattle.tj_core.proofs.machine.Machine.close.Goals as goal

pub returns-clause-ok : goal.returns-clause-ok
returns-clause-ok c =
    let may = c.may_close.ensures.close.0 (search rules) in let t = c.args.t.0 in let p = c.args.p.0 in
    record {
      allowed = (c.runs.ensures.runs.0 (search rules), may.0, may.1);
      state = c.set_owner.ensures.state ∙ (ap (λ (s : CoreState). alter s p (owned_by None)) c.set_idle.ensures.state
          ∙ ap (λ (st : CellStage). alter (restage (state_of c.args.self.now) t (λ _. st)) p (owned_by None))
          c.slot_after_close.ensures.stage);
      loads = λ i. c.set_owner.ensures.loads i ∙ c.set_idle.ensures.loads i;
      limit = c.set_owner.ensures.same.limit ∙ c.set_idle.ensures.same.limit;
    }
