use denote.Param.Send.{sendable}
use Rattle.std.proofs.Crossing.{crosses}
use Rattle.tj_syntax.proofs.Sends.{expr_sync, stmt_sync, script_sync}
use Rattle.std.proofs.Common.{subst, sym}
use Rattle.tj_words.specs.AtRest.ClosedCells.{AreAlarmsOnCycles, AreCyclesAlarmed}
use Rattle.tj_mean.specs.declared.outcome.Outcome.{Outcome}
use Rattle.tj_words.specs.AtRest.RestMeaning.{HaveWords}
use Rattle.tj_report.specs.ClosedOutcomes.{AreCyclesOfOutcomeAlarmed}
use Rattle.tj_run.specs.Runs.{AreEndOfRun}
use Rattle.tj_embed.specs.ScriptRuns.{IsOutcomeOfRun, script_program}
use Rattle.tj_embed.proofs.ClosedWords.{outcome_alarmed}
use Rattle.tj_embed.proofs.script_run.ScriptRun.into_closed.Goals as goal

-- a body of a script may cross threads
pub into_closed-requires-send-B : goal.into_closed-requires-send-B
into_closed-requires-send-B c κs = search (sendable, crosses, expr_sync, stmt_sync, script_sync) depth 40

pub returns-clause-cycles : goal.returns-clause-cycles
returns-clause-cycles c = subst AreCyclesAlarmed (sym c.into_closed.ensures.same) c.self.invariant.cycles

pub returns-clause-alarms : goal.returns-clause-alarms
returns-clause-alarms c = subst AreAlarmsOnCycles (sym c.into_closed.ensures.same) c.self.invariant.alarms

pub returns-clause-meaning : goal.returns-clause-meaning
returns-clause-meaning c = let r = c.self.inside.rest in let m = c.self.invariant.meaning in
    subst (λ z. HaveWords (script_program z.strict z.root) z.limit c.into_closed.result) c.self.view_is
    (subst (HaveWords (script_program r.strict r.root) r.limit) (sym c.into_closed.ensures.same) (m.0, m.1))

pub returns-clause-alarmed : goal.returns-clause-alarmed
returns-clause-alarmed c = let r = c.self.inside.rest in let m = c.self.invariant.meaning in
    let all = c.self.invariant.meant_cycles in
    subst (λ z. (o : Outcome) → IsOutcomeOfRun z o → AreCyclesOfOutcomeAlarmed c.into_closed.result o) c.self.view_is
    (λ o is. subst (λ z. AreCyclesOfOutcomeAlarmed z o) (sym c.into_closed.ensures.same)
    (outcome_alarmed (script_program r.strict r.root) r.limit r.cells (m.0, m.1) all o is))

pub returns-clause-run : goal.returns-clause-run
returns-clause-run c = let r = c.self.inside.rest in let e = c.self.invariant.run in
    subst (λ z. AreEndOfRun script_program z.root z.limit z.strict c.into_closed.result) c.self.view_is
    (subst (AreEndOfRun script_program r.root r.limit r.strict) (sym c.into_closed.ensures.same)
    (e.0, r.records, e.1.ends))
