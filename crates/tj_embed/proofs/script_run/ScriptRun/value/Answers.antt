use denote.Param.Send.{sendable}
use Rattle.std.proofs.Common.{subst}
use Rattle.std.proofs.Crossing.{crosses}
use Rattle.tj_report.specs.NamedValues.{IsOfName}
use Rattle.tj_syntax.proofs.Sends.{expr_sync, stmt_sync, script_sync}
use Rattle.tj_embed.specs.ScriptRuns.{script_program}
use Rattle.tj_embed.proofs.script_run.ScriptRun.value.Goals as goal

-- a body of a script may cross threads
pub value_named-requires-send-B : goal.value_named-requires-send-B
value_named-requires-send-B c κs = search (sendable, crosses, expr_sync, stmt_sync, script_sync) depth 40

pub returns : goal.returns
returns c = subst (λ r. IsOfName (script_program r.strict r.root) r.limit c.args.name.now c.in_ok-became.became)
    c.self.view_is c.in_ok-became.ensures
