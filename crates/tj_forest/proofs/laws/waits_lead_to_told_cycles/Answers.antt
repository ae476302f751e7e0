use Rattle.std.proofs.Crossing.{crosses}
use denote.Param.Send.{sendable}
use Rattle.tj_syntax.proofs.Sends.{expr_sync, script_sync, stmt_sync}
use Rattle.tj_forest.proofs.LedToCycles.{led}
use Rattle.tj_forest.proofs.laws.waits_lead_to_told_cycles.Goals as goal

-- a body of a script may cross threads
pub waits_lead_to_a_cycle-requires-send-B : goal.waits_lead_to_a_cycle-requires-send-B
waits_lead_to_a_cycle-requires-send-B c κs =
    search (sendable, crosses, expr_sync, stmt_sync, script_sync) depth 40

pub returns : goal.returns
returns c = λ strict root N lines o fresh room traced out w i.
    let law = c.waits_lead_to_a_cycle.ensures in
    led strict root N lines o (law.owners strict root.task fresh) (law.cycle strict root.task fresh) room traced out w i
