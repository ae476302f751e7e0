use Rattle.std.proofs.Crossing.{crosses}
use denote.Param.Send.{sendable}
use Rattle.tj_syntax.proofs.Sends.{expr_sync, script_sync, stmt_sync}
use Rattle.tj_forest.proofs.Follows.{in_order}
use Rattle.tj_forest.proofs.laws.consequences_follow.Goals as goal

-- a body of a script may cross threads
pub waits_lead_to_a_cycle-requires-send-B : goal.waits_lead_to_a_cycle-requires-send-B
waits_lead_to_a_cycle-requires-send-B c κs =
    search (sendable, crosses, expr_sync, stmt_sync, script_sync) depth 40

pub returns : goal.returns
returns c = λ strict root N places lines o small fresh room traced out.
    let law = c.waits_lead_to_a_cycle.ensures in
    in_order strict root N places lines o (law.owners strict root.task fresh) (law.cycle strict root.task fresh) room
    small traced out
