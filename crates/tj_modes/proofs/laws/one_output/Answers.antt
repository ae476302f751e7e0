use Rattle.tj_modes.proofs.Prelude.{crosses, expr_sync, script_sync, sendable, stmt_sync}
use Rattle.tj_modes.proofs.OneOutput.{one_output}
use Rattle.tj_modes.proofs.laws.one_output.Goals as goal

pub returns : goal.returns
returns c = one_output (record {
  scripts = c.one_script_or_fault.ensures;
  outcome = c.one_outcome.ensures;
  lists = c.one_relay.ensures;
  events = c.one_reading.ensures.events;
  line = c.one_reading.ensures.fault;
  no_line = c.one_reading.ensures.not_both;
  judging = c.one_judging.ensures;
})

-- a body of a script may cross threads
pub one_outcome-requires-send-B : goal.one_outcome-requires-send-B
one_outcome-requires-send-B c κs = search (sendable, crosses, expr_sync, stmt_sync, script_sync) depth 40
