-- A run of the early sender is a run as any other.
use Rattle.tj_program.proofs.Prelude.{bodies_of, crosses, false, sendable}
use Rattle.tj_chan.specs.ChannelLaws.{rules_of}
use Rattle.tj_chan.specs.ChatTables.{table_channels, table_chat_asks, table_chat_awaits, table_chat_left}
use Rattle.tj_chan.specs.ChatTables.{table_chat_then}
use Rattle.tj_program.proofs.ClosedRuns.{rests_named}
use Rattle.tj_program.proofs.tests.relay_tests.worked.Goals as goal

pub ended_at_rest-requires : goal.ended_at_rest-requires
ended_at_rest-requires g c κs = (
  search (sendable, crosses) depth 40,
  rests_named
      (bodies_of (rules_of table_channels table_chat_awaits table_chat_left table_chat_asks table_chat_then))
      c.in_ok-root.root 4 false c.in-Ok.rest c.in-Ok.ensures.rest,
)
