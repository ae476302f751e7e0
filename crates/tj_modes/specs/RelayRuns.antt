-- What `relay` gives, by channels as lists: that their rounds need more cells, or the report of their outcome. And what
-- the run of the same relay over promises begins with.
use Rattle.std.specs.Prelude.{ℕ, List, false}
use Rattle.tj_chan.specs.ChanBodies.{root_body}
use Rattle.tj_chan.specs.ChannelLaws.{bodies_of, chats_of, rules_of}
use Rattle.tj_chan.specs.ChannelOutcomes.{IsChatOutcome}
use Rattle.tj_chan.specs.ChannelRounds.{ChatProgram, IsChatFull, chat_meaning}
use Rattle.tj_chan.specs.Channels.{ChatRules}
use Rattle.tj_chan.specs.Relays.{relay_asks, relay_awaits, relay_channels, relay_left, relay_then, root_relay}
use Rattle.tj_chan.specs.declared.body.ChanBody.{ChanBody}
use Rattle.tj_chan.specs.declared.relay.Relay.{Relay}
use Rattle.tj_mean.specs.declared.outcome.Outcome.{Outcome}
use Rattle.tj_mean.specs.Outcomes.{is_marked}
use Rattle.tj_mean.specs.ReportTexts.{report}
use Rattle.tj_modes.specs.Runs.{StartOf, started, status_of}
use Rattle.tj_modes.specs.Texts.{full_line}
use Rattle.tj_command.specs.declared.status.Status.{Status}
use Rattle.tj_command.specs.declared.status.Status.TheVariants.{Full}

-- what the tasks of a relay go by
abbrev pub relay_rules : ChatRules Relay
relay_rules = rules_of relay_channels relay_awaits relay_left relay_asks relay_then

-- the program over channels whose root is that of a relay of so many items
abbrev pub relay_chats : (size : ℕ) → ChatProgram Relay
relay_chats size = chats_of relay_rules (root_relay size)

-- what `relay` gives: that the rounds over lists need more cells, or the report of the outcome of channels as lists
pub data IsRelayRun (size cells : ℕ) : Status → List ℕ → Type 0 where
  needs_more : IsChatFull (relay_chats size) cells → IsRelayRun size cells Full (full_line cells)
  ends : (outcome : Outcome) → ¬ IsChatFull (relay_chats size) cells
      → IsChatOutcome (chat_meaning (relay_chats size) cells) outcome
      → IsRelayRun size cells (status_of (is_marked outcome)) (report outcome)

-- the run of the same relay over promises begins with this: without the strict rule, the body of its root
abbrev pub relay_start : (size cells : ℕ) → StartOf (ChanBody Relay)
relay_start size cells = started (bodies_of relay_rules) false cells (root_body (root_relay size))
