-- The law of channels: a program of chatters, each made a body, means what channels as lists say.
use Rattle.std.specs.Prelude.{◌↔◌, ℕ, Bool}
use Rattle.tj_body.specs.Programs.{Program, program_of}
use Rattle.tj_body.specs.Rounds.{meaning, IsFull}
use Rattle.tj_mean.specs.Outcomes.{IsOutcome}
use Rattle.tj_mean.specs.declared.outcome.Outcome.{Outcome}
use Rattle.tj_chan.specs.Chats.{Await, IsFreshChat, ObeysChat}
use Rattle.tj_chan.specs.Channels.{ChatRules}
use Rattle.tj_chan.specs.ChannelRounds.{ChatProgram, chat_meaning, IsChatFull}
use Rattle.tj_chan.specs.ChannelOutcomes.{IsChatOutcome}
use Rattle.tj_chan.specs.ChanBodies.{chan_places, chan_awaits, chan_left, chan_asks, chan_then, root_body}
use Rattle.tj_chan.specs.declared.body.ChanBody.{ChanBody}
use Rattle.tj_chan.specs.declared.chat.ChatAnswer.{ChatAnswer}
use Rattle.tj_chan.specs.declared.chat.ChatAsk.{ChatAsk}

module _ {C : Type 0} where
  module _ (channels : C → ℕ) (awaits : C → Await) (left : C → ℕ) (asks : C → ChatAnswer → ChatAsk C)
      (then : C → ChatAnswer → C) where
    -- what tasks with such chatters go by
    abbrev pub rules_of : ChatRules C
    rules_of = record { channels = channels; awaits = awaits; left = left; asks = asks; then = then }

  module _ (rules : ChatRules C) where
    -- each ask obeys the laws of one ask
    abbrev pub AreLawfulChats : Type 0
    AreLawfulChats = (c : C) (a : ChatAnswer)
        → ObeysChat rules.channels rules.awaits rules.left rules.asks rules.then c a

    -- the chatter is fit for a root: it has asked nothing, and has no channel
    abbrev pub IsRootChat : C → Type 0
    IsRootChat c = IsFreshChat rules.channels rules.awaits rules.left 0 c

    -- the program of this root over channels
    abbrev pub chats_of : C → ChatProgram C
    chats_of root = record { rules = rules; root = root }

    -- the program of a body that is made of a chatter
    abbrev pub bodies_of : (strict : Bool) → ChanBody C → Program (ChanBody C)
    bodies_of = program_of chan_places (chan_awaits rules) (chan_left rules) (chan_asks rules) (chan_then rules)

    -- The body's program is full exactly where the rounds over lists are, and its outcome is theirs; it has no joins,
    -- so the rule makes no difference.
    abbrev pub IsMeantByLists : C → ChanBody C → Type 0
    IsMeantByLists root body = (strict : Bool) (N : ℕ)
        → (IsFull (bodies_of strict body) N ↔ IsChatFull (chats_of root) N)
        × ((o : Outcome) → IsOutcome (meaning (bodies_of strict body) N) o
        ↔ IsChatOutcome (chat_meaning (chats_of root) N) o)

    -- so it is for each root
    abbrev pub ChannelsAreLists : Type 0
    ChannelsAreLists = (root : C) → IsRootChat root → IsMeantByLists root (root_body root)
