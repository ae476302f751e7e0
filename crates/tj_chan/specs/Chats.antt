-- What a chatter awaits, and what the laws of a chatter say of one ask. A chatter awaits what a body awaits: where that
-- is a new place, a new channel, and where it is a cell's value, the value that it receives.
use Rattle.std.specs.Prelude.{◌≡◌, ℕ, ◌<◌, ◌≤◌, ◌^◌, List, length}
use Rattle.tj_body.specs.Asks.{IsFreshWithin, IsNextOf}
pub use Rattle.tj_body.specs.Asks.{Await, begin, place, done, cell, nothing, AwaitsNothing}
use Rattle.tj_chan.specs.declared.chat.ChatAnswer.{ChatAnswer}
use Rattle.tj_chan.specs.declared.chat.ChatAnswer.TheVariants as answer
use Rattle.tj_chan.specs.declared.chat.ChatAsk.{ChatAsk}
use Rattle.tj_chan.specs.declared.chat.ChatAsk.TheVariants as ask

-- the answer is one that is awaited where the task has n channels: a new channel has the next place
abbrev pub FitsChat : Await → ℕ → ChatAnswer → Type 0
FitsChat begin n answer.Start = Unit {0}
FitsChat place n (answer.Chan k) = k ≡ n
FitsChat done n answer.Done = Unit {0}
FitsChat cell n (answer.Num i) = Unit {0}
FitsChat w n a = ⊥

-- how many channels the answer adds
abbrev pub channels_added : ChatAnswer → ℕ
channels_added (answer.Chan k) = 1
channels_added a = 0

-- what a chatter awaits after the ask
abbrev pub chat_awaited : {C : Type 0} → ChatAsk C → Await
chat_awaited (ask.Open k) = place
chat_awaited (ask.Send c v) = done
chat_awaited (ask.Recv c) = cell
chat_awaited (ask.Spawn b pass give) = done
chat_awaited (ask.Emit i) = done
chat_awaited (ask.End v) = nothing
chat_awaited (ask.Fail t) = nothing

-- the ask is a chatter's last one
abbrev pub ChatEnds : {C : Type 0} → ChatAsk C → Type 0
ChatEnds x = AwaitsNothing (chat_awaited x)

-- a channel has at most so many items
abbrev pub most_items : ℕ
most_items = 4000

-- a spawn passes at most so many channels
abbrev pub most_channels : ℕ
most_channels = 256

-- a chatter that has asked nothing yet has at most so much left
abbrev pub most_chat_left : ℕ
most_chat_left = 2 ^ 16

module _ {C : Type 0} (channels : C → ℕ) (awaits : C → Await) (left : C → ℕ) where
  -- the chatter has asked nothing yet, and is that of a task with n channels
  abbrev pub IsFreshChat : ℕ → C → Type 0
  IsFreshChat n c = IsFreshWithin channels awaits left most_chat_left n c

  -- the chatter of a spawn that passes these channels is fit for its task
  pub record IsSpawned (c : C) (pass : List ℕ) : Type 0 where
    pub few : length pass ≤ most_channels
    pub fresh : IsFreshChat (length pass) c

  -- a channel that is opened has items, and not too many; the chatter of a spawn is fit for its task
  abbrev pub IsChatAsk : ChatAsk C → Type 0
  IsChatAsk (ask.Open k) = (0 < k) × (k ≤ most_items)
  IsChatAsk (ask.Send c v) = Unit {0}
  IsChatAsk (ask.Recv c) = Unit {0}
  IsChatAsk (ask.Spawn b pass give) = IsSpawned b pass
  IsChatAsk (ask.Emit i) = Unit {0}
  IsChatAsk (ask.End v) = Unit {0}
  IsChatAsk (ask.Fail t) = Unit {0}

  module _ (asks : C → ChatAnswer → ChatAsk C) (then : C → ChatAnswer → C) where
    -- what holds of the ask that the chatter gives for the answer, and of the chatter from then on
    abbrev pub IsNextChat : C → ChatAnswer → Type 0
    IsNextChat c a = IsNextOf channels awaits left chat_awaited channels_added (λ n x. IsChatAsk x) asks then c a

    -- the laws of one ask, where the answer is one that the chatter awaits
    abbrev pub ObeysChat : C → ChatAnswer → Type 0
    ObeysChat c a = FitsChat (awaits c) (channels c) a → IsNextChat c a
