-- A turn of a chatter's body in the two steps that the code takes: what the chatter is told of the answer, and what
-- becomes of its ask.
use Rattle.std.specs.Prelude.{ℕ, zero, suc, ◌+◌, ◌<◌, ◌≤◌, length, Option, Some, None}
use Rattle.tj_body.specs.declared.ask.Answer.{Answer}
use Rattle.tj_body.specs.declared.ask.Answer.TheVariants as answer
use Rattle.tj_body.specs.declared.ask.Ask.TheVariants as ask
use Rattle.tj_chan.specs.Chats.{most_channels}
use Rattle.tj_chan.specs.ChanBodies.{Turn, turn, fault, with_channel, most_rows}
use Rattle.tj_chan.specs.declared.chat.ChatAnswer.{ChatAnswer}
use Rattle.tj_chan.specs.declared.chat.ChatAnswer.TheVariants as told
use Rattle.tj_chan.specs.declared.chat.ChatAsk.{ChatAsk}
use Rattle.tj_chan.specs.declared.chat.ChatAsk.TheVariants as chat
use Rattle.tj_chan.specs.declared.body.Due.{Due}
use Rattle.tj_chan.specs.declared.body.Due.TheVariants as due
use Rattle.tj_chan.specs.declared.body.ChanBody.{ChanBody}

-- what the chatter is told of the value of an item
abbrev pub told_of_item : Answer → Option ChatAnswer
told_of_item (answer.Num v) = Some (told.Num v)
told_of_item answer.Start = None
told_of_item (answer.Local k) = None
told_of_item answer.Done = None
told_of_item (answer.RefAt k) = None
told_of_item answer.Lost = None

-- what the chatter of a task with n channels is told of an answer, and nothing where the body goes on without it
abbrev pub told_at : Due → Answer → (n : ℕ) → Option ChatAnswer
told_at due.Start a n = Some told.Start
told_at (due.Promise zero items) a n = Some (told.Chan n)
told_at (due.Promise (suc more) items) a n = None
told_at due.Done a n = Some told.Done
told_at due.Item a n = told_of_item a
told_at due.Child a n = Some told.Done
told_at due.Nothing a n = None

-- a channel that is being opened has so many promises, and there is room for its row
abbrev pub CanOpen : Due → (places : ℕ) → (rows : ℕ) → Type 0
CanOpen due.Start places rows = Unit {0}
CanOpen (due.Promise more items) places rows = (items ≤ places + more) × (rows < most_rows)
CanOpen due.Done places rows = Unit {0}
CanOpen due.Item places rows = Unit {0}
CanOpen due.Child places rows = Unit {0}
CanOpen due.Nothing places rows = Unit {0}

module _ {C : Type 0} where
  -- the body with the channel whose last promise the answer is
  abbrev pub opened : Due → ChanBody C → ChanBody C
  opened due.Start b = b
  opened (due.Promise zero items) b = with_channel items b
  opened (due.Promise (suc more) items) b = b
  opened due.Done b = b
  opened due.Item b = b
  opened due.Child b = b
  opened due.Nothing b = b

  -- the turn of a body that goes on without its chatter
  abbrev pub next_promise : Due → ChanBody C → Turn C
  next_promise due.Start b = fault b
  next_promise (due.Promise zero items) b = fault b
  next_promise (due.Promise (suc more) items) b = turn ask.New (due.Promise more items) b
  next_promise due.Done b = fault b
  next_promise due.Item b = fault b
  next_promise due.Child b = fault b
  next_promise due.Nothing b = fault b

  -- an ask opens a channel with items, and passes few enough channels
  abbrev pub IsFew : ChatAsk C → Type 0
  IsFew (chat.Open k) = 0 < k
  IsFew (chat.Send c v) = Unit {0}
  IsFew (chat.Recv c) = Unit {0}
  IsFew (chat.Spawn b pass give) = length pass ≤ most_channels
  IsFew (chat.Emit i) = Unit {0}
  IsFew (chat.End v) = Unit {0}
  IsFew (chat.Fail t) = Unit {0}
