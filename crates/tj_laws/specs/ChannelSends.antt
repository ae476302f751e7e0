-- What a receive from a channel gives: what the send of that number gave, whoever held the sending end then.
use Rattle.std.specs.Prelude.{◌≡◌, ℕ, suc, ◌<◌, true, length, slice_get, ℤ, Some, List}
use Rattle.tj_body.specs.Points.{IsIn}
use Rattle.tj_body.specs.Rounds.{last_round}
use Rattle.tj_body.specs.Steps.{after_steps}
use Rattle.tj_chan.specs.Channels.{Channel, ChatPoint, ChatRules, ChatTask, Lists, SendingEnd, after_chat_step}
use Rattle.tj_chan.specs.Channels.{answered, chat_start, end_of, is_same, receives}
use Rattle.tj_chan.specs.ChannelLaws.{IsRootChat, chats_of}
use Rattle.tj_chan.specs.ChannelRounds.{ChatProgram, IsChatFull, chat_tasks, lists_at}
use Rattle.tj_chan.specs.declared.chat.ChatAnswer.{ChatAnswer}
use Rattle.tj_chan.specs.declared.chat.ChatAnswer.TheVariants as answer
use Rattle.tj_chan.specs.declared.chat.ChatAsk.TheVariants as ask

module _ {C : Type 0} (rules : ChatRules C) (L : Lists) where
  -- what stands after so many steps of the task
  abbrev pub chat_point : ℕ → ChatTask C → ChatPoint C
  chat_point k t = after_steps (after_chat_step rules L) k (chat_start t)

  -- at some step t waits for item i of the channel, by its i-th receive from it, and the next step answers it v. The
  -- first one has number 0
  pub record Gives (t : ChatTask C) (c : Channel) (i : ℕ) (v : ℤ) : Type 0 where
    pub steps : ℕ
    pub waits : (chat_point steps t).stage ≡ receives c i
    pub answered_then : (chat_point (suc steps) t).stage ≡ answered (answer.Num v)

  -- at some step u asks to send v into the channel, holds its end, into which i values have been sent so far, by u or
  -- by who held the end before, and the send succeeds
  pub record Sends (u : ChatTask C) (c : Channel) (i : ℕ) (v : ℤ) : Type 0 where
    pub steps : ℕ
    pub given : ChatAnswer
    pub place : ℕ
    pub named : Channel
    pub sending : SendingEnd
    pub is_answered : (chat_point steps u).stage ≡ answered given
    pub sends : rules.asks (chat_point steps u).chatter given ≡ ask.Send place v
    pub at_place : slice_get (chat_point steps u).channels place ≡ Some named
    pub its_channel : is_same c named ≡ true
    pub holds : end_of named (chat_point steps u).ends ≡ Some sending
    pub number : length sending.sent ≡ i
    pub room : i < sending.channel.items
    pub done : (chat_point (suc steps) u).stage ≡ answered answer.Done

-- What a task's i-th receive from a channel gives under the lists of a round is the value of an i-th send into it that
-- succeeds, in the history of a task of that round.
abbrev pub ReceivesAreSends : Type 0 → Type 0
ReceivesAreSends C = (program : ChatProgram C) (n : ℕ) (t : ChatTask C) (c : Channel) (i : ℕ) (v : ℤ)
    → Gives program.rules (lists_at program (suc n)) t c i v
    → (u : ChatTask C) × IsIn u (chat_tasks program (suc n)) × Sends program.rules (lists_at program n) u c i v

module _ {C : Type 0} (rules : ChatRules C) (L : Lists) (all : List (ChatTask C)) where
  -- each send of these tasks that finds i values sent into the channel is this one: it is by the same task, at the same
  -- step, and sends the same value
  abbrev pub IsOnlySend : (u : ChatTask C) (c : Channel) (i : ℕ) (v : ℤ) → Sends rules L u c i v → Type 0
  IsOnlySend u c i v s = (w : ChatTask C) (x : ℤ) → IsIn w all → (r : Sends rules L w c i x)
      → (w ≡ u) × (r.steps ≡ s.steps) × (x ≡ v)

  -- one send of these tasks finds i values sent into the channel, and it sends v
  abbrev pub IsOneSent : Channel → ℕ → ℤ → Type 0
  IsOneSent c i v = (u : ChatTask C) × IsIn u all × (s : Sends rules L u c i v) × IsOnlySend u c i v s

module _ {C : Type 0} (rules : ChatRules C) where
  -- In the histories of a round no two sends into a channel find the same number of values sent, whoever made or held
  -- its end.
  abbrev pub AreSendsOnce : Type 0
  AreSendsOnce = (root : C) → IsRootChat rules root → (n : ℕ) (u : ChatTask C)
      → IsIn u (chat_tasks (chats_of rules root) (suc n)) → (c : Channel) (i : ℕ) (v : ℤ)
      → (s : Sends rules (lists_at (chats_of rules root) n) u c i v)
      → IsOnlySend rules (lists_at (chats_of rules root) n) (chat_tasks (chats_of rules root) (suc n)) u c i v s

  -- Where the meaning isn't full, what a task's i-th receive from a channel gives in it is the value of the one send of
  -- the meaning that finds i values sent into the channel.
  abbrev pub AreMeantReceives : Type 0
  AreMeantReceives = (root : C) → IsRootChat rules root → (N : ℕ) → ¬ IsChatFull (chats_of rules root) N
      → (t : ChatTask C) (c : Channel) (i : ℕ) (v : ℤ)
      → Gives rules (lists_at (chats_of rules root) (last_round N)) t c i v
      → IsOneSent rules (lists_at (chats_of rules root) (last_round N))
      (chat_tasks (chats_of rules root) (last_round N)) c i v
