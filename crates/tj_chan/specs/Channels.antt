-- Channels as lists: the history of one task, ask by ask, where each channel is a list of the values sent. No promise
-- and no place of a promise stands here; an item of a channel has a name, by which it is told that it is waited for,
-- owed or broken.
use Rattle.std.specs.Prelude.{ℕ, zero, suc, ◌+◌, ◌*◌, Bool, true, false, cond, ◌&&◌, nat_eq, nat_lt, List, [], ◌∷◌}
use Rattle.std.specs.Prelude.{◌++◌, length, drop, slice_get, ℤ, Option, Some, None}
use Rattle.std.specs.List.{list_any, list_all}
use Rattle.tj_base.specs.ForkOrder.{Name, child}
use Rattle.tj_base.specs.declared.cause.Cause.{Cause}
use Rattle.tj_base.specs.declared.cause.Cause.TheVariants as cause
use Rattle.tj_body.specs.Names.{same}
use Rattle.tj_body.specs.History.{cause_of}
use Rattle.tj_body.specs.Steps.{after_steps}
use Rattle.tj_chan.specs.Chats.{Await}
use Rattle.tj_chan.specs.declared.chat.ChatAnswer.{ChatAnswer}
use Rattle.tj_chan.specs.declared.chat.ChatAnswer.TheVariants as answer
use Rattle.tj_chan.specs.declared.chat.ChatAsk.{ChatAsk}
use Rattle.tj_chan.specs.declared.chat.ChatAsk.TheVariants as ask

-- What tasks with such chatters go by: of a chatter its number of channels, what it awaits, at least how many asks it
-- has left, what it asks for an answer, and what it is then.
pub record ChatRules (C : Type 0) : Type 0 where
  pub channels : C → ℕ
  pub awaits : C → Await
  pub left : C → ℕ
  pub asks : C → ChatAnswer → ChatAsk C
  pub then : C → ChatAnswer → C

-- A channel: the task that opened it, how many things that task had made before, and its number of items.
pub record Channel : Type 0 where
  pub opener : Name
  pub made_before : ℕ
  pub items : ℕ

-- the name of its item i, where the first one has number 0: its items are the next things that its opener makes
abbrev pub item : Channel → ℕ → Name
item c i = child c.opener (c.made_before + suc i)

-- the names of the n things that a task makes after the first m
abbrev pub things_after : Name → (m : ℕ) → (n : ℕ) → List Name
things_after x m zero = []
things_after x m (suc n) = child x (suc m) ∷ things_after x (suc m) n

-- the names of all its items, in order
abbrev pub items_of : Channel → List Name
items_of c = things_after c.opener c.made_before c.items

-- whether two channels are one: the same task opened both, at the same time
abbrev pub is_same : Channel → Channel → Bool
is_same c d = same c.opener d.opener && nat_eq c.made_before d.made_before

-- how often the channel stands in the list
abbrev pub times : Channel → List Channel → ℕ
times c [] = 0
times c (d ∷ ds) = cond (is_same c d) (suc (times c ds)) (times c ds)

-- The sending end of a channel, with the list of the values sent so far.
pub record SendingEnd : Type 0 where
  pub channel : Channel
  pub sent : List ℤ

-- the end of a channel into which nothing has been sent
abbrev pub new_end : Channel → SendingEnd
new_end c = record { channel = c; sent = [] }

-- the names of the items that are still to be sent, in order
abbrev pub unsent : SendingEnd → List Name
unsent e = drop (length e.sent) (items_of e.channel)

-- all items that are still to be sent by these ends
abbrev pub all_unsent : List SendingEnd → List Name
all_unsent [] = []
all_unsent (e ∷ es) = unsent e ++ all_unsent es

-- What has become of a channel: the list of the values sent, and whether it is cut, so that no more will come.
pub record ChannelState : Type 0 where
  pub sent : List ℤ
  pub is_cut : Bool

-- what has become of each channel
abbrev pub Lists : Type 0
Lists = Channel → ChannelState

-- Where a task stands between two of its asks: its chatter is to be given this answer, it waits for this item of the
-- channel, it has ended well with this result, or it has failed.
pub data ChatStage : Type 0 where
  answered : ChatAnswer → ChatStage
  receives : Channel → ℕ → ChatStage
  ended : ℤ → ChatStage
  failed : Cause → ChatStage

-- A task as its spawn made it: the channels that it was passed, and the ends that it was given.
pub record ChatTask (C : Type 0) : Type 0 where
  pub name : Name
  pub chatter : C
  pub passed : List Channel
  pub given : List SendingEnd

-- What stands after some of a task's asks: its channels in the order of their places, the ends that it holds, each
-- channel as often as it has asked to receive from it, how many things it has made, the channels that it has opened,
-- the tasks that it has spawned, each end as it was when it was handed on, and what it has printed.
pub record ChatPoint (C : Type 0) : Type 0 where
  pub name : Name
  pub chatter : C
  pub stage : ChatStage
  pub channels : List Channel
  pub ends : List SendingEnd
  pub received : List Channel
  pub made : ℕ
  pub opened : List Channel
  pub children : List (ChatTask C)
  pub handed_on : List SendingEnd
  pub prints : List ℤ

-- a task begins with the channels that it was passed and the ends that it was given
abbrev pub chat_start : {C : Type 0} → ChatTask C → ChatPoint C
chat_start t = record {
  name = t.name;
  chatter = t.chatter;
  stage = answered answer.Start;
  channels = t.passed;
  ends = t.given;
  received = [];
  made = 0;
  opened = [];
  children = [];
  handed_on = [];
  prints = [];
}

-- one channel more, before those that were found
abbrev pub found_too : Channel → Option (List Channel) → Option (List Channel)
found_too c None = None
found_too c (Some cs) = Some (c ∷ cs)

-- the channel that was looked for, before those that were found
abbrev pub found_both : Option Channel → Option (List Channel) → Option (List Channel)
found_both None found = None
found_both (Some c) found = found_too c found

-- the channels at these places, and nothing where one of the places isn't there
abbrev pub channels_at : List Channel → List ℕ → Option (List Channel)
channels_at cs [] = Some []
channels_at cs (k ∷ ks) = found_both (slice_get cs k) (channels_at cs ks)

-- the end of the channel, and nothing where it isn't among these
abbrev pub end_of : Channel → List SendingEnd → Option SendingEnd
end_of c [] = None
end_of c (e ∷ es) = cond (is_same c e.channel) (Some e) (end_of c es)

-- the ends without that of the channel
abbrev pub without_end : Channel → List SendingEnd → List SendingEnd
without_end c [] = []
without_end c (e ∷ es) = cond (is_same c e.channel) es (e ∷ without_end c es)

-- Ends that a task parts with, and those that it keeps.
pub record Parting : Type 0 where
  pub given : List SendingEnd
  pub kept : List SendingEnd

-- these ends are given, and those kept
abbrev pub parted : List SendingEnd → List SendingEnd → Parting
parted es fs = record { given = es; kept = fs }

-- one end more is given
abbrev pub given_too : SendingEnd → Option Parting → Option Parting
given_too e None = None
given_too e (Some p) = Some (parted (e ∷ p.given) p.kept)

-- an end that was looked for is given, before the others
abbrev pub given_both : Option SendingEnd → Option Parting → Option Parting
given_both None parting = None
given_both (Some e) parting = given_too e parting

-- the ends of these channels are given, from the left; nothing where one isn't held, or has been given already
abbrev pub part_with : List Channel → List SendingEnd → Option Parting
part_with [] es = Some (parted [] es)
part_with (c ∷ cs) es = given_both (end_of c es) (part_with cs (without_end c es))

-- the end with one value more
abbrev pub one_more : ℤ → SendingEnd → SendingEnd
one_more v e = record e { sent = e.sent ++ v ∷ [] }

-- the value is appended to the list of the channel's end
abbrev pub with_sent : Channel → ℤ → List SendingEnd → List SendingEnd
with_sent c v [] = []
with_sent c v (e ∷ es) = cond (is_same c e.channel) (one_more v e ∷ es) (e ∷ with_sent c v es)

-- whether each place of the second list is one of the first
abbrev pub are_among : List ℕ → List ℕ → Bool
are_among pass give = list_all (λ k. list_any (nat_eq k) pass) give

module _ {C : Type 0} where
  -- the chatter is to be given this answer
  abbrev pub with_answer : ChatAnswer → ChatPoint C → ChatPoint C
  with_answer a p = record p { stage = answered a }

  -- the task fails
  abbrev pub after_fault : Cause → ChatPoint C → ChatPoint C
  after_fault f p = record p { stage = failed f }

  -- the channel that the task opens next
  abbrev pub next_channel : ℕ → ChatPoint C → Channel
  next_channel k p = record { opener = p.name; made_before = p.made; items = k }

  -- the task opens a channel of k items and holds its end; that counts as k things made
  abbrev pub after_open : ℕ → ChatPoint C → ChatPoint C
  after_open k p = record p {
    stage = answered (answer.Chan (length p.channels));
    channels = p.channels ++ next_channel k p ∷ [];
    ends = p.ends ++ new_end (next_channel k p) ∷ [];
    made = p.made + k;
    opened = p.opened ++ next_channel k p ∷ [];
  }

  -- the holder of an end sends a value, unless all items have been sent; a task that doesn't hold the end fails
  abbrev pub after_send_by : ℤ → Option SendingEnd → ChatPoint C → ChatPoint C
  after_send_by v None p = after_fault cause.Kind p
  after_send_by v (Some e) p = cond (nat_lt (length e.sent) e.channel.items)
      (record p { stage = answered answer.Done; ends = with_sent e.channel v p.ends }) (after_fault cause.Kind p)

  -- a send needs a channel that is there
  abbrev pub after_send : Option Channel → ℤ → ChatPoint C → ChatPoint C
  after_send None v p = after_fault cause.Kind p
  after_send (Some c) v p = after_send_by v (end_of c p.ends) p

  -- the task's i-th receive from a channel is for its i-th item; it has no more receives than the channel has items
  abbrev pub after_receive : Option Channel → ChatPoint C → ChatPoint C
  after_receive None p = after_fault cause.Kind p
  after_receive (Some c) p = cond (nat_lt (times c p.received) c.items)
      (record p { stage = receives c (times c p.received); received = p.received ++ c ∷ [] })
      (after_fault cause.Kind p)

  -- the task that a spawn makes next
  abbrev pub next_chat : C → List Channel → List SendingEnd → ChatPoint C → ChatTask C
  next_chat b passed given p =
      record { name = child p.name (suc p.made); chatter = b; passed = passed; given = given }

  -- the task spawns a child, which is passed these channels and given the ends that its parent parts with
  abbrev pub after_spawn : C → Option (List Channel) → Option Parting → ChatPoint C → ChatPoint C
  after_spawn b None parting p = after_fault cause.Kind p
  after_spawn b (Some passed) None p = after_fault cause.Kind p
  after_spawn b (Some passed) (Some parting) p = record p {
    stage = answered answer.Done;
    ends = parting.kept;
    made = suc p.made;
    children = p.children ++ next_chat b passed parting.given p ∷ [];
    handed_on = p.handed_on ++ parting.given;
  }

  -- the ends of these channels are parted with, where they are there
  abbrev pub parting_of : Option (List Channel) → ChatPoint C → Option Parting
  parting_of None p = None
  parting_of (Some cs) p = part_with cs p.ends

  -- what an ask makes of a point; a spawn gives ends of channels that it passes
  abbrev pub after_chat_ask : ChatAsk C → ChatPoint C → ChatPoint C
  after_chat_ask (ask.Open k) p = after_open k p
  after_chat_ask (ask.Send c v) p = after_send (slice_get p.channels c) v p
  after_chat_ask (ask.Recv c) p = after_receive (slice_get p.channels c) p
  after_chat_ask (ask.Spawn b pass give) p = cond (are_among pass give)
      (after_spawn b (channels_at p.channels pass) (parting_of (channels_at p.channels give) p) p)
      (after_fault cause.Kind p)
  after_chat_ask (ask.Emit i) p = record p { stage = answered answer.Done; prints = p.prints ++ i ∷ [] }
  after_chat_ask (ask.End v) p = record p { stage = ended v }
  after_chat_ask (ask.Fail t) p = after_fault (cause_of t) p

  -- item i of the channel is the i-th value of its list; where the list is shorter, the task fails if the channel is
  -- cut, and else waits on
  abbrev pub after_item : Channel → ℕ → (is_cut : Bool) → Option ℤ → ChatPoint C → ChatPoint C
  after_item c i is_cut (Some v) p = with_answer (answer.Num v) p
  after_item c i true None p = after_fault (cause.Broken (item c i)) p
  after_item c i false None p = p

  module _ (rules : ChatRules C) where
    -- one step from this stage: the next ask, or the answer of a receive; what has ended stays
    abbrev pub after_chat_stage : Lists → ChatStage → ChatPoint C → ChatPoint C
    after_chat_stage L (answered a) p =
        after_chat_ask (rules.asks p.chatter a) (record p { chatter = rules.then p.chatter a })
    after_chat_stage L (receives c i) p = after_item c i (L c).is_cut (slice_get (L c).sent i) p
    after_chat_stage L (ended v) p = p
    after_chat_stage L (failed f) p = p

    -- one ask more, or one answer more
    abbrev pub after_chat_step : Lists → ChatPoint C → ChatPoint C
    after_chat_step L p = after_chat_stage L p.stage p

    -- the point at which the task stops: an ask and its answer are two steps, and there are at most left and one asks
    abbrev pub chat_history : Lists → ChatTask C → ChatPoint C
    chat_history L t = after_steps (after_chat_step L) (2 * suc (rules.left t.chatter)) (chat_start t)
