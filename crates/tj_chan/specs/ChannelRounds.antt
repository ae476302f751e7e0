-- The rounds over all tasks and lists, and the meaning with a limit of cells.
use Rattle.std.specs.Prelude.{ℕ, zero, suc, ◌<◌, Bool, true, false, cond, ◌||◌, nat_lt, List, [], ◌∷◌, ◌++◌, map}
use Rattle.std.specs.Prelude.{length}
use Rattle.std.specs.List.{flat_map}
use Rattle.tj_base.specs.ForkOrder.{Name}
use Rattle.tj_body.specs.Rounds.{last_round}
use Rattle.tj_chan.specs.Channels.{ChatRules, Channel, SendingEnd, ChannelState, Lists, items_of, is_same}
use Rattle.tj_chan.specs.Channels.{ChatStage, answered, receives, ended, failed, ChatTask, ChatPoint, chat_history}

-- a task in this stage has ended, well or not
abbrev pub has_ended : ChatStage → Bool
has_ended (answered a) = false
has_ended (receives c i) = false
has_ended (ended v) = true
has_ended (failed f) = true

-- the state of a channel by one of its ends
abbrev pub state_of : (is_cut : Bool) → SendingEnd → ChannelState
state_of is_cut e = record { sent = e.sent; is_cut = is_cut }

-- what a task leaves of a channel whose end it has had: the values sent by then, and whether the channel is cut
abbrev pub left_of : (is_cut : Bool) → SendingEnd → Channel × ChannelState
left_of is_cut e = (e.channel, state_of is_cut e)

-- A task leaves open what it has handed on, and what it still holds: that is cut where the task has ended.
abbrev pub leaves : {C : Type 0} → ChatPoint C → List (Channel × ChannelState)
leaves p = map (left_of false) p.handed_on ++ map (left_of (has_ended p.stage)) p.ends

-- of two states of one channel the longer list; it is cut where one of them is
-- the longer list counts: a task that is given an end goes on with the list so far
abbrev pub later_of : ChannelState → ChannelState → ChannelState
later_of a b = record {
  sent = cond (nat_lt (length a.sent) (length b.sent)) b.sent a.sent;
  is_cut = a.is_cut || b.is_cut;
}

-- a channel into which nobody has sent
abbrev pub untouched : ChannelState
untouched = record { sent = []; is_cut = false }

-- what has become of the channel by what tasks have left of it
abbrev pub state_in : List (Channel × ChannelState) → Lists
state_in [] c = untouched
state_in (w ∷ ws) c = cond (is_same c w.0) (later_of w.1 (state_in ws c)) (state_in ws c)

module _ {C : Type 0} (rules : ChatRules C) where
  -- the task and those that come from it by at most d spawns after one another
  abbrev pub chat_family : Lists → ℕ → ChatTask C → List (ChatTask C)
  chat_family L zero t = t ∷ []
  chat_family L (suc d) t = t ∷ flat_map (chat_family L d) (chat_history rules L t).children

  -- what the task's history leaves of channels
  abbrev pub left_by : Lists → ChatTask C → List (Channel × ChannelState)
  left_by L t = leaves (chat_history rules L t)

  -- the task and the items of the channels that its history opens
  abbrev pub chat_cells_by : Lists → ChatTask C → List Name
  chat_cells_by L t = t.name ∷ flat_map items_of (chat_history rules L t).opened

-- a program over channels: what its tasks go by, and the chatter of its root
pub record ChatProgram (C : Type 0) : Type 0 where
  pub rules : ChatRules C
  pub root : C

-- the root task, whose name is the empty list, is passed no channel
abbrev pub root_chat : {C : Type 0} → C → ChatTask C
root_chat c = record { name = []; chatter = c; passed = []; given = [] }

module _ {C : Type 0} (program : ChatProgram C) where
  -- the lists of round n: what the histories of that round, under the lists of the round before, leave of channels
  abbrev pub lists_at : ℕ → Lists
  lists_at zero = λ c. untouched
  lists_at (suc n) = state_in
      (flat_map (left_by program.rules (lists_at n))
      (chat_family program.rules (lists_at n) (suc n) (root_chat program.root)))

  -- the tasks of round n: those of depth at most n that come from the root under the lists of the round before
  abbrev pub chat_tasks : ℕ → List (ChatTask C)
  chat_tasks zero = []
  chat_tasks (suc n) = chat_family program.rules (lists_at n) (suc n) (root_chat program.root)

  -- the cells of round n: its tasks and the items of the channels that their histories open
  abbrev pub chat_cells : ℕ → List Name
  chat_cells zero = []
  chat_cells (suc n) = flat_map (chat_cells_by program.rules (lists_at n)) (chat_tasks (suc n))

  -- the meaning with limit N: each task's history under the lists of the last round
  abbrev pub chat_meaning : ℕ → List (ChatPoint C)
  chat_meaning N = map (chat_history program.rules (lists_at (last_round N))) (chat_tasks (last_round N))

  -- the last round has more than N cells
  abbrev pub IsChatFull : ℕ → Type 0
  IsChatFull N = N < length (chat_cells (last_round N))
