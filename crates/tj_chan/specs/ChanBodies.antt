-- A chatter as a body: what it asks of its channels becomes asks for promises. Open is a New for each item, Send a Set,
-- Recv a Get, and Spawn a Fork that passes all promises of the passed channels and hands the unset ones of the given.
use Rattle.std.specs.Prelude.{ℕ, zero, suc, ◌+◌, ◌-◌, ◌*◌, ◌^◌, Bool, true, false, cond, ◌&&◌, nat_eq, nat_lt, nat_le}
use Rattle.std.specs.Prelude.{List, [], ◌∷◌, ◌++◌, length, ℤ, slice_get, slice_set, Option, Some, None, IsTrue}
use Rattle.std.specs.List.{list_any, list_all, flat_map}
use Rattle.tj_base.specs.declared.cause.Trouble.TheVariants as trouble
use Rattle.tj_base.specs.declared.value.Pay.TheVariants as pay
use Rattle.tj_body.specs.Asks as asks
use Rattle.tj_body.specs.declared.ask.Answer.{Answer}
use Rattle.tj_body.specs.declared.ask.Answer.TheVariants as answer
use Rattle.tj_body.specs.declared.ask.Ask.{Ask}
use Rattle.tj_body.specs.declared.ask.Ask.TheVariants as ask
use Rattle.tj_chan.specs.Chats as chats
use Rattle.tj_chan.specs.Channels.{ChatRules, are_among}
use Rattle.tj_chan.specs.declared.chat.ChatAnswer.{ChatAnswer}
use Rattle.tj_chan.specs.declared.chat.ChatAnswer.TheVariants as told
use Rattle.tj_chan.specs.declared.chat.ChatAsk.{ChatAsk}
use Rattle.tj_chan.specs.declared.chat.ChatAsk.TheVariants as chat
use Rattle.tj_chan.specs.declared.rows.PromiseRow.{PromiseRow}
use Rattle.tj_chan.specs.declared.spawn.Promises.{Promises}
use Rattle.tj_chan.specs.declared.spawn.Promises.TheVariants as promises
use Rattle.tj_chan.specs.declared.body.Due.{Due}
use Rattle.tj_chan.specs.declared.body.Due.TheVariants as due
use Rattle.tj_chan.specs.declared.body.ChanBody.{ChanBody}

-- Rows of promises. The first place of the channel.
abbrev pub first_place : Option PromiseRow → ℕ
first_place None = 0
first_place (Some r) = r.first

-- whether the row names a first place that is there, and that row names itself
abbrev pub leads : List PromiseRow → PromiseRow → Bool
leads rows r = nat_lt r.first (length rows) && nat_eq (first_place (slice_get rows r.first)) r.first

-- whether each row does
abbrev pub are_rows : List PromiseRow → Bool
are_rows rows = list_all (leads rows) rows

-- the rows pass that test
abbrev pub AreRows : List PromiseRow → Type 0
AreRows rows = IsTrue (are_rows rows)

-- the row to which a row of the same channel leads, which has what the task did with the channel
abbrev pub first_of : List PromiseRow → Option PromiseRow → Option PromiseRow
first_of rows None = None
first_of rows (Some r) = slice_get rows r.first

-- the row that has what the task did with the channel at the place
abbrev pub row_at : List PromiseRow → ℕ → Option PromiseRow
row_at rows place = first_of rows (slice_get rows place)

-- the rows with this one at its first place
abbrev pub with_row : List PromiseRow → PromiseRow → List PromiseRow
with_row rows r = slice_set rows r.first r

-- n places, from this one on
abbrev pub places_from : ℕ → ℕ → List ℕ
places_from k zero = []
places_from k (suc n) = k ∷ places_from (suc k) n

-- the places of a row's promises, of all or of those that are still to be set
abbrev pub places_in : Option PromiseRow → Promises → List ℕ
places_in None meant = []
places_in (Some r) promises.All = places_from r.base r.items
places_in (Some r) promises.Unset = places_from (r.base + r.sent) (r.items - r.sent)

-- the places of all promises of a row
abbrev pub all_places : Option PromiseRow → List ℕ
all_places o = places_in o promises.All

-- the places of those that are still to be set
abbrev pub unset_places : Option PromiseRow → List ℕ
unset_places o = places_in o promises.Unset

-- the row of a channel that the task opens, whose promises are the last of so many places
abbrev pub new_row : (rows : ℕ) → (places : ℕ) → (items : ℕ) → PromiseRow
new_row rows places items =
    record { first = rows; base = places - items; items = items; sent = 0; asked = 0; holds = true }

-- Spawns. The place is there.
abbrev pub is_there : List PromiseRow → ℕ → Bool
is_there rows place = nat_lt place (length rows)

-- the rows without the end of this channel
abbrev pub without_end : List PromiseRow → Option PromiseRow → List PromiseRow
without_end rows None = rows
without_end rows (Some r) = with_row rows (record r { holds = false })

-- the rows without the ends of the channels at these places
abbrev pub without_ends : List PromiseRow → List ℕ → List PromiseRow
without_ends rows [] = rows
without_ends rows (k ∷ ks) = without_ends (without_end rows (row_at rows k)) ks

-- whether the task holds the end
abbrev pub has_end : Option PromiseRow → Bool
has_end None = false
has_end (Some r) = r.holds

-- whether the ends of the channels at these places can be given one after the other
abbrev pub can_give : List PromiseRow → List ℕ → Bool
can_give rows [] = true
can_give rows (k ∷ ks) = has_end (row_at rows k) && can_give (without_end rows (row_at rows k)) ks

-- whether such a spawn is one
abbrev pub is_spawn : List PromiseRow → (pass : List ℕ) → (give : List ℕ) → Bool
is_spawn rows pass give = list_all (is_there rows) pass && are_among pass give && can_give rows give

-- where the number stands first, and past the last where it isn't there
abbrev pub position : ℕ → List ℕ → ℕ
position k [] = 0
position k (j ∷ js) = cond (nat_eq k j) 0 (suc (position k js))

-- the row of a passed channel as the child has it: its first place, that of its first promise, and whether its end is
-- given
abbrev pub passed_row : (first : ℕ) → (base : ℕ) → (is_given : Bool) → Option PromiseRow → PromiseRow
passed_row first base is_given None =
    record { first = first; base = base; items = 0; sent = 0; asked = 0; holds = is_given }
passed_row first base is_given (Some r) =
    record { first = first; base = base; items = r.items; sent = cond is_given r.sent 0; asked = 0; holds = is_given }

module _ (rows : List PromiseRow) (give : List ℕ) where
  -- whether the end of the channel with this first place is given
  abbrev pub is_given : ℕ → Bool
  is_given first = list_any (λ k. nat_eq first (first_place (row_at rows k))) give

  -- the first place, among the parent's, of the channel at the place
  abbrev pub first_at : ℕ → ℕ
  first_at k = first_place (row_at rows k)

  -- the child's rows of the channels at these places, behind those of which the first places are told
  abbrev pub passed_rows : (firsts : List ℕ) → (base : ℕ) → List ℕ → List PromiseRow
  passed_rows firsts base [] = []
  passed_rows firsts base (k ∷ ks) =
      passed_row (position (first_at k) firsts) base (is_given (first_at k)) (row_at rows k)
      ∷ passed_rows (firsts ++ first_at k ∷ []) (base + length (all_places (row_at rows k))) ks

-- What is due. How many promises of a channel are still to be asked for.
abbrev pub promises_left : Due → ℕ
promises_left (due.Promise more items) = more
promises_left d = 0

-- what is awaited where this is due
abbrev pub due_await : Due → asks.Await
due_await due.Start = asks.begin
due_await (due.Promise more items) = asks.place
due_await due.Done = asks.done
due_await due.Item = asks.cell
due_await due.Child = asks.place
due_await due.Nothing = asks.nothing

-- whether the chatter awaits what will come of this; a channel that is being opened has its promises so far
abbrev pub is_due : (places : ℕ) → Due → chats.Await → Bool
is_due places due.Start chats.begin = true
is_due places (due.Promise more items) chats.place =
    nat_lt more items && nat_le items chats.most_items && nat_lt items (places + more + 2)
is_due places due.Done chats.done = true
is_due places due.Item chats.cell = true
is_due places due.Child chats.done = true
is_due places d a = false

-- whether the promises of the row are of the task's places
abbrev pub is_row : (places : ℕ) → PromiseRow → Bool
is_row places r = nat_le r.items chats.most_items && nat_le (r.base + r.items) places
    && nat_le r.sent r.items && nat_le r.asked r.items

-- a task whose body is asked has at most so many places
abbrev pub most_row_places : ℕ
most_row_places = 2 ^ 31

-- a task has at most so many channels
abbrev pub most_rows : ℕ
most_rows = chats.most_channels + chats.most_chat_left

-- how many channels are being opened
abbrev pub opening : Due → ℕ
opening (due.Promise more items) = 1
opening d = 0

-- Turns: an ask, and the body from then on.
pub record Turn (C : Type 0) : Type 0 where
  pub ask : Ask (ChanBody C)
  pub body : ChanBody C

module _ {C : Type 0} where
  -- the ask, with what is due after it
  abbrev pub turn : Ask (ChanBody C) → Due → ChanBody C → Turn C
  turn x d b = record { ask = x; body = record b { due = d } }

  -- the task fails
  abbrev pub fault : ChanBody C → Turn C
  fault b = turn (ask.Fail trouble.Kind) due.Nothing b

  -- the body with one of its rows changed
  abbrev pub changed : PromiseRow → ChanBody C → ChanBody C
  changed r b = record b { rows = with_row b.rows r }

  -- the next promise is set
  abbrev pub send_turn : Option PromiseRow → ℤ → ChanBody C → Turn C
  send_turn None v b = fault b
  send_turn (Some r) v b = cond (r.holds && nat_lt r.sent r.items)
      (turn (ask.Set (r.base + r.sent) (pay.Num v)) due.Done (changed (record r { sent = suc r.sent }) b))
      (fault b)

  -- the next promise is asked for
  abbrev pub receive_turn : Option PromiseRow → ChanBody C → Turn C
  receive_turn None b = fault b
  receive_turn (Some r) b = cond (nat_lt r.asked r.items)
      (turn (ask.Get (r.base + r.asked)) due.Item (changed (record r { asked = suc r.asked }) b))
      (fault b)

  -- the body of a child, whose places are its own and those of the passed promises
  abbrev pub child_body : C → (pass : List ℕ) → (give : List ℕ) → ChanBody C → ChanBody C
  child_body c pass give b = record {
    chatter = c;
    rows = passed_rows b.rows give [] 1 pass;
    places = suc (length (flat_map (λ k. all_places (row_at b.rows k)) pass));
    due = due.Start;
  }

  -- a child is forked with all promises of the passed channels and the unset ones of the given
  abbrev pub spawn_turn : C → (pass : List ℕ) → (give : List ℕ) → ChanBody C → Turn C
  spawn_turn c pass give b = cond (is_spawn b.rows pass give)
      (turn (ask.Fork (child_body c pass give b)
      (flat_map (λ k. all_places (row_at b.rows k)) pass) (flat_map (λ k. unset_places (row_at b.rows k)) give))
      due.Child (record b { rows = without_ends b.rows give }))
      (fault b)

  -- what the chatter's ask becomes
  abbrev pub ask_turn : ChatAsk C → ChanBody C → Turn C
  ask_turn (chat.Open k) b = turn ask.New (due.Promise (k - 1) k) b
  ask_turn (chat.Send c v) b = send_turn (row_at b.rows c) v b
  ask_turn (chat.Recv c) b = receive_turn (row_at b.rows c) b
  ask_turn (chat.Spawn c pass give) b = spawn_turn c pass give b
  ask_turn (chat.Emit i) b = turn (ask.Emit i) due.Done b
  ask_turn (chat.End v) b = turn (ask.End (pay.Num v)) due.Nothing b
  ask_turn (chat.Fail t) b = turn (ask.Fail t) due.Nothing b

  -- the body with the places that the answer adds
  abbrev pub counted : Answer → ChanBody C → ChanBody C
  counted a b = record b { places = b.places + asks.new_places a }

  -- the body with the channel whose promises it has made last
  abbrev pub with_channel : ℕ → ChanBody C → ChanBody C
  with_channel items b = record b { rows = b.rows ++ new_row (length b.rows) b.places items ∷ [] }

  -- the places of the body's task
  abbrev pub chan_places : ChanBody C → ℕ
  chan_places b = b.places

  -- the body of a root with this chatter
  abbrev pub root_body : C → ChanBody C
  root_body c = record { chatter = c; rows = []; places = 1; due = due.Start }

  module _ (rules : ChatRules C) where
    -- the chatter is given the answer, and what it asks is asked
    abbrev pub chat_turn : ChatAnswer → ChanBody C → Turn C
    chat_turn a b = ask_turn (rules.asks b.chatter a) (record b { chatter = rules.then b.chatter a })

    -- the value of an item is received; a promise of a channel is never set to a reference
    abbrev pub item_turn : Answer → ChanBody C → Turn C
    item_turn (answer.Num v) b = chat_turn (told.Num v) b
    item_turn a b = fault b

    -- a promise has been made: the next one is made, or the channel is open
    abbrev pub promise_turn : (more : ℕ) → (items : ℕ) → ChanBody C → Turn C
    promise_turn zero items b = chat_turn (told.Chan (length b.rows)) (with_channel items b)
    promise_turn (suc more) items b = turn ask.New (due.Promise more items) b

    -- the turn at an answer, by what was due
    abbrev pub turn_at : Due → Answer → ChanBody C → Turn C
    turn_at due.Start a b = chat_turn told.Start b
    turn_at (due.Promise more items) a b = promise_turn more items b
    turn_at due.Done a b = chat_turn told.Done b
    turn_at due.Item a b = item_turn a b
    turn_at due.Child a b = chat_turn told.Done b
    turn_at due.Nothing a b = fault b

    -- what the body asks, given this answer
    abbrev pub chan_asks : ChanBody C → Answer → Ask (ChanBody C)
    chan_asks b a = (turn_at b.due a (counted a b)).ask

    -- what it is from then on
    abbrev pub chan_then : ChanBody C → Answer → ChanBody C
    chan_then b a = (turn_at b.due a (counted a b)).body

    -- each ask that the chatter has left is at most that of a whole channel
    abbrev pub chan_left : ChanBody C → ℕ
    chan_left b = promises_left b.due + chats.most_items * rules.left b.chatter

    -- whether the body is one that calls make, and has not ended
    abbrev pub is_under_way : ChanBody C → Bool
    is_under_way b = is_due b.places b.due (rules.awaits b.chatter) && nat_eq (rules.channels b.chatter) (length b.rows)
        && are_rows b.rows && list_all (is_row b.places) b.rows
        && nat_le (length b.rows + opening b.due + rules.left b.chatter) most_rows

    -- a body that isn't under way awaits nothing
    abbrev pub chan_awaits : ChanBody C → asks.Await
    chan_awaits b = cond (is_under_way b) (due_await b.due) asks.nothing
