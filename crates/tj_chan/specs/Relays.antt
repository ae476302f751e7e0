-- The tasks of a relay: the root opens a channel, spawns a first child with the channel and its end, receives each item
-- and prints it, and ends with the sum; the first child sends the first half and spawns a second child with the channel
-- and its end, which sends the rest.
use Rattle.std.specs.Prelude.{◌≡◌, ℕ, zero, suc, ◌+◌, ◌-◌, ◌*◌, ◌/◌, Bool, true, false, cond, ◌&&◌, nat_eq, nat_lt}
use Rattle.std.specs.Prelude.{nat_le, List, [], ◌∷◌, ◌++◌, length, ℤ, pos, negsuc, ◌+ℤ◌, ◌^◌}
use Rattle.std.specs.List.{flat_map}
use Rattle.tj_base.specs.declared.cause.Trouble.TheVariants as trouble
use Rattle.tj_chan.specs.Chats.{Await, begin, place, done, cell, nothing, most_items}
use Rattle.tj_body.specs.RowLists.{asks_given}
use Rattle.tj_chan.specs.declared.chat.ChatAnswer.{ChatAnswer}
use Rattle.tj_chan.specs.declared.chat.ChatAnswer.TheVariants as answer
use Rattle.tj_chan.specs.declared.chat.ChatAsk.{ChatAsk}
use Rattle.tj_chan.specs.declared.chat.ChatAsk.TheVariants as ask
use Rattle.tj_chan.specs.declared.relay.Part.{Part}
use Rattle.tj_chan.specs.declared.relay.Part.TheVariants as part
use Rattle.tj_chan.specs.declared.relay.Relay.{Relay}

-- the root of a relay of k items
abbrev pub root_relay : ℕ → Relay
root_relay k = record { part = part.Opens; size = k; count = 0; sum = pos 0 }

-- each task of a relay has one channel
abbrev pub the_channel : List ℕ
the_channel = 0 ∷ []

-- a child is spawned with the channel and its end, and begins with this part
abbrev pub hand_on : Part → Relay → ChatAsk Relay
hand_on p r = ask.Spawn (record { part = p; size = r.size; count = r.count; sum = pos 0 }) the_channel the_channel

-- the next item is sent: item i has the value i
abbrev pub next_send : Relay → ChatAsk Relay
next_send r = ask.Send 0 (pos (r.count + 1))

-- An ask, and the relay from then on.
pub record RelayTurn : Type 0 where
  pub ask : ChatAsk Relay
  pub relay : Relay

-- the ask, with what the task does next
abbrev pub relay_turn : ChatAsk Relay → Part → Relay → RelayTurn
relay_turn x p r = record { ask = x; relay = record r { part = p } }

-- the root receives an item, or ends with the sum
abbrev pub root_turn : Relay → RelayTurn
root_turn r = cond (nat_lt r.count r.size) (relay_turn (ask.Recv 0) part.Prints r)
    (relay_turn (ask.End r.sum) part.Over r)

-- the item is printed, where the sum is one of the numbers of a value
abbrev pub sum_turn : Bool → ℤ → Relay → RelayTurn
sum_turn true v r =
    relay_turn (ask.Emit v) part.Receives (record r { count = r.count + 1; sum = r.sum +ℤ v })
sum_turn false v r = relay_turn (ask.Fail trouble.Arith) part.Over r

-- whether a number is an i64
abbrev pub is_i64 : ℤ → Bool
is_i64 (pos n) = nat_lt n (2 ^ 63)
is_i64 (negsuc n) = nat_lt n (2 ^ 63)

-- what was received is printed
abbrev pub print_turn : ChatAnswer → Relay → RelayTurn
print_turn (answer.Num v) r = sum_turn (is_i64 (r.sum +ℤ v)) v r
print_turn a r = relay_turn (ask.Fail trouble.Kind) part.Over r

-- the next item is sent, and the task goes on as before
abbrev pub more_turn : Relay → RelayTurn
more_turn r = record { ask = next_send r; relay = record r { count = r.count + 1 } }

-- the first child sends an item of the first half, or hands the end on
abbrev pub first_turn : Relay → RelayTurn
first_turn r = cond (nat_lt r.count (r.size / 2))
    (more_turn r)
    (relay_turn (hand_on part.SendsRest r) part.Ends r)

-- the second child sends an item of the second half, or ends
abbrev pub second_turn : Relay → RelayTurn
second_turn r = cond (nat_lt r.count r.size)
    (more_turn r)
    (relay_turn (ask.End (pos 0)) part.Over r)

-- the turn of each part
abbrev pub turn_of : Part → ChatAnswer → Relay → RelayTurn
turn_of part.Opens a r = relay_turn (ask.Open r.size) part.Spawns r
turn_of part.Spawns a r = relay_turn (hand_on part.Sends r) part.Receives r
turn_of part.Receives a r = root_turn r
turn_of part.Prints a r = print_turn a r
turn_of part.Sends a r = first_turn r
turn_of part.Ends a r = relay_turn (ask.End (pos 0)) part.Over r
turn_of part.SendsRest a r = second_turn r
turn_of part.Over a r = relay_turn (ask.End (pos 0)) part.Over r

-- what it asks
abbrev pub relay_asks : Relay → ChatAnswer → ChatAsk Relay
relay_asks r a = (turn_of r.part a r).ask

-- what it is from then on
abbrev pub relay_then : Relay → ChatAnswer → Relay
relay_then r a = (turn_of r.part a r).relay

-- the root has no channel before it is told that one is open
abbrev pub channels_in : Part → ℕ
channels_in part.Opens = 0
channels_in part.Spawns = 0
channels_in p = 1

-- how many channels its task has
abbrev pub relay_channels : Relay → ℕ
relay_channels r = channels_in r.part

-- what is awaited before each part, where so many items have been received or sent; a child begins with none, or with
-- the half
abbrev pub await_in : Part → (size : ℕ) → (count : ℕ) → Await
await_in part.Opens size count = begin
await_in part.Spawns size count = place
await_in part.Receives size count = done
await_in part.Prints size count = cell
await_in part.Sends size count = cond (nat_eq count 0) begin done
await_in part.Ends size count = done
await_in part.SendsRest size count = cond (nat_eq count (size / 2)) begin done
await_in part.Over size count = nothing

-- whether so many items can have been received or sent before this part
abbrev pub is_count : Part → (size : ℕ) → (count : ℕ) → Bool
is_count part.Opens size count = nat_eq count 0
is_count part.Spawns size count = nat_eq count 0
is_count part.Receives size count = nat_le count size
is_count part.Prints size count = nat_lt count size
is_count part.Sends size count = nat_le count (size / 2)
is_count part.Ends size count = nat_eq count (size / 2)
is_count part.SendsRest size count = nat_le (size / 2) count && nat_le count size
is_count part.Over size count = true

-- whether the relay is one that calls make
abbrev pub is_relay : Relay → Bool
is_relay r = nat_lt 0 r.size && nat_le r.size most_items && is_count r.part r.size r.count

-- another awaits nothing
abbrev pub relay_awaits : Relay → Await
relay_awaits r = cond (is_relay r) (await_in r.part r.size r.count) nothing

-- at least how many asks are left before the last one
abbrev pub left_in : Part → (size : ℕ) → (count : ℕ) → ℕ
left_in part.Opens size count = 2 * size + 2
left_in part.Spawns size count = 2 * size + 1
left_in part.Receives size count = 2 * (size - count)
left_in part.Prints size count = 2 * (size - count) - 1
left_in part.Sends size count = size / 2 - count + 1
left_in part.Ends size count = 0
left_in part.SendsRest size count = size - count
left_in part.Over size count = 0

-- the same of a relay
abbrev pub relay_left : Relay → ℕ
relay_left r = left_in r.part r.size r.count

-- Whole lists of asks. The first child of the root of a relay of k items.
abbrev pub first_child : ℕ → Relay
first_child k = record { part = part.Sends; size = k; count = 0; sum = pos 0 }

-- its child, which begins at the half
abbrev pub second_child : ℕ → Relay
second_child k = record { part = part.SendsRest; size = k; count = k / 2; sum = pos 0 }

-- what the root is answered where it receives these values: each is received and printed
abbrev pub root_answers : List ℤ → List ChatAnswer
root_answers vs = answer.Start ∷ answer.Chan 0 ∷ answer.Done
    ∷ flat_map (λ v. answer.Num v ∷ answer.Done ∷ []) vs

-- the sum of this number and these
abbrev pub total : ℤ → List ℤ → ℤ
total s [] = s
total s (v ∷ vs) = total (s +ℤ v) vs

-- each of the sums on the way is one of the numbers of a value
abbrev pub SumsFit : ℤ → List ℤ → Type 0
SumsFit s [] = Unit {0}
SumsFit s (v ∷ vs) = (is_i64 (s +ℤ v) ≡ true) × SumsFit (s +ℤ v) vs

-- what the root asks where it receives these values: it opens the channel, spawns the first child with it and its end,
-- receives and prints each value, and ends with their sum
abbrev pub root_asks : ℕ → List ℤ → List (ChatAsk Relay)
root_asks k vs = ask.Open k ∷ ask.Spawn (first_child k) the_channel the_channel
    ∷ (flat_map (λ v. ask.Recv 0 ∷ ask.Emit v ∷ []) vs ++ ask.End (total (pos 0) vs) ∷ [])

-- n sends, of the values from i on
abbrev pub sends_from : ℕ → ℕ → List (ChatAsk Relay)
sends_from i zero = []
sends_from i (suc n) = ask.Send 0 (pos i) ∷ sends_from (i + 1) n

-- what the first child asks: it sends the first half, and spawns the second child with the channel and its end
abbrev pub first_asks : ℕ → List (ChatAsk Relay)
first_asks k = sends_from 1 (k / 2)
    ++ ask.Spawn (second_child k) the_channel the_channel ∷ ask.End (pos 0) ∷ []

-- what the second child asks: it sends the rest
abbrev pub second_asks : ℕ → List (ChatAsk Relay)
second_asks k = sends_from (k / 2 + 1) (k - k / 2) ++ ask.End (pos 0) ∷ []

-- The tasks of a relay of k items ask this, one ask for each answer; what the children are answered makes no
-- difference.
pub record GivesRelay (k : ℕ) (r : Relay) : Type 0 where
  pub root : (vs : List ℤ) → length vs ≡ k → SumsFit (pos 0) vs
      → asks_given relay_asks relay_then r (root_answers vs) ≡ root_asks k vs
  pub first : (answers : List ChatAnswer) → length answers ≡ k / 2 + 2
      → asks_given relay_asks relay_then (first_child k) answers ≡ first_asks k
  pub second : (answers : List ChatAnswer) → length answers ≡ k - k / 2 + 1
      → asks_given relay_asks relay_then (second_child k) answers ≡ second_asks k
