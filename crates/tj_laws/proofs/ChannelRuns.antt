-- The laws of channels say something: a relay of two items, whose second item is sent by the second holder of the end.
use Rattle.std.proofs.Common.{◌≡◌, ◌<◌, ◌∙◌, ℕ, zero, suc, [], length, pos, refl, sym, ap, subst, arith}
use Rattle.std.specs.List.{flat_map}
use Rattle.tj_body.specs.Rounds.{last_round}
use Rattle.tj_chan.specs.Channels.{Channel, ChatRules, Lists}
use Rattle.tj_chan.specs.ChannelLaws.{IsRootChat, chats_of, rules_of}
use Rattle.tj_chan.specs.ChannelRounds.{ChatProgram, IsChatFull, chat_cells, chat_cells_by, chat_family, left_by}
use Rattle.tj_chan.specs.ChannelRounds.{lists_at, root_chat, state_in}
use Rattle.tj_chan.specs.Relays.{relay_asks, relay_awaits, relay_channels, relay_left, relay_then, root_relay}
use Rattle.tj_chan.specs.declared.relay.Relay.{Relay}
use Rattle.tj_laws.specs.ChannelSends.{Gives}

-- what the tasks of a relay go by
abbrev relays : ChatRules Relay
relays = rules_of relay_channels relay_awaits relay_left relay_asks relay_then

-- a relay of two items: the first child sends the first one, and its child the second
abbrev of_two : ChatProgram Relay
of_two = chats_of relays (root_relay 2)

-- its root is fit for a root
two_fits : IsRootChat relays (root_relay 2)
two_fits = record { has_places = refl; begins = refl; ends = omega arith }

-- the channel of its two items
abbrev the_items : Channel
the_items = record { opener = []; made_before = 0; items = 2 }

-- from round 2 on its lists are the same
settled : (m : ℕ) → lists_at of_two (suc (suc m)) ≡ lists_at of_two 2
settled zero = refl
settled (suc m) =
    let same : state_in (flat_map (left_by relays (lists_at of_two 2))
    (chat_family relays (lists_at of_two 2) (suc (suc (suc m))) (root_chat (root_relay 2))))
    ≡ lists_at of_two 2 = refl in
    ap (λ (L : Lists). state_in (flat_map (left_by relays L)
    (chat_family relays L (suc (suc (suc m))) (root_chat (root_relay 2))))) (settled m) ∙ same

-- and it has five cells: three tasks and two items
five_cells : (m : ℕ) → length (chat_cells of_two (suc (suc (suc m)))) ≡ 5
five_cells m =
    let five : length (flat_map (chat_cells_by relays (lists_at of_two 2))
    (chat_family relays (lists_at of_two 2) (suc (suc (suc m))) (root_chat (root_relay 2)))) ≡ 5 = refl in
    ap (λ (L : Lists). length (flat_map (chat_cells_by relays L)
    (chat_family relays L (suc (suc (suc m))) (root_chat (root_relay 2))))) (settled m) ∙ five

-- so with five cells its meaning isn't full
not_full : ¬ IsChatFull of_two 5
not_full h = let l : 5 < 5 = subst (λ n. 5 < n) (five_cells 8) h in omega arith

-- its root is answered the second item
second_given : Gives relays (lists_at of_two 2) (root_chat (root_relay 2)) the_items 1 (pos 2)
second_given = record { steps = 6; waits = refl; answered_then = refl }

-- and so it is in the meaning
pub second_meant : Gives relays (lists_at of_two (last_round 5)) (root_chat (root_relay 2)) the_items 1 (pos 2)
second_meant =
    subst (λ (L : Lists). Gives relays L (root_chat (root_relay 2)) the_items 1 (pos 2)) (sym (settled 9)) second_given
