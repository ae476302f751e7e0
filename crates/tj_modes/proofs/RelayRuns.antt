-- The relay: its outcome over promises is that of channels as lists, and lists have one.
use Rattle.tj_modes.proofs.Prelude.{HasOneOutcome, IsChatOutcome, IsRunOf, List, Outcome, Point, Report, Status}
use Rattle.tj_modes.proofs.Prelude.{chat_meaning, ended, full, meaning, root_body, ℕ, ◌<◌}
use Rattle.std.proofs.Common.{◌≡◌, ◌≤◌, false, arith, le-leb, lt-ltb, refl, subst}
use Rattle.tj_chan.specs.ChannelLaws.{ChannelsAreLists, IsMeantByLists, bodies_of}
use Rattle.tj_chan.specs.Chats.{IsFreshChat}
use Rattle.tj_chan.specs.Relays.{relay_awaits, relay_channels, relay_left, root_relay}
use Rattle.tj_chan.specs.declared.body.ChanBody.{ChanBody}
use Rattle.tj_chan.specs.declared.relay.Relay.{Relay}
use Rattle.tj_modes.specs.RelayRuns.{IsRelayRun, ends, needs_more, relay_chats, relay_rules, relay_start}

-- what the run over promises gives is what channels as lists give
pub by_lists : (size cells : ℕ) → IsMeantByLists relay_rules (root_relay size) (root_body (root_relay size))
    → (status : Status) (text : List ℕ) → IsRunOf Report (relay_start size cells) status text
    → IsRelayRun size cells status text
by_lists size cells meant status text (full more) = needs_more ((meant false cells).0.0 more)
by_lists size cells meant status text (ended outcome fits is) =
    ends outcome (λ more. fits ((meant false cells).0.1 more)) (((meant false cells).1 outcome).0 is)

-- a body that is the root's means what channels as lists say
pub meant_named : (size : ℕ) (chat : Relay) (root : ChanBody Relay) → chat ≡ root_relay size → root ≡ root_body chat
    → IsMeantByLists relay_rules chat root
    → IsMeantByLists relay_rules (root_relay size) (root_body (root_relay size))
meant_named size chat root e f meant = subst (λ r. IsMeantByLists relay_rules r (root_body r)) e
    (subst (IsMeantByLists relay_rules chat) f meant)

-- the root of a relay has asked nothing yet
pub fresh_root : (size : ℕ) → 0 < size → size ≤ 4000
    → IsFreshChat relay_channels relay_awaits relay_left 0 (root_relay size)
fresh_root size some few = record {
  has_places = refl;
  begins = rw (lt-ltb 0 size some, le-leb size 4000 few) refl;
  ends = omega arith;
}

-- lists have one outcome
pub one_by_lists : ChannelsAreLists relay_rules → ((ps : List (Point (ChanBody Relay))) → HasOneOutcome ps)
    → (size cells : ℕ) → 0 < size → size ≤ 4000 → (a b : Outcome)
    → IsChatOutcome (chat_meaning (relay_chats size) cells) a
    → IsChatOutcome (chat_meaning (relay_chats size) cells) b → a ≡ b
one_by_lists lists one size cells some few a b h k =
    let meant = lists (root_relay size) (fresh_root size some few) in
    one (meaning (bodies_of relay_rules false (root_body (root_relay size))) cells) a b
    (((meant false cells).1 a).1 h) (((meant false cells).1 b).1 k)
