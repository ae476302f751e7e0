-- The turn of a body whose chatter was told something and has asked.
use Rattle.std.proofs.Common.{◌≡◌, ℕ, ◌+◌, sym, ap, ◌∙◌, length}
use Rattle.std.specs.Prelude.{Some}
use Rattle.tj_body.specs.Asks as asks
use Rattle.tj_body.specs.declared.ask.Answer.{Answer}
use Rattle.tj_chan.specs.Chats.{Await, IsChatAsk}
use Rattle.tj_chan.specs.Channels.{ChatRules}
use Rattle.tj_chan.specs.ChanBodies.{ask_turn, turn_at, counted}
use Rattle.tj_chan.specs.Inner.Replies.{IsFew, told_at, opened}
use Rattle.tj_chan.specs.Inner.ChanBodyLaws.{turn_told}
use Rattle.tj_chan.specs.declared.body.ChanBody.{ChanBody}
use Rattle.tj_chan.specs.declared.chat.ChatAnswer.{ChatAnswer}
use Rattle.tj_chan.specs.declared.chat.ChatAsk.{ChatAsk}
use Rattle.tj_chan.specs.declared.chat.ChatAsk.TheVariants as chat

-- an allowed ask is one that a body can ask
pub few_of : {C : Type 0} (channels : C → ℕ) (awaits : C → Await) (left : C → ℕ) (x : ChatAsk C)
    → IsChatAsk channels awaits left x → IsFew x
few_of channels awaits left (chat.Open k) h = h.0
few_of channels awaits left (chat.Spawn b pass give) h = h.few
few_of channels awaits left x h = tt

-- the body with so many places more
abbrev pub with_places : {C : Type 0} → ℕ → ChanBody C → ChanBody C
with_places n b = record b { places = b.places + n }

-- the ask of a chatter that was told this makes the turn
pub turn_of_ask : {C : Type 0} (rules : ChatRules C) (b : ChanBody C) (a : Answer) (added : ℕ) (t : ChatAnswer)
    (s : ChanBody C) (n : C) (x : ChatAsk C) → added ≡ asks.new_places a → told_at b.due a (length b.rows) ≡ Some t
    → s ≡ opened b.due (with_places added b) → x ≡ rules.asks s.chatter t → n ≡ rules.then s.chatter t
    → ask_turn x (record s { chatter = n }) ≡ turn_at rules b.due a (counted a b)
turn_of_ask rules b a added t s n x places told is asked next =
    ap (λ y. ask_turn y (record s { chatter = n })) asked
    ∙ ap (λ m. ask_turn (rules.asks s.chatter t) (record s { chatter = m })) next
    ∙ ap (λ z. ask_turn (rules.asks z.chatter t) (record z { chatter = rules.then z.chatter t })) is
    ∙ ap (λ k. ask_turn (rules.asks (opened b.due (with_places k b)).chatter t) (record (opened b.due (with_places k b))
    { chatter = rules.then (opened b.due (with_places k b)).chatter t })) places
    ∙ sym (turn_told rules b.due a (counted a b) t told)
