use Rattle.std.proofs.Common.{◌≡◌, ◌∙◌, sym, subst, ap}
use Rattle.std.specs.Prelude.{IfOk}
use Rattle.tj_chan.specs.Chats.{IsChatAsk}
use Rattle.tj_chan.specs.Channels.{ChatRules}
use Rattle.tj_chan.specs.ChannelLaws.{rules_of}
use Rattle.tj_chan.specs.ChanBodies.{ask_turn, turn_at, counted}
use Rattle.tj_chan.specs.Inner.ChanBodyLaws.{IsTold, waiting, left_at, told_fits}
use Rattle.tj_chan.specs.Inner.Replies.{opened}
use Rattle.tj_chan.proofs.Turns.{few_of, with_places, turn_of_ask}
use Rattle.tj_chan.proofs.body.ChanBodyBody.next.Given.{Over}
use Rattle.tj_chan.proofs.body.ChanBodyBody.next.Goals as goal

-- what the chatter goes by
abbrev rules : (g : Over) → ChatRules g.row.C.Denot
rules g = let x = g.C.Chatter in rules_of x.channels x.awaits x.left x.asks x.then

-- what the chatter is told fits it, and the body is as it should be
fits : (g : Over) (c : goal.After-asked-arg-1 g)
    → IsTold (rules g) (left_at (rules g) c.args.self.now c.args.self.now.due) c.in-Some.told c.told.new.self
fits g c = let b = c.args.self.now in let w = waiting (rules g) b c.args.a c.requires.fits in
    subst (IsTold (rules g) (left_at (rules g) b b.due) c.in-Some.told)
    (ap (λ k. opened b.due (with_places k b)) (sym c.new_places.ensures.value) ∙ sym c.in_ok-told.ensures.body)
    (told_fits (rules g) b c.args.a b.due w.0 w.1 c.in-Some.told (sym c.in_ok-told.ensures.told ∙ c.in-Some.is))

pub asked-requires-clause-few : goal.asked-requires-clause-few
asked-requires-clause-few g c = let x = g.C.Chatter in
    let n = g.met.C.Chatter.obeys c.told.new.self.chatter c.in-Some.told (fits g c).fits in
    few_of x.channels x.awaits x.left c.in_ok-ask-in-Some.ask
    (subst (IsChatAsk x.channels x.awaits x.left) (sym c.in_ok-ask-in-Some.ensures.ask) n.placed)

pub asked-requires-clause-rows : goal.asked-requires-clause-rows
asked-requires-clause-rows g c = (fits g c).leads

pub asked-requires-clause-places : goal.asked-requires-clause-places
asked-requires-clause-places g c = (fits g c).rows

-- the chatter's ask makes the turn
makes_turn : (g : Over) (c : goal.After-asked g)
    → ask_turn c.in_ok-ask-in-Some.ask (record c.told.new.self { chatter = c.next.new.self })
    ≡ turn_at (rules g) c.args.self.now.due c.args.a (counted c.args.a c.args.self.now)
makes_turn g c = turn_of_ask (rules g) c.args.self.now c.args.a c.new_places.result c.in-Some.told c.told.new.self
    c.next.new.self c.in_ok-ask-in-Some.ask c.new_places.ensures.value (sym c.in_ok-told.ensures.told ∙ c.in-Some.is)
    c.in_ok-told.ensures.body c.in_ok-ask-in-Some.ensures.ask c.in_ok-ask-in-Some.ensures.body

pub returns-in_ok-ask-in-Some-clause-ask : goal.returns-in_ok-ask-in-Some-clause-ask
returns-in_ok-ask-in-Some-clause-ask g c =
    subst (λ z. IfOk c.asked.result (λ ask. ask ≡ z.ask)) (makes_turn g c) c.asked.ensures.ask

pub returns-in_ok-ask-in-Some-clause-body : goal.returns-in_ok-ask-in-Some-clause-body
returns-in_ok-ask-in-Some-clause-body g c =
    subst (λ z. IfOk c.asked.result (λ _. c.asked.new.self ≡ z.body)) (makes_turn g c) c.asked.ensures.body
