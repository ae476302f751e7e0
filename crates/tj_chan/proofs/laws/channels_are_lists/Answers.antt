use Rattle.tj_chan.specs.ChannelLaws.{rules_of}
use Rattle.tj_chan.specs.Inner.ChanBodyLaws.{chan_obeys}
use Rattle.tj_chan.proofs.Linked.Theorem.{lists_are_meant}
use Rattle.tj_chan.proofs.laws.channels_are_lists.Goals as goal

pub returns : goal.returns
returns g c =
    let t = g.C.Chatter in
    let rules = rules_of t.channels t.awaits t.left t.asks t.then in
    let lawful = (g.met.C.Chatter g.world.𝓛 g.world.𝓜 g.world.𝓡 ((λ s x. x), (λ x. x), (λ x. x), λ x. x)).obeys in
    lists_are_meant rules lawful (chan_obeys rules lawful)
