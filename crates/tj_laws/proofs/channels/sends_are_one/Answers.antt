use Rattle.tj_chan.specs.ChannelLaws.{rules_of}
use Rattle.tj_laws.proofs.SentOnce.{meant_sent, sends_once}
use Rattle.tj_laws.proofs.channels.sends_are_one.Goals as goal

pub returns : goal.returns
returns g c =
    let t = g.C.Chatter in
    let rules = rules_of t.channels t.awaits t.left t.asks t.then in
    let lawful = (g.met.C.Chatter g.world.𝓛 g.world.𝓜 g.world.𝓡 ((λ s x. x), (λ x. x), (λ x. x), λ x. x)).obeys in
    record { once = sends_once rules lawful; meant = meant_sent rules lawful }
