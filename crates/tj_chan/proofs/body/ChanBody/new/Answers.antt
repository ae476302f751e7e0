use Rattle.std.proofs.Common.{◌≡◌, ◌∙◌, List, [], sym, subst, ap}
use Rattle.tj_chan.specs.ChannelLaws.{rules_of, IsMeantByLists}
use Rattle.tj_chan.specs.declared.body.Due.TheVariants as due
use Rattle.tj_chan.specs.declared.rows.PromiseRow.{PromiseRow}
use Rattle.tj_chan.proofs.body.ChanBody.new.Goals as goal

pub returns-clause-lists : goal.returns-clause-lists
returns-clause-lists g c =
    let t = g.C.Chatter in
    let none : c.of.result ≡ [] = c.of.ensures ∙ c.new.ensures.items in
    subst
    (λ (rows : List PromiseRow). IsMeantByLists (rules_of t.channels t.awaits t.left t.asks t.then) c.args.root
    (record { chatter = c.args.root; rows = rows; places = 1; due = due.Start }))
    (sym none) (c.channels_are_lists.ensures c.args.root c.requires.root)

pub returns-clause-root : goal.returns-clause-root
returns-clause-root g c = ap
    (λ (rows : List PromiseRow). record { chatter = c.args.root; rows = rows; places = 1; due = due.Start })
    (c.of.ensures ∙ c.new.ensures.items)
