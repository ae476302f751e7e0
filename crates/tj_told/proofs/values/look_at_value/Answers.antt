use Rattle.std.proofs.Common.{ap, Bool, Global, Vec}
use Rattle.tj_told.specs.SeenNews.{HasSeenValue}
use Rattle.tj_told.proofs.KeptNews.{met_on, seen_on, with_value}
use Rattle.tj_told.proofs.Observing.{of_some}
use Rattle.tj_told.proofs.values.look_at_value.Goals as goal

pub returns-in_err-meet-clause-seen : goal.returns-in_err-meet-clause-seen
returns-in_err-meet-clause-seen g c h = let t = c.args.telling.now in let m = c.in_err-meet in
    met_on c.args.seat.now t.met.items t.news h c.meet.new.self.met.items m.ensures.kept c.meet.new.self.news
    m.ensures.news

pub returns-in_err-value-clause-seen : goal.returns-in_err-value-clause-seen
returns-in_err-value-clause-seen g c h = let t = c.args.telling.now in let m = c.in_ok-meet in
    let n = c.value_if_named.new.seat in
    met_on n t.met.items t.news (seen_on c.args.seat.now n t.met.items t.news c.value_if_named.ensures.seat h)
    c.meet.new.self.met.items m.ensures.kept c.meet.new.self.news m.ensures.news

pub returns-in-None-clause-seen : goal.returns-in-None-clause-seen
returns-in-None-clause-seen g c h = let t = c.args.telling.now in let m = c.in_ok-meet in
    let n = c.value_if_named.new.seat in
    met_on n t.met.items t.news (seen_on c.args.seat.now n t.met.items t.news c.value_if_named.ensures.seat h)
    c.meet.new.self.met.items m.ensures.kept c.meet.new.self.news m.ensures.news

pub returns-in-Some-2-clause-seen : goal.returns-in-Some-2-clause-seen
returns-in-Some-2-clause-seen g c h = let t = c.args.telling.now in let m = c.in_ok-meet in
    let n = c.value_if_named.new.seat in let w = c.meet.new.self in let x = c.tell_value in
    let q = c.in-Some.name in let v = c.in-Some-2.value in
    with_value n w.met.items w.news
    (met_on n t.met.items t.news (seen_on c.args.seat.now n t.met.items t.news c.value_if_named.ensures.seat h)
    w.met.items m.ensures.kept w.news m.ensures.news) x.new.self.news x.new.self.met.items
    (ap (λ (z : Vec Bool Global). z.items) x.ensures.met) c.args.c.0 q v x.ensures.only c.in-Some.is
    (of_some (λ z. HasSeenValue c.args.c.0 q z n.me.0) c.in_ok-value.field-0 v c.in-Some-2.is
    c.in_ok-value.ensures.value)
