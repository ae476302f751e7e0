use Rattle.std.proofs.Common.{ap, Bool, Global, Vec}
use Rattle.tj_told.specs.declared.news.News.TheVariants as news
use Rattle.tj_told.proofs.Climbing.{looks_itself}
use Rattle.tj_told.proofs.Hearings.{hears_same, only_added, told_goes, told_stops}
use Rattle.tj_told.proofs.KeptNews.{met_on, news_unmet, seen_broken, seen_on, with_broken}
use Rattle.tj_told.proofs.observer.look_at_broken.Goals as goal

pub returns-in_err-meet-clause-seat : goal.returns-in_err-meet-clause-seat
returns-in_err-meet-clause-seat g c = looks_itself c.args.seat.now

pub returns-in_err-meet-clause-seen : goal.returns-in_err-meet-clause-seen
returns-in_err-meet-clause-seen g c wanted h = let t = c.args.telling.now in let m = c.in_err-meet in
    met_on c.args.seat.now t.met.items t.news h c.meet.new.self.met.items m.ensures.kept c.meet.new.self.news
    m.ensures.news

pub returns-in_err-name-clause-seen : goal.returns-in_err-name-clause-seen
returns-in_err-name-clause-seen g c wanted h = let t = c.args.telling.now in let m = c.in_ok-meet in
    let n = c.name_beside.new.seat in
    met_on n t.met.items t.news (seen_on c.args.seat.now n t.met.items t.news c.name_beside.ensures.seat h)
    c.meet.new.self.met.items m.ensures.kept c.meet.new.self.news m.ensures.news

pub returns-clause-seen : goal.returns-clause-seen
returns-clause-seen g c wanted h = let t = c.args.telling.now in let m = c.in_ok-meet in
    let n = c.name_beside.new.seat in
    let w = c.meet.new.self in let x = c.tell_broken in let q = c.in_ok-name.name in
    with_broken n w.met.items w.news
    (met_on n t.met.items t.news (seen_on c.args.seat.now n t.met.items t.news c.name_beside.ensures.seat h) w.met.items
    m.ensures.kept w.news m.ensures.news) x.new.self.news x.new.self.met.items
    (ap (λ (v : Vec Bool Global). v.items) x.ensures.met) c.args.c.0 q
    (only_added (news.Broken q) w.news x.new.self.news x.result x.ensures.news x.ensures.same) m.ensures.met
    (seen_broken c.args.laid.now.cells c.args.c.0 q c.args.seat.now n c.name_beside.ensures.seat c.requires.broken
    c.in_ok-name.ensures.name c.in_ok-name.ensures.seen)

pub returns-clause-goes : goal.returns-clause-goes
returns-clause-goes g c wanted seen s h says = let t = c.args.telling.now in let m = c.in_ok-meet in let w =
    c.meet.new.self in
    let x = c.tell_broken in let q = c.in_ok-name.name in
    told_goes g.T.Listener.tells (news.Broken q) w.news x.new.self.news w.listener x.new.self.listener s
    (news_unmet c.args.laid.now.cells c.args.c.0 q c.args.seat.now c.name_beside.new.seat t.met.items t.news w.news
    m.ensures.news c.name_beside.ensures.seat c.requires.broken c.requires.unmet c.in_ok-name.ensures.name seen)
    x.result x.ensures.news x.ensures.tells x.ensures.listener x.ensures.same
    (hears_same g.T.Listener.tells t.news w.news s t.listener w.listener m.ensures.news m.ensures.listener h) says

pub returns-clause-stops : goal.returns-clause-stops
returns-clause-stops g c wanted seen s h is = let t = c.args.telling.now in let m = c.in_ok-meet in
    let w = c.meet.new.self in let x = c.tell_broken in let q = c.in_ok-name.name in
    told_stops g.T.Listener.tells (news.Broken q) w.news x.new.self.news w.listener x.new.self.listener s
    (news_unmet c.args.laid.now.cells c.args.c.0 q c.args.seat.now c.name_beside.new.seat t.met.items t.news w.news
    m.ensures.news c.name_beside.ensures.seat c.requires.broken c.requires.unmet c.in_ok-name.ensures.name seen)
    x.result x.ensures.news x.ensures.tells
    (hears_same g.T.Listener.tells t.news w.news s t.listener w.listener m.ensures.news m.ensures.listener h) is
