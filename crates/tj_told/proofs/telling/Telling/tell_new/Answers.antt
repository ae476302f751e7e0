use Rattle.std.proofs.Common.{sym}
use Rattle.tj_told.specs.declared.news.News.TheVariants as news
use Rattle.tj_told.proofs.Hearings.{adds_if, adds_none, is_in, not_in, only_added, told_goes, told_stops}
use Rattle.tj_told.proofs.telling.Telling.tell_new.Goals as goal

pub returns-then-has-clause-adds : goal.returns-then-has-clause-adds
returns-then-has-clause-adds g c =
    adds_none (news.Cycle c.args.links.now) c.args.self.now.news (is_in c.args.links.now c.args.self.now.news
    (sym c.if-has.ensures))

pub returns-clause-adds : goal.returns-clause-adds
returns-clause-adds g c =
    adds_if (news.Cycle c.args.links.now) c.args.self.now.news c.tell.new.self.news c.tell.result c.tell.ensures.news

pub returns-clause-goes : goal.returns-clause-goes
returns-clause-goes g c s h n = let e = c.tell.ensures in
    told_goes g.T.Listener.tells (news.Cycle c.args.links.now) c.args.self.now.news c.tell.new.self.news
    c.args.self.now.listener c.tell.new.self.listener s
    (not_in c.args.links.now c.args.self.now.news (sym c.if-has.ensures)) c.tell.result e.news e.tells
    e.listener e.same h n

pub returns-clause-stops : goal.returns-clause-stops
returns-clause-stops g c s h n = let e = c.tell.ensures in
    told_stops g.T.Listener.tells (news.Cycle c.args.links.now) c.args.self.now.news c.tell.new.self.news
    c.args.self.now.listener c.tell.new.self.listener s
    (not_in c.args.links.now c.args.self.now.news (sym c.if-has.ensures)) c.tell.result e.news e.tells h n

pub returns-clause-only : goal.returns-clause-only
returns-clause-only g c = only_added (news.Cycle c.args.links.now) c.args.self.now.news c.tell.new.self.news
    c.tell.result c.tell.ensures.news c.tell.ensures.same
