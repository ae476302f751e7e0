use Rattle.std.proofs.Common.{ap, sym, ◌∙◌}
use Rattle.std.specs.List.{list_any}
use Rattle.tj_told.specs.ToldNews.{is_value}
use Rattle.tj_told.specs.declared.news.News.TheVariants as news
use Rattle.tj_told.proofs.Hearings.{only_added, told_goes, told_stops, value_new}
use Rattle.tj_told.proofs.telling.Telling.tell_value.Goals as goal

pub returns-clause-only : goal.returns-clause-only
returns-clause-only g c = only_added (news.Value c.args.name.now c.args.value.now) c.args.self.now.news
    c.add_value.new.self.news c.add_value.result c.add_value.ensures.news c.add_value.ensures.same

pub returns-clause-goes : goal.returns-clause-goes
returns-clause-goes g c s h n = let e = c.add_value.ensures in let q = c.args.name.now in let v = c.args.value.now in
    told_goes g.T.Listener.tells (news.Value q v) c.args.self.now.news c.add_value.new.self.news
    c.args.self.now.listener c.add_value.new.self.listener s
    (value_new q v c.args.self.now.news
    (sym (c.if-has_value.ensures ∙ ap (λ l. list_any is_value l) c.items.ensures))) c.add_value.result e.news e.tells
    e.listener e.same h n

pub returns-clause-stops : goal.returns-clause-stops
returns-clause-stops g c s h n = let e = c.add_value.ensures in let q = c.args.name.now in let v = c.args.value.now in
    told_stops g.T.Listener.tells (news.Value q v) c.args.self.now.news c.add_value.new.self.news
    c.args.self.now.listener c.add_value.new.self.listener s
    (value_new q v c.args.self.now.news
    (sym (c.if-has_value.ensures ∙ ap (λ l. list_any is_value l) c.items.ensures))) c.add_value.result e.news e.tells
    h n
