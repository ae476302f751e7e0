use Rattle.std.proofs.Common.{List, take, ◌⊎◌}
use Rattle.tj_body.specs.Points.{IsIn}
use Rattle.tj_mean.specs.declared.outcome.Link.{Link}
use Rattle.tj_told.specs.Hearing.{Hears}
use Rattle.tj_told.specs.ToldNews.{IsCycleOf}
use Rattle.tj_told.specs.declared.news.News.{News}
use Rattle.tj_told.specs.declared.news.News.TheVariants as news
use Rattle.tj_told.proofs.settling.tell_rest.Given as goal

-- what was told is one of the cycles, or was told before; of the cycles those so far are told; the listener has
-- answered On each time
abbrev pub invariant-loop-cycle : goal.invariant-loop-cycle
invariant-loop-cycle g l = record {
  only : (n : News) → IsIn n l.telling.news → IsIn n l.fn.telling.news ⊎ IsCycleOf l.cycles n;
  all : (d : List Link) → IsIn d (take l.cycle-index l.cycles) → IsIn (news.Cycle d) l.telling.news;
  hears : (s : g.row.T.Denot) → Hears g.T.Listener.tells l.fn.telling.news s l.fn.telling.listener
      → Hears g.T.Listener.tells l.telling.news s l.telling.listener;
}
