use Rattle.std.proofs.Common.{◌≡◌}
use Rattle.tj_told.specs.Hearing.{Hears}
use Rattle.tj_told.specs.Observers.{Observes}
use Rattle.tj_told.specs.SeenNews.{AreSeen}
use Rattle.tj_told.proofs.observer.observe.Given as goal

-- the seat is an observer's with its lot, and the listener has answered On each time
abbrev pub invariant-loop-i : goal.invariant-loop-i
invariant-loop-i g l = record {
  seat : Observes l.laid l.seat;
  seen : AreSeen l.watch.wanted l.fn.seat l.fn.telling.met.items l.fn.telling.news
      → AreSeen l.watch.wanted l.seat l.telling.met.items l.telling.news;
  lot : l.seat.me.0.lot ≡ l.fn.seat.me.0.lot;
  hears : AreSeen l.watch.wanted l.fn.seat l.fn.telling.met.items l.fn.telling.news
      → (s : g.row.T.Denot) → Hears g.T.Listener.tells l.fn.telling.news s l.fn.telling.listener
      → Hears g.T.Listener.tells l.telling.news s l.telling.listener;
}
