use Rattle.tj_told.specs.Hearing.{Hears}
use Rattle.tj_told.specs.Observers.{LooksOn}
use Rattle.tj_told.specs.SeenNews.{AreSeen}
use Rattle.tj_told.proofs.observer.look.Given as goal

-- the seat knows what it knew, and the listener has answered On each time
abbrev pub invariant-loop-c : goal.invariant-loop-c
invariant-loop-c g l = record {
  looks : LooksOn l.fn.seat l.seat;
  seen : AreSeen l.wanted l.fn.seat l.fn.telling.met.items l.fn.telling.news
      → AreSeen l.wanted l.seat l.telling.met.items l.telling.news;
  hears : AreSeen l.wanted l.fn.seat l.fn.telling.met.items l.fn.telling.news
      → (s : g.row.T.Denot) → Hears g.T.Listener.tells l.fn.telling.news s l.fn.telling.listener
      → Hears g.T.Listener.tells l.telling.news s l.telling.listener;
}
