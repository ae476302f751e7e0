use Rattle.std.proofs.Common.{◌≡◌, ◌+◌, ℕ, false, get_or, length}
use Rattle.tj_told.proofs.telling.Telling.meet.Given as goal

-- flags were added that are false
abbrev pub invariant-loop-i : goal.invariant-loop-i
invariant-loop-i g l = record {
  listener : l.self.listener ≡ l.fn.self.listener;
  news : l.self.news ≡ l.fn.self.news;
  same : (c : ℕ) → get_or l.self.met.items c false ≡ get_or l.fn.self.met.items c false;
  long : length l.self.met.items ≡ length l.fn.self.met.items + l._i;
}
