use Rattle.std.proofs.Common.{◌≡◌, ◌≤◌, All, length}
use Rattle.tj_ready.proofs.locked.LockedPoolPool.make.Given as goal

abbrev pub invariant-loop-i : goal.invariant-loop-i
invariant-loop-i g l = (length l.ends.items ≡ l._i) × (l._i ≤ l.workers) × All (λ end. end.cells ≡ l.cells) l.ends.items
