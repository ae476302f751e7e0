use Rattle.std.proofs.Common.{◌≡◌, ◌≤◌, ◌<◌, length}
use Rattle.tj_told.proofs.LeastLinks.{IsLeastBefore}
use Rattle.tj_told.proofs.links.from_least.Given as goal

-- no link before this one has a lesser name
abbrev pub invariant-loop-i : goal.invariant-loop-i
invariant-loop-i l = (l.least ≤ l.i) × (l.i-end ≡ length l.links.items)
    × IsLeastBefore l.links.items l.least l.i × (0 < length l.links.items → l.least < length l.links.items)
