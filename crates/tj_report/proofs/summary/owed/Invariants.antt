use Rattle.std.proofs.Common.{◌≡◌, length, ◌*◌, ◌≤◌, ◌^◌, take}
use Rattle.std.specs.List.{sum_by}
use Rattle.tj_report.proofs.summary.owed.Given as goal

-- the sum so far, which is small enough for one more
abbrev pub invariant-loop-line : goal.invariant-loop-line
invariant-loop-line l =
    (l.owed ≡ sum_by (λ s. length s.owes) (take l.line-index l.lines)) × (l.owed ≤ l.line-index * 2 ^ 63)
