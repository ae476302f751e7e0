use Rattle.std.proofs.Common.{◌≡◌, length}
use Rattle.tj_report.proofs.CellRanks.{AreRanksTo}
use Rattle.tj_report.proofs.awaited_cells.ranks_of.Given as goal

-- the cells before this index have theirs
abbrev pub invariant-loop-i : goal.invariant-loop-i
invariant-loop-i l = (length l.ranks.items ≡ l.fn.cells) × AreRanksTo l.i l.order l.ranks.items
