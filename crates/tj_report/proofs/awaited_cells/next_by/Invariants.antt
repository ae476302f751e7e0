use Rattle.std.proofs.Common.{take}
use Rattle.tj_report.specs.Inner.AwaitedCells.{AreNextBy}
use Rattle.tj_report.proofs.awaited_cells.next_by.Given as goal

-- the tasks so far
abbrev pub invariant-loop-t : goal.invariant-loop-t
invariant-loop-t g l =
    AreNextBy l.rest.cells l.rest.records l.ranks (take l.t-index l.order) l.next.items
