use Rattle.tj_mean.specs.Inner.Assignments.{assignment_in}
use Rattle.tj_mean.proofs.AtWork.EnteredCells.{enters_more}
use Rattle.tj_mean.proofs.handed_on.enter_all.Goals as goal

pub loop-cell-preserved : goal.loop-cell-preserved
loop-cell-preserved c =
    enters_more c.loop-cell.yielded (assignment_in c.args.given.now) (assignment_in c.loop-cell.given)
    (assignment_in c.put.new.self) c.in-Some.cell c.in-Some.became c.in_ok-put.ensures c.loop-cell.invariant
