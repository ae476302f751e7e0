use Rattle.tj_report.specs.Inner.WalkedReports.{AreToldBelow}
use Rattle.tj_report.proofs.rest_report.are_told.Given as goal

-- the tasks of the cells before are told
abbrev pub invariant-loop-c : goal.invariant-loop-c
invariant-loop-c g l = AreToldBelow l.c l.rest.records l.told
