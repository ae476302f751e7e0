use Rattle.std.proofs.Common.{map, take}
use Rattle.tj_mean.proofs.AgendaSteps.{IsWoken}
use Rattle.tj_mean.proofs.agenda.Agenda.wake.Given as goal

-- the cells so far wake those that wait for them
abbrev pub invariant-loop-cell : goal.invariant-loop-cell
invariant-loop-cell l = IsWoken l.initial.self l.self (map (λ w. w.0) (take l.cell-index l.writes))
