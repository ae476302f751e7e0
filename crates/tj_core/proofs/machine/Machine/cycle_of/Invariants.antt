use Rattle.std.proofs.Common.{map}
use Rattle.tj_base.proofs.CycleWays.{IsOnWay}
use Rattle.tj_events.specs.WaitGraph.{Leads}
use Rattle.tj_core.specs.Inner.Machine.{state_of}
use Rattle.tj_core.proofs.machine.Machine.cycle_of.Given as goal

abbrev pub invariant-loop-step : goal.invariant-loop-step
invariant-loop-step l = IsOnWay (Leads (state_of l.self).cells) l.t l.at l._step (map (λ c. c.0) l.tasks.items)
