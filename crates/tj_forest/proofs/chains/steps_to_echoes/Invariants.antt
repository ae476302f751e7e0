use Rattle.std.proofs.Common.{None}
use Rattle.std.specs.Prelude.{option_and_then, slice_get}
use Rattle.tj_findings.specs.Forests.{echo_before}
use Rattle.tj_forest.specs.Inner.Jumps.{AreEach}
use Rattle.tj_forest.specs.Inner.Numbers.{IsNumberOf}
use Rattle.tj_forest.proofs.chains.steps_to_echoes.Given as goal

-- the steps from the lines so far
abbrev pub invariant-loop-step : goal.invariant-loop-step
invariant-loop-step l =
    AreEach (λ n s. IsNumberOf l.lookups.lines.now s (option_and_then (echo_before l.lookups.lines.now)
    (slice_get l.lookups.lines.now n))) (λ n. None) l.step-index l.steps.items
