use Rattle.std.proofs.Common.{None}
use Rattle.std.specs.Prelude.{option_and_then, slice_get}
use Rattle.tj_forest.specs.Inner.Jumps.{AreEach}
use Rattle.tj_forest.specs.Inner.Numbers.{IsNumberOf}
use Rattle.tj_forest.specs.Inner.Ways.{next}
use Rattle.tj_forest.proofs.chains.steps_of.Given as goal

-- the steps from the lines so far
abbrev pub invariant-loop-line : goal.invariant-loop-line
invariant-loop-line l =
    AreEach (λ n s. IsNumberOf l.lookups.lines.now s (option_and_then (next l.way l.lookups.lines.now)
    (slice_get l.lookups.lines.now n))) (λ n. None) l.line-index l.steps.items
