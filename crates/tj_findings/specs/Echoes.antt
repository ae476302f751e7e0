-- Failures that only echo another: from which task's end they came.
use Rattle.std.specs.Prelude.{ℕ, List, Option, Some, None, option_and_then}
use Rattle.std.specs.Option.{option_map, option_or}
use Rattle.tj_base.specs.ForkOrder.{Name}
use Rattle.tj_base.specs.declared.cause.Cause.{Cause}
use Rattle.tj_base.specs.declared.cause.Cause.TheVariants as cause
use Rattle.tj_mean.specs.declared.outcome.Ending.{Ending}
use Rattle.tj_mean.specs.declared.outcome.Ending.TheVariants as ending
use Rattle.tj_trace.specs.declared.line.TraceLine.{TraceLine}
use Rattle.tj_findings.specs.Onward.{onward}
use Rattle.tj_findings.specs.Searches.{line_of, owner_of}

-- the cell whose being broken is the cause
abbrev pub echoed : Cause → Option Name
echoed cause.Arith = None
echoed cause.Kind = None
echoed cause.Steps = None
echoed (cause.Owner q) = None
echoed (cause.Broken q) = Some q
echoed (cause.Order q) = None

-- the same of what became of a task
abbrev pub echoed_by : Ending → Option Name
echoed_by (ending.Done v) = None
echoed_by (ending.Failed c) = echoed c
echoed_by (ending.Waits q) = None

-- a run of 2 ^ 20 cells has 2 ^ 21 + 1 rounds, and each step comes to an earlier one: so often are the steps doubled
unfoldable pub most_doublings : ℕ
most_doublings = 21

module _ (lines : List TraceLine) where
  -- the line of the task whose end broke the cell: it is a promise that the task owed, or its result
  abbrev pub breaker : Name → Option TraceLine
  breaker q = option_or (owner_of lines q) (line_of lines q)

  -- the line of the task from whose end the failure of this one came, where it is an echo
  abbrev pub back : TraceLine → Option TraceLine
  back l = option_and_then breaker (echoed_by l.line.ending)

  -- back from a line in 2 ^ k steps, or as far as the steps lead
  abbrev pub back_by : ℕ → TraceLine → TraceLine
  back_by = onward back

  -- the line of the task from whose end the cell's being broken came at first
  abbrev pub origin : Name → Option TraceLine
  origin q = option_map (back_by most_doublings) (breaker q)
