-- What the lines of a trace tell of an outcome.
use Rattle.std.specs.Prelude.{ℕ, List}
use Rattle.tj_body.specs.Programs.{Program}
use Rattle.tj_mean.specs.declared.stopped.Stopped.{Stopped}
use Rattle.tj_trace.specs.Logs.{Logged}
use Rattle.tj_trace.specs.Traces.{AreTraced}
use Rattle.tj_trace.specs.declared.line.TraceLine.{TraceLine}

-- what a line tells for the outcome: the task's own line, and the promises that it holds where it waits
abbrev pub stopped_in : TraceLine → Stopped
stopped_in l = record { line = l.line; holds = l.holds }

-- the lines are the trace of a meaning
abbrev pub IsTrace : List TraceLine → Type 0
IsTrace lines = (program : Program Logged) × (N : ℕ) × AreTraced program N lines
