-- What went wrong with a run: the list of findings, by the lines of its trace and the cycles of its wait graph.
use Rattle.std.specs.Prelude.{Bool, true, false, not, cond, List, [], ◌∷◌, ◌++◌, map, Option, Some, None}
use Rattle.std.specs.List.{flat_map, list_any}
use Rattle.std.specs.Option.{option_map}
use Rattle.tj_base.specs.ForkOrder.{Name}
use Rattle.tj_base.specs.declared.cause.Cause.{Cause}
use Rattle.tj_base.specs.declared.cause.Cause.TheVariants as cause
use Rattle.tj_body.specs.Names.{has}
use Rattle.tj_mean.specs.declared.outcome.Ending.{Ending}
use Rattle.tj_mean.specs.declared.outcome.Ending.TheVariants as ending
use Rattle.tj_mean.specs.declared.outcome.Link.{Link}
use Rattle.tj_trace.specs.declared.line.Maker.{Maker}
use Rattle.tj_trace.specs.declared.line.TraceLine.{TraceLine}
use Rattle.tj_findings.specs.Echoes.{origin}
use Rattle.tj_findings.specs.Searches.{line_of, maker_of, owner_of}
use Rattle.tj_findings.specs.Went.{went_at}
use Rattle.tj_findings.specs.declared.finding.Finding.{Finding}
use Rattle.tj_findings.specs.declared.finding.Finding.TheVariants as finding
use Rattle.tj_findings.specs.declared.finding.Stop.{Stop}
use Rattle.tj_findings.specs.declared.finding.Stop.TheVariants as stop
use Rattle.tj_findings.specs.declared.finding.ToldCell.{ToldCell}
use Rattle.tj_findings.specs.declared.finding.ToldTask.{ToldTask}
use Rattle.tj_findings.specs.declared.finding.Wait.{Wait}

-- how a task stopped
abbrev pub stop_of : Ending → Stop
stop_of (ending.Done v) = stop.Ended
stop_of (ending.Failed c) = stop.Failed
stop_of (ending.Waits q) = stop.Waits

-- the task is a member of one of the cycles
abbrev pub is_member : List (List Link) → Name → Bool
is_member cycles x = list_any (λ links. has x (map (λ k. k.task) links)) cycles

-- the promises of such a task are asked for: of one that ended, or of one that failed
abbrev pub is_owing : Bool → Ending → Bool
is_owing ended (ending.Done v) = ended
is_owing ended (ending.Failed c) = not ended
is_owing ended (ending.Waits q) = not ended

module _ (lines : List TraceLine) where
  -- the task with this line: its fork, where and how it stopped, its arguments, where the promise went for which it
  -- failed, and what its variables held as it failed
  abbrev pub told_task : TraceLine → ToldTask
  told_task l = record {
    name = l.line.name;
    decl = l.decl;
    fork = maker_of lines l.line.name;
    stop = stop_of l.line.ending;
    at = l.at;
    began = l.began;
    went = went_at lines l l.line.ending;
    held = l.held;
  }

  -- the cell with this name, with the statement that made it
  abbrev pub told_cell : Name → ToldCell
  told_cell q = record { name = q; maker = maker_of lines q }

  -- the wait of the task with this line for this cell, and who owns that
  abbrev pub told_wait : TraceLine → Name → Wait
  told_wait l q = record {
    task = told_task l;
    cell = told_cell q;
    owner = option_map (λ o. o.line.name) (owner_of lines q);
  }

  -- the same where the task has a line
  abbrev pub wait_by : Name → Option TraceLine → List Wait
  wait_by q None = []
  wait_by q (Some l) = told_wait l q ∷ []

  -- the wait of a link of a cycle
  abbrev pub link_wait : Link → List Wait
  link_wait k = wait_by k.cell (line_of lines k.task)

  -- a cycle, with the wait of each of its links
  abbrev pub told_cycle : List Link → Finding
  told_cycle links = finding.Cycle (flat_map link_wait links)

  -- the wait of a task that stopped so and isn't a member of a cycle
  abbrev pub behind_with : Bool → TraceLine → Ending → List Finding
  behind_with member l (ending.Done v) = []
  behind_with member l (ending.Failed c) = []
  behind_with true l (ending.Waits q) = []
  behind_with false l (ending.Waits q) = finding.Behind (told_wait l q) ∷ []

  -- the same by its line
  abbrev pub behind : List (List Link) → TraceLine → List Finding
  behind cycles l = behind_with (is_member cycles l.line.name) l l.line.ending

  -- the statement that made the cell which a cause names
  abbrev pub maker_named : Cause → Option Maker
  maker_named cause.Arith = None
  maker_named cause.Kind = None
  maker_named cause.Steps = None
  maker_named (cause.Owner q) = maker_of lines q
  maker_named (cause.Broken q) = maker_of lines q
  maker_named (cause.Order q) = maker_of lines q

  -- the task with this line failed for this cause, which is no broken cell
  abbrev pub told_failure : TraceLine → Cause → Finding
  told_failure l c = finding.Failed (told_task l) c (maker_named c)

  -- a failure that is no echo
  abbrev pub failed_for : TraceLine → Cause → List Finding
  failed_for l cause.Arith = told_failure l cause.Arith ∷ []
  failed_for l cause.Kind = told_failure l cause.Kind ∷ []
  failed_for l cause.Steps = told_failure l cause.Steps ∷ []
  failed_for l (cause.Owner q) = told_failure l (cause.Owner q) ∷ []
  failed_for l (cause.Broken q) = []
  failed_for l (cause.Order q) = told_failure l (cause.Order q) ∷ []

  -- the same of a task that stopped so
  abbrev pub failed_with : TraceLine → Ending → List Finding
  failed_with l (ending.Done v) = []
  failed_with l (ending.Failed c) = failed_for l c
  failed_with l (ending.Waits q) = []

  -- the same by its line
  abbrev pub failed : TraceLine → List Finding
  failed l = failed_with l l.line.ending

  -- a promise that the task with this line owned where it stopped, and that was never set
  abbrev pub told_debt : TraceLine → Name → Finding
  told_debt l q = finding.Owed (told_cell q) (told_task l)

  -- what the task owed, if that of such a task is asked for
  abbrev pub owed : Bool → TraceLine → List Finding
  owed ended l = cond (is_owing ended l.line.ending) (map (told_debt l) l.line.owes) []

  -- a failure that is an echo, with the task from whose end it came at first
  abbrev pub told_echo : TraceLine → Name → Finding
  told_echo l q = finding.Echo (told_task l) (told_cell q) (option_map told_task (origin lines q))

  -- the same by its cause
  abbrev pub echo_for : TraceLine → Cause → List Finding
  echo_for l cause.Arith = []
  echo_for l cause.Kind = []
  echo_for l cause.Steps = []
  echo_for l (cause.Owner q) = []
  echo_for l (cause.Broken q) = told_echo l q ∷ []
  echo_for l (cause.Order q) = []

  -- the same of a task that stopped so
  abbrev pub echo_with : TraceLine → Ending → List Finding
  echo_with l (ending.Done v) = []
  echo_with l (ending.Failed c) = echo_for l c
  echo_with l (ending.Waits q) = []

  -- the same by its line
  abbrev pub echo : TraceLine → List Finding
  echo l = echo_with l l.line.ending

  -- what went wrong: cycles, the waits behind them, failures that are no echo, what was owed by tasks that ended, and
  -- by tasks that failed, and echoes
  abbrev pub findings_of : List (List Link) → List Finding
  findings_of cycles = map told_cycle cycles ++ flat_map (behind cycles) lines ++ flat_map failed lines
      ++ flat_map (owed true) lines ++ flat_map (owed false) lines ++ flat_map echo lines
