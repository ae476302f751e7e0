-- The trace of a meaning: what is told of each task, with where it stands in its declaration, where it made what, what
-- it set and handed on, its arguments, and what it held where it failed.
use Rattle.std.specs.Prelude.{◌≡◌, ℕ, List, [], map, Option, Some}
use Rattle.std.specs.Option.{option_map}
use Rattle.std.specs.List.Sorted.{IsPermutation}
use Rattle.tj_base.specs.ForkOrder.{Name}
use Rattle.tj_base.specs.declared.cause.Cause.{Cause}
use Rattle.tj_base.specs.declared.cause.Cause.TheVariants as cause
use Rattle.tj_body.specs.History.{reference_at, value_at}
use Rattle.tj_body.specs.Programs.{Program}
use Rattle.tj_body.specs.Rounds.{meaning}
use Rattle.tj_body.specs.declared.point.Point.{Point}
use Rattle.tj_body.specs.declared.point.Reference.{Reference}
use Rattle.tj_body.specs.declared.point.Value.{Value}
use Rattle.tj_mean.specs.Outcomes.{Ascend, stopped_of}
use Rattle.tj_mean.specs.declared.outcome.Ending.{Ending}
use Rattle.tj_mean.specs.declared.outcome.Ending.TheVariants as ending
use Rattle.tj_mean.specs.declared.stopped.Stopped.{Stopped}
use Rattle.tj_mean.specs.declared.stopped.StoppedBody.{StoppedBody}
use Rattle.tj_trace.specs.Logs.{Logged}
use Rattle.tj_trace.specs.declared.line.HandNote.{HandNote}
use Rattle.tj_trace.specs.declared.line.SetNote.{SetNote}
use Rattle.tj_trace.specs.declared.line.TraceLine.{TraceLine}
use Rattle.tj_trace.specs.declared.logged.PlaceHand.{PlaceHand}
use Rattle.tj_trace.specs.declared.logged.PlaceSet.{PlaceSet}

-- the promise that was set there, by the references of the task x
abbrev pub set_of : Name → List Reference → PlaceSet → SetNote
set_of x references n = record { promise = (reference_at x references n.place).name; at = n.at }

-- the promise that was handed on there
abbrev pub hand_of : Name → List Reference → PlaceHand → HandNote
hand_of x references n = record { promise = (reference_at x references n.place).name; thing = n.thing }

-- the values that are told of a task which failed by this cause
abbrev pub held_for : Cause → List Value → List Value
held_for cause.Arith values = values
held_for cause.Kind values = values
held_for cause.Steps values = []
held_for (cause.Owner q) values = []
held_for (cause.Broken q) values = []
held_for (cause.Order q) values = []

-- the values that are told of a task with this end
abbrev pub held_at : Ending → List Value → List Value
held_at (ending.Failed c) values = held_for c values
held_at (ending.Done v) values = []
held_at (ending.Waits q) values = []

-- the same of a task that has stopped, and of what its variables hold
abbrev pub held_in : StoppedBody Logged → List Value
held_in b = held_at b.told.line.ending (map (value_at b.told.line.name b.references) b.body.placed.task.vars)

-- what is told of a task that has stopped
abbrev pub line_with : StoppedBody Logged → TraceLine
line_with b = record {
  line = b.told.line;
  holds = b.told.holds;
  decl = b.body.placed.stand.decl;
  at = b.body.placed.stand.at;
  makers = b.body.makers;
  sets = map (set_of b.told.line.name b.references) b.body.sets;
  hands = map (hand_of b.told.line.name b.references) b.body.hands;
  began = map (value_at b.told.line.name b.references) b.body.began;
  held = held_in b;
}

-- a task with this history that has stopped so
abbrev pub stopped_at : Point Logged → Stopped → StoppedBody Logged
stopped_at p s = record { told = s; body = p.body; references = p.references }

-- what is told of it
abbrev pub line_in : Point Logged → Stopped → TraceLine
line_in p s = line_with (stopped_at p s)

-- what is told of a task with this history, and nothing where it goes on
abbrev pub line_of : Point Logged → Option TraceLine
line_of p = option_map (line_in p) (stopped_of p)

-- the names of the tasks
abbrev pub names_of : List TraceLine → List (List ℕ)
names_of = map (λ l. l.line.name)

-- these are the tasks of a meaning with their lines, in name order
pub record AreTraced (program : Program Logged) (N : ℕ) (lines : List TraceLine) : Type 0 where
  -- the histories in some order, and what is told of them
  pub histories : List (Point Logged)
  pub told : List TraceLine
  pub same_histories : IsPermutation (meaning program N) histories
  pub are_told : map line_of histories ≡ map Some told
  pub same_lines : IsPermutation told lines
  pub in_name_order : Ascend (names_of lines)
