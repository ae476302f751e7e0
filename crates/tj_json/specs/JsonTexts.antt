-- What went wrong with a run, as objects of JSON: one of each finding, a line each, in the order of the text: a cause,
-- and behind it what follows from it.
use Rattle.std.specs.Prelude.{ℕ, cond, List, [], ◌∷◌, ◌++◌, codes, decimal, length, slice_get, take}
use Rattle.std.specs.Prelude.{Option, Some, None}
use Rattle.std.specs.Fmt.{signed_decimal}
use Rattle.std.specs.List.{flat_map}
use Rattle.tj_base.specs.ForkOrder.{Name, child}
use Rattle.tj_base.specs.Texts.{name_text}
use Rattle.tj_base.specs.declared.cause.Cause.{Cause}
use Rattle.tj_base.specs.declared.cause.Cause.TheVariants as cause
use Rattle.tj_body.specs.declared.point.Value.{Value}
use Rattle.tj_body.specs.declared.point.Value.TheVariants as value
use Rattle.tj_mean.specs.Outcomes.{is_marked}
use Rattle.tj_mean.specs.declared.outcome.Outcome.{Outcome}
use Rattle.tj_syntax.specs.Trees.{Task}
use Rattle.tj_trace.specs.declared.line.Maker.{Maker}
use Rattle.tj_trace.specs.declared.line.TraceLine.{TraceLine}
use Rattle.tj_faults.specs.Objects.{begin, quoted}
use Rattle.tj_findings.specs.Forests.{Forest, Tree, forest_of}
use Rattle.tj_findings.specs.LetNames.{let_name}
use Rattle.tj_findings.specs.ReasonTexts.{reason_for, reason_words}
use Rattle.tj_findings.specs.Scenes.{Told, name_of, spot_text, stop_text}
use Rattle.tj_findings.specs.PartTexts.{cause_word, is_promise, stopped_word}
use Rattle.tj_findings.specs.declared.finding.Finding.{Finding}
use Rattle.tj_findings.specs.declared.finding.Finding.TheVariants as finding
use Rattle.tj_findings.specs.declared.finding.ToldCell.{ToldCell}
use Rattle.tj_findings.specs.declared.finding.ToldTask.{ToldTask}
use Rattle.tj_findings.specs.declared.finding.Wait.{Wait}
use Rattle.tj_findings.specs.declared.finding.Went.{Went}
use Rattle.tj_findings.specs.declared.finding.Went.TheVariants as went
use Rattle.tj_reasons.specs.declared.reason.Reason.{Reason}

-- the position of a statement, if there is one
abbrev pub spot_json : Told → Option Maker → List ℕ
spot_json s None = codes "null"
spot_json s (Some m) = quoted (spot_text s m.decl m.at)

-- a name, if there is one
abbrev pub name_json : Option Name → List ℕ
name_json None = codes "null"
name_json (Some x) = quoted (name_text x)

-- the sort of a cell
abbrev pub sort_json : Option Maker → List ℕ
sort_json m = cond (is_promise m) (codes "promise") (codes "task")

-- the name of a variable, if there is one
abbrev pub variable_json : Option (List ℕ) → List ℕ
variable_json None = codes "null"
variable_json (Some x) = quoted x

-- the variable of the `let` at this statement, if it is one that makes a promise
abbrev pub let_json : Told → Option Maker → List ℕ
let_json s None = codes "null"
let_json s (Some m) = variable_json (let_name s m)

-- where a cell was made, and for which variable
abbrev pub made_json : Told → Option Maker → List ℕ
made_json s m = spot_json s m ++ codes ",\"variable\":" ++ let_json s m

-- a cell with the statement that made it
abbrev pub cell_json : Told → Name → Option Maker → List ℕ
cell_json s x m = codes "{\"name\":" ++ quoted (name_text x) ++ codes ",\"sort\":" ++ quoted (sort_json m)
    ++ codes ",\"made\":" ++ made_json s m ++ codes "}"

-- how and where a task stopped
abbrev pub stop_json : Told → ToldTask → List ℕ
stop_json s t = quoted (stopped_word t.stop) ++ codes ",\"at\":" ++ quoted (stop_text s t)

-- a number, or the name of the cell to which it refers
abbrev pub value_json : Value → List ℕ
value_json (value.Num i) = signed_decimal i
value_json (value.Ref r) = quoted (name_text r.name)

-- a further value, behind a comma
abbrev pub next_value : Value → List ℕ
next_value v = codes "," ++ value_json v

-- values, with commas between them
abbrev pub values_json : List Value → List ℕ
values_json [] = []
values_json (v ∷ vs) = value_json v ++ flat_map next_value vs

-- with what a task of this declaration began, whose variables held these values at first: its arguments
abbrev pub arguments_json : Option Task → List Value → List ℕ
arguments_json None values = []
arguments_json (Some d) values = values_json (take d.params values)

-- what a task runs, with its arguments, and where it was forked
abbrev pub start_json : Told → ToldTask → List ℕ
start_json s t = quoted (name_of (slice_get s.script t.decl)) ++ codes ",\"began\":["
    ++ arguments_json (slice_get s.script t.decl) t.began ++ codes "],\"forked\":" ++ spot_json s t.fork

-- a task with its declaration, its arguments, its fork, and how and where it stopped
abbrev pub task_json : Told → ToldTask → List ℕ
task_json s t = codes "{\"name\":" ++ quoted (name_text t.name) ++ codes ",\"task\":" ++ start_json s t
    ++ codes ",\"stopped\":" ++ stop_json s t ++ codes "}"

-- the same of a task, if there is one
abbrev pub task_if_json : Told → Option ToldTask → List ℕ
task_if_json s None = codes "null"
task_if_json s (Some t) = task_json s t

-- a cell for which a task waits, and its owner
abbrev pub awaited_json : Told → ToldCell → Option Name → List ℕ
awaited_json s q o = cell_json s q.name q.maker ++ codes ",\"owner\":" ++ name_json o

-- a wait of a task for a cell that has this owner
abbrev pub parts_json : Told → ToldTask → ToldCell → Option Name → List ℕ
parts_json s t q o = codes "{\"task\":" ++ task_json s t ++ codes ",\"cell\":" ++ awaited_json s q o ++ codes "}"

-- a wait: the task, the cell, and its owner
abbrev pub wait_json : Told → Wait → List ℕ
wait_json s w = parts_json s w.task w.cell w.owner

-- further waits, a comma before each
abbrev pub more_waits : Told → Wait → List ℕ
more_waits s w = codes "," ++ wait_json s w

-- waits, with commas between them
abbrev pub waits_json : Told → List Wait → List ℕ
waits_json s [] = []
waits_json s (w ∷ ws) = wait_json s w ++ flat_map (more_waits s) ws

-- the cell that a cause names, if it names one
abbrev pub named_json : Told → Cause → Option Maker → List ℕ
named_json s cause.Arith m = codes "null"
named_json s cause.Kind m = codes "null"
named_json s cause.Steps m = codes "null"
named_json s (cause.Owner q) m = cell_json s q m
named_json s (cause.Broken q) m = cell_json s q m
named_json s (cause.Order q) m = cell_json s q m

-- the beginning of an object of this kind for a finding: a cause has level 0, and what follows from it level 1
abbrev pub begin_at : ℕ → List ℕ → List ℕ
begin_at n kind = begin kind ++ codes ",\"level\":" ++ decimal n

-- a cycle
abbrev pub cycle_json : Told → ℕ → List Wait → List ℕ
cycle_json s n waits =
    begin_at n (codes "deadlock") ++ codes ",\"waits\":[" ++ waits_json s waits ++ codes "]}\n"

-- a wait behind a cycle
abbrev pub behind_json : Told → ℕ → Wait → List ℕ
behind_json s n w = begin_at n (codes "behind") ++ codes ",\"wait\":" ++ wait_json s w ++ codes "}\n"

-- why a task failed, if there is a reason
abbrev pub reason_json : ToldTask → Option Reason → List ℕ
reason_json t None = codes "null"
reason_json t (Some r) = quoted (reason_words t r)

-- the end of an object of where a promise went: the position of a statement
abbrev pub at_json : Told → ℕ → ℕ → List ℕ
at_json s d n = codes ",\"at\":" ++ quoted (spot_text s d n) ++ codes "}"

-- the failing task had set the promise there
abbrev pub set_here : Told → ℕ → ℕ → List ℕ
set_here s d n = begin (codes "set here") ++ at_json s d n

-- the failing task, which has this name, had handed it to its thing with this number there
abbrev pub handed_here : Told → Name → ℕ → ℕ → ℕ → List ℕ
handed_here s x k d n =
    begin (codes "handed here") ++ codes ",\"to\":" ++ quoted (name_text (child x k)) ++ at_json s d n

-- the failing task owned it, and handed it twice
abbrev pub handed_twice : List ℕ
handed_twice = begin (codes "handed twice") ++ codes "}"

-- the task with this name set it there
abbrev pub set_by : Told → Name → ℕ → ℕ → List ℕ
set_by s x d n = begin (codes "set") ++ codes ",\"by\":" ++ quoted (name_text x) ++ at_json s d n

-- the task with this name owned it where it stopped
abbrev pub owned_by : Name → List ℕ
owned_by x = begin (codes "owned") ++ codes ",\"by\":" ++ quoted (name_text x) ++ codes "}"

-- where the promise went for which a task of this declaration failed, if it failed so
abbrev pub went_json : Told → ℕ → Went → List ℕ
went_json s d went.Nowhere = codes "null"
went_json s d (went.SetHere n) = set_here s d n
went_json s d (went.HandedHere x k n) = handed_here s x k d n
went_json s d went.TwiceHere = handed_twice
went_json s d (went.SetBy x e n) = set_by s x e n
went_json s d (went.OwnedBy x) = owned_by x

-- why a task failed for this cause, the cell that this names, and where that went
abbrev pub about_json : Told → ToldTask → Cause → Option Maker → List ℕ
about_json s t c m = reason_json t (reason_for s t c) ++ codes ",\"cell\":" ++ named_json s c m
    ++ codes ",\"went\":" ++ went_json s t.decl t.went

-- a cause, with the reason, the cell that it names, and where that went
abbrev pub cause_json : Told → ToldTask → Cause → Option Maker → List ℕ
cause_json s t c m = quoted (cause_word c) ++ codes ",\"reason\":" ++ about_json s t c m

-- what is told of a failure that is no echo, behind its level
abbrev pub failed_parts : Told → ToldTask → Cause → Option Maker → List ℕ
failed_parts s t c m =
    codes ",\"task\":" ++ task_json s t ++ codes ",\"cause\":" ++ cause_json s t c m ++ codes "}\n"

-- a failure that is no echo
abbrev pub failed_json : Told → ℕ → ToldTask → Cause → Option Maker → List ℕ
failed_json s n t c m = begin_at n (codes "failed") ++ failed_parts s t c m

-- what is told of a promise that was owed, behind its level
abbrev pub owed_parts : Told → ToldCell → ToldTask → List ℕ
owed_parts s q t =
    codes ",\"cell\":" ++ cell_json s q.name q.maker ++ codes ",\"task\":" ++ task_json s t ++ codes "}\n"

-- a promise that was owed
abbrev pub owed_json : Told → ℕ → ToldCell → ToldTask → List ℕ
owed_json s n q t = begin_at n (codes "owed") ++ owed_parts s q t

-- a broken cell, and the task where an echo began
abbrev pub began_json : Told → ToldCell → Option ToldTask → List ℕ
began_json s q o = cell_json s q.name q.maker ++ codes ",\"origin\":" ++ task_if_json s o

-- what is told of an echo behind its level
abbrev pub echo_parts : Told → ToldTask → ToldCell → Option ToldTask → List ℕ
echo_parts s t q o =
    codes ",\"task\":" ++ task_json s t ++ codes ",\"cell\":" ++ began_json s q o ++ codes "}\n"

-- an echo
abbrev pub echo_json : Told → ℕ → ToldTask → ToldCell → Option ToldTask → List ℕ
echo_json s n t q o = begin_at n (codes "echo") ++ echo_parts s t q o

-- a finding of this level
abbrev pub finding_json : Told → ℕ → Finding → List ℕ
finding_json s n (finding.Cycle waits) = cycle_json s n waits
finding_json s n (finding.Behind w) = behind_json s n w
finding_json s n (finding.Failed t c m) = failed_json s n t c m
finding_json s n (finding.Owed q t) = owed_json s n q t
finding_json s n (finding.Echo t q o) = echo_json s n t q o

-- a cause, and behind it what follows from it
abbrev pub tree_json : Told → Tree → List ℕ
tree_json s t = finding_json s 0 t.root ++ flat_map (finding_json s 1) t.below

-- a forest of findings
abbrev pub forest_json : Told → Forest → List ℕ
forest_json s f = flat_map (tree_json s) f.trees ++ flat_map (finding_json s 0) f.strays

-- a number of something
abbrev pub count_json : List ℕ → List ℕ → ℕ → List ℕ
count_json kind what n = begin kind ++ codes ",\"" ++ what ++ codes "\":" ++ decimal n ++ codes "}\n"

-- nothing went wrong with so many tasks
abbrev pub fine_json : ℕ → List ℕ
fine_json n = count_json (codes "fine") (codes "tasks") n

-- what is told of an outcome
abbrev pub told_json : Told → List TraceLine → Outcome → List ℕ
told_json s lines o =
    cond (is_marked o) (forest_json s (forest_of s.places lines o.cycles)) (fine_json (length lines))
