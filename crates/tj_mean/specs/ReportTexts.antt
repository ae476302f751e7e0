-- The text of a report.
use Rattle.std.specs.Prelude.{ℕ, Bool, true, false, ℤ, List, [], ◌∷◌, ◌++◌, codes}
use Rattle.std.specs.Fmt.{signed_decimal}
use Rattle.std.specs.List.{flat_map, join_by}
use Rattle.tj_base.specs.ForkOrder.{Name}
use Rattle.tj_base.specs.Texts.{name_text}
use Rattle.tj_base.specs.declared.value.Shown.{Shown}
use Rattle.tj_base.specs.declared.value.Shown.TheVariants as shown
use Rattle.tj_base.specs.declared.cause.Cause.{Cause}
use Rattle.tj_base.specs.declared.cause.Cause.TheVariants as cause
use Rattle.tj_mean.specs.Outcomes.{is_marked}
use Rattle.tj_mean.specs.declared.outcome.Ending.{Ending}
use Rattle.tj_mean.specs.declared.outcome.Ending.TheVariants as ending
use Rattle.tj_mean.specs.declared.outcome.TaskLine.{TaskLine}
use Rattle.tj_mean.specs.declared.outcome.Link.{Link}
use Rattle.tj_mean.specs.declared.outcome.Outcome.{Outcome}

-- a line feed
abbrev pub line_feed : List ℕ
line_feed = 10 ∷ []

-- a number in decimal, or @ and the name of a cell
abbrev pub shown_text : Shown → List ℕ
shown_text (shown.Num i) = signed_decimal i
shown_text (shown.Ref q) = codes "@" ++ name_text q

-- why a task failed, with the cell that it is about
abbrev pub cause_text : Cause → List ℕ
cause_text cause.Arith = codes "arith"
cause_text cause.Kind = codes "kind"
cause_text cause.Steps = codes "steps"
cause_text (cause.Owner q) = codes "owner " ++ name_text q
cause_text (cause.Broken q) = codes "broken " ++ name_text q
cause_text (cause.Order q) = codes "order " ++ name_text q

-- what became of a task
abbrev pub ending_text : Ending → List ℕ
ending_text (ending.Done v) = codes " done " ++ shown_text v
ending_text (ending.Failed c) = codes " failed " ++ cause_text c
ending_text (ending.Waits q) = codes " waits for " ++ name_text q

-- a line for a number that the task with this printed name printed
abbrev pub print_line : List ℕ → ℤ → List ℕ
print_line name i = name ++ codes " prints " ++ signed_decimal i ++ line_feed

-- a line for what became of it
abbrev pub ending_line : List ℕ → Ending → List ℕ
ending_line name e = name ++ ending_text e ++ line_feed

-- a line for the promises that it owes, where there are any
abbrev pub owes_line : List ℕ → List Name → List ℕ
owes_line name [] = []
owes_line name (q ∷ qs) = name ++ codes " owes " ++ join_by name_text (codes ", ") (q ∷ qs) ++ line_feed

-- the lines of a task with this printed name
abbrev pub lines_of : List ℕ → TaskLine → List ℕ
lines_of name l = flat_map (print_line name) l.prints ++ ending_line name l.ending ++ owes_line name l.owes

-- the lines of a task: its prints, what became of it, and what it owes
abbrev pub task_lines : TaskLine → List ℕ
task_lines l = lines_of (name_text l.name) l

-- one part of a cycle
abbrev pub link_text : Link → List ℕ
link_text l = name_text l.task ++ codes " waits for " ++ name_text l.cell

-- a line for a cycle
abbrev pub alarm_line : List Link → List ℕ
alarm_line links = codes "alarm " ++ join_by link_text (codes ", ") links ++ line_feed

-- the last line
abbrev pub verdict_line : Bool → List ℕ
verdict_line true = codes "marked" ++ line_feed
verdict_line false = codes "clean" ++ line_feed

-- the report: the lines of each task, a line for each cycle, and whether the outcome is marked
abbrev pub report : Outcome → List ℕ
report o = flat_map task_lines o.lines ++ flat_map alarm_line o.cycles ++ verdict_line (is_marked o)
