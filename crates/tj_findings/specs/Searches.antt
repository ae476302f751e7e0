-- What is looked up in a trace by the name of a task or of a cell.
use Rattle.std.specs.Prelude.{ℕ, ◌-◌, cond, List, length, take, get_or, Option, None}
use Rattle.std.specs.List.{find}
use Rattle.tj_base.specs.ForkOrder.{Name}
use Rattle.tj_body.specs.Names.{has, same}
use Rattle.tj_mean.specs.Outcomes.{is_nil}
use Rattle.tj_trace.specs.Lookups.{kept_by, made_by}
use Rattle.tj_trace.specs.declared.line.Maker.{Maker}
use Rattle.tj_trace.specs.declared.line.TraceLine.{TraceLine}

-- the line of the task with this name
abbrev pub line_of : List TraceLine → Name → Option TraceLine
line_of lines x = find (λ l. same l.line.name x) lines

-- the name without its last number: the task that made the cell with this name
abbrev pub maker_name : Name → Name
maker_name x = take (length x - 1) x

-- the last number of a name: which of its maker's things has this name
abbrev pub last_number : Name → ℕ
last_number x = get_or x (length x - 1) 0

-- the statement that made the cell with this name; nobody made the root
abbrev pub maker_of : List TraceLine → Name → Option Maker
maker_of lines x = cond (is_nil x) None (made_by (line_of lines (maker_name x)) (last_number x))

-- the line of the task that owned the cell where it stopped
abbrev pub owner_of : List TraceLine → Name → Option TraceLine
owner_of lines q = find (λ l. has q (kept_by l)) lines
