-- A picture of a run in the language of Graphviz.
use Rattle.std.specs.Prelude.{ℕ, Bool, true, false, not, ◌||◌, nat_eq, nat_le, cond, List, [], ◌++◌}
use Rattle.std.specs.Prelude.{codes, decimal, length, slice_get, Option, Some, None}
use Rattle.std.specs.List.{count_by, flat_map}
use Rattle.tj_base.specs.ForkOrder.{Name}
use Rattle.tj_base.specs.Texts.{name_text}
use Rattle.tj_mean.specs.Outcomes.{is_nil, is_troubled}
use Rattle.tj_mean.specs.declared.outcome.Ending.{Ending}
use Rattle.tj_mean.specs.declared.outcome.Ending.TheVariants as ending
use Rattle.tj_mean.specs.declared.outcome.Link.{Link}
use Rattle.tj_trace.specs.declared.line.TraceLine.{TraceLine}
use Rattle.tj_mean.specs.ReportTexts.{cause_text}
use Rattle.tj_findings.specs.Echoes.{echoed_by, origin}
use Rattle.tj_findings.specs.Findings.{is_member}
use Rattle.tj_findings.specs.Scenes.{Told, name_of, spot_text}
use Rattle.tj_findings.specs.Searches.{line_of, maker_name}

-- the most tasks of which each is in the picture
abbrev pub most_drawn : ℕ
most_drawn = 200

-- the task is in the picture, with the others of these lines: each is where there are few, and else those that failed,
-- owe or wait
abbrev pub is_drawn : List TraceLine → TraceLine → Bool
is_drawn lines l = nat_le (length lines) most_drawn || is_troubled l.line

-- the line, if its task is in the picture
abbrev pub drawn_only : List TraceLine → Option TraceLine → Option TraceLine
drawn_only lines None = None
drawn_only lines (Some l) = cond (is_drawn lines l) (Some l) None

-- the node of a cell
abbrev pub node : Name → List ℕ
node q = codes "\"" ++ name_text q ++ codes "\""

-- an edge between two cells, of this style
abbrev pub edge : Name → Name → List ℕ → List ℕ
edge x y style = codes "  " ++ node x ++ codes " -> " ++ node y ++ style

-- how the node of a task is drawn that stopped so: one that failed is filled
abbrev pub fill : Ending → List ℕ
fill (ending.Done v) = codes "\"];\n"
fill (ending.Failed c) = codes "\", style=filled, fillcolor=salmon];\n"
fill (ending.Waits q) = codes "\"];\n"

-- why a task failed that stopped so, as a line of its node
abbrev pub cause_line : Ending → List ℕ
cause_line (ending.Done v) = []
cause_line (ending.Failed c) = codes "\\n" ++ cause_text c
cause_line (ending.Waits q) = []

-- the lines of the node of a task below its name: its declaration, where it stopped, and why it failed
abbrev pub task_lines : Told → TraceLine → List ℕ
task_lines s l = codes "\\n" ++ name_of (slice_get s.script l.decl) ++ codes "\\n" ++ spot_text s l.decl l.at
    ++ cause_line l.line.ending

-- the node of a task: its name, and these lines
abbrev pub task_node : Told → TraceLine → List ℕ
task_node s l = codes "  " ++ node l.line.name ++ codes " [label=\"" ++ name_text l.line.name ++ task_lines s l
    ++ fill l.line.ending

-- the line of the task that forked the one with this name, if it is in the picture
abbrev pub forker : List TraceLine → Name → Option TraceLine
forker lines x = cond (is_nil x) None (drawn_only lines (line_of lines (maker_name x)))

-- the edge from the task that forked another
abbrev pub fork_edge : Name → Option TraceLine → List ℕ
fork_edge x None = []
fork_edge x (Some l) = edge l.line.name x (codes ";\n")

-- how a wait is drawn: thick and red in a cycle, and else dashed
abbrev pub wait_style : Bool → List ℕ
wait_style true = codes " [color=red, penwidth=3];\n"
wait_style false = codes " [style=dashed];\n"

-- the edge of a task's wait, where it waits
abbrev pub wait_edge : List (List Link) → Name → Ending → List ℕ
wait_edge cycles x (ending.Done v) = []
wait_edge cycles x (ending.Failed c) = []
wait_edge cycles x (ending.Waits q) = edge x q (wait_style (is_member cycles x))

-- the edge from a task to the one from whose end its failure came
abbrev pub origin_edge : Name → Option TraceLine → List ℕ
origin_edge x None = []
origin_edge x (Some l) = edge x l.line.name (codes " [style=dotted, color=salmon];\n")

-- the same where the task failed for this cell, which is broken
abbrev pub origin_edge_of : List TraceLine → Name → Option Name → List ℕ
origin_edge_of lines x None = []
origin_edge_of lines x (Some q) = origin_edge x (origin lines q)

-- how a promise is drawn that the task owned which stopped so: one that it owed is filled
abbrev pub promise_style : Ending → List ℕ
promise_style (ending.Done v) = codes " [shape=ellipse, style=filled, fillcolor=khaki];\n"
promise_style (ending.Failed c) = codes " [shape=ellipse, style=filled, fillcolor=khaki];\n"
promise_style (ending.Waits q) = codes " [shape=ellipse];\n"

-- a promise that was never set, drawn so, and the edge to the task that owned it
abbrev pub promise_node : List ℕ → Name → Name → List ℕ
promise_node style x q = codes "  " ++ node q ++ style ++ edge q x (codes " [style=dotted];\n")

-- the promises that a task owned where it stopped
abbrev pub promises_with : Ending → TraceLine → List Name
promises_with (ending.Done v) l = l.line.owes
promises_with (ending.Failed c) l = l.line.owes
promises_with (ending.Waits q) l = l.holds

-- what is drawn of a task: its node, the fork that made it, its wait, the origin of its echo, and the promises that it
-- owned
abbrev pub drawn : Told → List TraceLine → List (List Link) → TraceLine → List ℕ
drawn s lines cycles l = task_node s l ++ fork_edge l.line.name (forker lines l.line.name)
    ++ wait_edge cycles l.line.name l.line.ending ++ origin_edge_of lines l.line.name (echoed_by l.line.ending)
    ++ flat_map (promise_node (promise_style l.line.ending) l.line.name) (promises_with l.line.ending l)

-- the same where the task is in the picture
abbrev pub drawing : Told → List TraceLine → List (List Link) → TraceLine → List ℕ
drawing s lines cycles l = cond (is_drawn lines l) (drawn s lines cycles l) []

-- how many tasks are left out
abbrev pub undrawn : List TraceLine → ℕ
undrawn lines = count_by (λ l. not (is_drawn lines l)) lines

-- a node that tells how many, where some are
abbrev pub undrawn_node : ℕ → List ℕ
undrawn_node n = cond (nat_eq n 0) []
    (codes "  more [shape=note, label=\"" ++ decimal n ++ codes " more ended and owe nothing\"];\n")

-- the picture
abbrev pub dot_text : Told → List TraceLine → List (List Link) → List ℕ
dot_text s lines cycles = codes "digraph tasks {\n  node [shape=box];\n" ++ flat_map (drawing s lines cycles) lines
    ++ undrawn_node (undrawn lines) ++ codes "}\n"
