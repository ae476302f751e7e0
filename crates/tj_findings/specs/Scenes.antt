-- What a text of a run looks things up in, and how it names a task, a promise and a position.
use Rattle.std.specs.Prelude.{ℕ, Bool, List, [], ◌++◌, codes, map, slice_get, Option, Some, None}
use Rattle.std.specs.Option.{option_or}
use Rattle.tj_base.specs.Texts.{name_text}
use Rattle.tj_lex.specs.declared.place.Place.{Place}
use Rattle.tj_syntax.specs.PlacesOf as places
use Rattle.tj_syntax.specs.PlacesOf.{PlacesOfTask}
use Rattle.tj_syntax.specs.Trees.{Statement, Task}
use Rattle.tj_syntax.specs.View as trees
use Rattle.tj_syntax.specs.Within.{within}
use Rattle.tj_syntax.specs.declared.stmt.Stmt.{Stmt}
use Rattle.tj_trace.specs.Lookups.{ask_spot_of, spot_of}
use Rattle.tj_trace.specs.declared.line.Maker.{Maker}
use Rattle.tj_faults.specs.Spots.{found_text}
use Rattle.tj_findings.specs.Arguments.{arguments_text}
use Rattle.tj_findings.specs.declared.finding.ToldTask.{ToldTask}
use Rattle.tj_findings.specs.declared.scene.Scene.{Scene}

-- a script, its statements, where its parts stand, and the lines of its text; and whether none of these is told
pub record Told : Type 0 where
  pub script : List Task
  pub statements : List (List Statement)
  pub places : List PlacesOfTask
  pub lines : List (List ℕ)
  pub short : Bool

-- the statements of each declaration, by their numbers
abbrev pub statements_of : List Task → List (List Statement)
statements_of script = map (λ d. within d.body) script

-- a table of statements, as the code holds it
abbrev pub view_table : List (List Stmt) → List (List Statement)
view_table table = map (λ d. map trees.statement d) table

-- the same of what the code holds
abbrev pub view : Scene → Told
view s = record {
  script = trees.script s.script.now;
  statements = view_table (map (λ d. map (λ q. q.now) d.items) s.statements.now);
  places = places.view s.places.now;
  lines = map (λ l. l.now) s.lines.now;
  short = s.short;
}

-- where a statement of a declaration is told to stand, if there are such ones: at its ask, if it has one, and else at
-- its first token; behind the last one, at the closing brace
abbrev pub told_spot : Option PlacesOfTask → ℕ → Option Place
told_spot t n = option_or (ask_spot_of t n) (spot_of t n)

-- the position of the statement with this number in the declaration with that one
abbrev pub spot_text : Told → ℕ → ℕ → List ℕ
spot_text s decl at = found_text (told_spot (slice_get s.places decl) at)

-- the name of a declaration, and a question mark where there is none
abbrev pub name_of : Option Task → List ℕ
name_of None = codes "?"
name_of (Some d) = d.name

-- where the task was forked; nobody forked the root
abbrev pub forked_text : Told → Option Maker → List ℕ
forked_text s None = []
forked_text s (Some m) = codes ", forked at " ++ spot_text s m.decl m.at

-- a task with its declaration, its arguments and the fork that made it
abbrev pub label : Told → ToldTask → List ℕ
label s t = name_text t.name ++ codes " (task " ++ name_of (slice_get s.script t.decl)
    ++ arguments_text (slice_get s.script t.decl) t.began ++ forked_text s t.fork ++ codes ")"

-- the statement with this number, if there are such ones
abbrev pub statement_in : Option (List Statement) → ℕ → Option Statement
statement_in None n = None
statement_in (Some list) n = slice_get list n

-- the statement with this number in the declaration with that one
abbrev pub statement_at : Told → ℕ → ℕ → Option Statement
statement_at s decl at = statement_in (slice_get s.statements decl) at

-- where a task stopped
abbrev pub stop_text : Told → ToldTask → List ℕ
stop_text s t = spot_text s t.decl t.at

-- a task, what it did, and where it stopped
abbrev pub task_at : Told → ToldTask → List ℕ → List ℕ
task_at s t did = label s t ++ did ++ stop_text s t
