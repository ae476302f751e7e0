-- Where the parts of a script begin, each told by how many tokens stand in front of it. The definitions follow the
-- derivation, rule by rule; `k` tokens stand in front of the part itself.
use Rattle.std.specs.Prelude.{ℕ, ◌+◌, List, [], ◌∷◌, ◌++◌, length, Option, Some, None}
use Rattle.tj_syntax.specs.Trees as tree
use Rattle.tj_syntax.specs.Trees.{Given, Statement, Statements, Otherwise, Task}
use Rattle.tj_syntax.specs.Marks.{Name, Noted}
use Rattle.tj_syntax.specs.Grammar as g
use Rattle.tj_syntax.specs.Grammar.{IsStatement, IsBlock, IsStatements, IsElse, IsTask, IsTasks, IsProgram}

-- where a statement begins, and where its ask does, if it has one
pub record Start : Type 0 where
  pub at : ℕ
  pub ask : Option ℕ

-- where a task begins, where its statements do, in the order of the text, and where its closing brace stands
pub record TaskStart : Type 0 where
  pub at : ℕ
  pub statements : List Start
  pub brace : ℕ

-- a statement that begins here, with its ask there
abbrev pub start : ℕ → Option ℕ → Start
start k ask = record { at = k; ask = ask }

-- where the ask begins, if what a variable is given is one, and begins here
abbrev pub ask_in : Given → ℕ → Option ℕ
ask_in (tree.answer q) k = Some k
ask_in (tree.result_of e) k = None

abbrev mutual
  -- where a statement and those within it begin
  pub starts_of : {tasks : List Name} {room : ℕ} {vars last : List Name} {a : List Noted} {s : Statement}
      → IsStatement tasks room vars a s last → ℕ → List Start
  starts_of (g.let_new {given = side} x p) k = start k (ask_in side (k + 3)) ∷ []
  starts_of (g.assign {given = side} x p) k = start k (ask_in side (k + 2)) ∷ []
  starts_of (g.ask p) k = start k (Some k) ∷ []
  starts_of (g.print p) k = start k None ∷ []
  starts_of (g.set_cell x p) k = start k None ∷ []
  starts_of (g.return p) k = start k None ∷ []
  starts_of (g.choose {a = a} {b = b} e body other) k =
      start k None ∷ (in_block body (k + 1 + length a) ++ in_else other (k + 1 + length a + length b))
  starts_of (g.repeat {a = a} e body) k = start k None ∷ in_block body (k + 1 + length a)

  -- where the statements between braces begin
  pub in_block : {tasks : List Name} {room : ℕ} {vars last : List Name} {a : List Noted} {body : Statements}
      → IsBlock tasks room vars a body last → ℕ → List Start
  in_block (g.braces p) k = starts_in p (k + 1)

  -- where statements begin, one behind the other
  pub starts_in : {tasks : List Name} {room : ℕ} {vars last : List Name} {a : List Noted} {body : Statements}
      → IsStatements tasks room vars a body last → ℕ → List Start
  starts_in g.statements_end k = []
  starts_in (g.statements_more {a = a} first more) k = starts_of first k ++ starts_in more (k + length a)

  -- where the statements for a condition that is 0 begin
  pub in_else : {tasks : List Name} {room : ℕ} {vars last : List Name} {a : List Noted} {other : Otherwise}
      → IsElse tasks room vars a other last → ℕ → List Start
  in_else g.no_else k = []
  in_else (g.else_block p) k = in_block p (k + 1)

-- where the parts of a task begin; its parameters stand behind three tokens, and its block behind their parenthesis
abbrev pub in_task : {tasks earlier : List Name} {a : List Noted} {t : Task} → IsTask tasks earlier a t → ℕ
    → TaskStart
in_task (g.task {a = a} {b = b} f p body) k = record {
  at = k;
  statements = in_block body (k + 4 + length a);
  brace = k + 3 + length a + length b;
}

-- where the parts of each task begin
abbrev pub in_tasks : {tasks earlier : List Name} {a : List Noted} {ts : List Task} → IsTasks tasks earlier a ts → ℕ
    → List TaskStart
in_tasks g.tasks_end k = []
in_tasks (g.tasks_more {a = a} first more) k = in_task first k ∷ in_tasks more (k + length a)
