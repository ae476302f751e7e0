-- The variable of the `let` that made a promise.
use Rattle.std.specs.Prelude.{ℕ, List, [], ◌++◌, codes, slice_get, Option, Some, None}
use Rattle.tj_syntax.specs.Trees as tree
use Rattle.tj_syntax.specs.Trees.{Ask, Given, Statement, Task}
use Rattle.tj_trace.specs.declared.line.Maker.{Maker}
use Rattle.tj_findings.specs.Scenes.{Told, statement_at}

-- the variable, where what it is given is a new promise
abbrev pub given_new : ℕ → Ask → Option ℕ
given_new x tree.new = Some x
given_new x (tree.fork f list) = None
given_new x (tree.get r other) = None
given_new x (tree.join r other) = None

-- the same of the answer to an ask, or of a value
abbrev pub given_promise : ℕ → Given → Option ℕ
given_promise x (tree.answer q) = given_new x q
given_promise x (tree.result_of e) = None

-- the variable that a statement declares for a new promise, if it does so
abbrev pub let_variable : Statement → Option ℕ
let_variable (tree.let_new x side) = given_promise x side
let_variable (tree.assign x side) = None
let_variable (tree.ask q) = None
let_variable (tree.print e) = None
let_variable (tree.set_cell x e) = None
let_variable (tree.return e) = None
let_variable (tree.choose e body other) = None
let_variable (tree.repeat e body) = None

-- the name of a variable of a declaration, if there is one
abbrev pub variable_name : Task → Option ℕ → Option (List ℕ)
variable_name d None = None
variable_name d (Some x) = slice_get d.vars x

-- the name of the variable that a statement of a declaration declares for a new promise, if there are such ones
abbrev pub named_in : Option Task → Option Statement → Option (List ℕ)
named_in None q = None
named_in (Some d) None = None
named_in (Some d) (Some q) = variable_name d (let_variable q)

-- the name of the variable of the `let` that made a promise, if one made it
abbrev pub let_name : Told → Maker → Option (List ℕ)
let_name s m = named_in (slice_get s.script m.decl) (statement_at s m.decl m.at)

-- this name in front of what else is told of a promise
abbrev pub let_text : Option (List ℕ) → List ℕ
let_text None = []
let_text (Some x) = x ++ codes ", "
