-- The law of variables: a promise is told with the variable of the `let` that made it, and without one where none did.
use Rattle.std.specs.Prelude.{◌≡◌, ◌↔◌, ℕ, List, Some, slice_get}
use Rattle.tj_syntax.specs.Grammar.{IsProgram}
use Rattle.tj_syntax.specs.Marks.{Noted}
use Rattle.tj_syntax.specs.Trees as trees
use Rattle.tj_syntax.specs.Trees.{Task}
use Rattle.tj_trace.specs.RightLines.{IsStatementAt}
use Rattle.tj_trace.specs.declared.line.Maker.{Maker}
use Rattle.tj_findings.specs.LetNames.{let_name}
use Rattle.tj_findings.specs.Scenes.{Told, statements_of}

-- the statement with this number of a declaration of the script is a `let` that gives this variable a new promise
abbrev pub IsLet : List Task → (decl at : ℕ) → (variable : ℕ) → Type 0
IsLet script decl at k = IsStatementAt script decl at (trees.let_new k (trees.answer trees.new))

-- it is such a `let`, and its variable has this name
abbrev pub IsLetOf : List Task → (decl at : ℕ) → (name : List ℕ) → Type 0
IsLetOf script decl at name = (k : ℕ) × (is : IsLet script decl at k) × (slice_get is.task.vars k ≡ Some name)

-- in front of `made at` a name is told exactly where the statement is a `let` of a new promise for the variable with this
-- name; and for each such `let` one is told
abbrev pub LetsAreTold : Type 0
LetsAreTold = (notes : List Noted) (s : Told) → IsProgram notes s.script → s.statements ≡ statements_of s.script
    → (m : Maker) → ((name : List ℕ) → (let_name s m ≡ Some name) ↔ IsLetOf s.script m.decl m.at name)
    × ((k : ℕ) → IsLet s.script m.decl m.at k → (name : List ℕ) × (let_name s m ≡ Some name))
