-- Scripts without `get`, and the tasks of them.
use Rattle.std.specs.Prelude.{Bool, true, false, ◌&&◌, List}
use Rattle.std.specs.List.{list_all, Contains}
use Rattle.tj_body.specs.declared.ask.Ask.{Ask}
use Rattle.tj_body.specs.NeverWaits as never
use Rattle.tj_lex.specs.declared.token.Tok.{Tok}
use Rattle.tj_lex.specs.declared.token.Tok.TheVariants as toks
use Rattle.tj_lex.specs.declared.token.Key.TheVariants as keys
use Rattle.tj_syntax.specs.Trees as tree
use Rattle.tj_syntax.specs.Trees.{Given, Statement, Statements, Otherwise, Task}
use Rattle.tj_eval.specs.Statements.{TaskState}

-- the keyword `get` isn't among the tokens
abbrev pub AreWithoutGet : List Tok → Type 0
AreWithoutGet tokens = Contains tokens (toks.Key keys.Get) → ⊥

-- the ask is no get, neither with what to compute where the cell is broken nor without
abbrev pub is_no_get : tree.Ask → Bool
is_no_get tree.new = true
is_no_get (tree.fork f list) = true
is_no_get (tree.get r other) = false
is_no_get (tree.join r other) = true

-- what the variable is given is no get
abbrev pub gives_no_get : Given → Bool
gives_no_get (tree.answer q) = is_no_get q
gives_no_get (tree.result_of e) = true

abbrev mutual
  -- no get stands in the statement
  -- it asks nothing of the answers, so the law holds for all of them
  pub has_no_get : Statement → Bool
  has_no_get (tree.let_new x given) = gives_no_get given
  has_no_get (tree.assign x given) = gives_no_get given
  has_no_get (tree.ask q) = is_no_get q
  has_no_get (tree.choose e body other) = have_no_get body && other_has_no_get other
  has_no_get (tree.repeat e body) = have_no_get body
  has_no_get s = true

  -- no get stands in any of the statements
  pub have_no_get : Statements → Bool
  have_no_get tree.no_more = true
  have_no_get (tree.then_do s more) = has_no_get s && have_no_get more

  -- no get stands in what a conditional does otherwise
  pub other_has_no_get : Otherwise → Bool
  other_has_no_get tree.nothing = true
  other_has_no_get (tree.block body) = have_no_get body

-- no get stands in any task of the script
abbrev pub script_has_no_get : List Task → Bool
script_has_no_get script = list_all (λ t. have_no_get t.body) script

-- no get stands in the task's script nor in its remaining statements
abbrev pub asks_no_get : TaskState → Bool
asks_no_get t = script_has_no_get t.script && list_all has_no_get t.rest

-- the ask is no get, and where it is a fork the child is without get too
abbrev pub IsNoGet : Ask TaskState → Type 0
IsNoGet = never.IsNoGet asks_no_get
