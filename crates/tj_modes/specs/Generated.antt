-- The generated script as a tree, statement by statement as its text has its lines, and what is said of that text.
use Rattle.std.specs.Prelude.{ℕ, zero, suc, pos, ◌≡◌, ◌<◌, List, [], ◌∷◌, ◌++◌, codes, length, None}
use Rattle.tj_lex.specs.declared.token.Token.{Token}
use Rattle.tj_lex.specs.Tokens.{AreTokens}
use Rattle.tj_syntax.specs.declared.expr.Op.TheVariants as op
use Rattle.tj_syntax.specs.declared.expr.RefOf.TheVariants as ref
use Rattle.tj_syntax.specs.Trees as tree
use Rattle.tj_syntax.specs.View.{statements_of}
use Rattle.tj_syntax.specs.Trees.{Statement, Task}
use Rattle.tj_syntax.specs.Faults.{kinds_of, IsScript}
use Rattle.tj_syntax.specs.Listing.{listing}
use Rattle.tj_gen.specs.Script.{script_text}

-- the variables of `main`; its statements have their numbers, from 0 for a to 4 for v
abbrev pub main_vars : List (List ℕ)
main_vars = codes "a" ∷ codes "p" ∷ codes "q" ∷ codes "t" ∷ codes "v" ∷ []

-- how `main` begins: let a = new; let p = a; let q = 0; let t = 0
abbrev pub head_statements : List Statement
head_statements =
    tree.let_new 0 (tree.answer tree.new) ∷
    tree.let_new 1 (tree.result_of (tree.variable 0)) ∷
    tree.let_new 2 (tree.result_of (tree.number (pos 0))) ∷
    tree.let_new 3 (tree.result_of (tree.number (pos 0))) ∷ []

-- the i-th step: q = new; t = fork node(i, p, own q); p = q
abbrev pub step_statements : ℕ → List Statement
step_statements i =
    tree.assign 2 (tree.answer tree.new) ∷
    tree.assign 3 (tree.answer (tree.fork 1
    (tree.value (tree.number (pos i)) ∷ tree.value (tree.variable 1) ∷ tree.own 2 ∷ []))) ∷
    tree.assign 1 (tree.result_of (tree.variable 2)) ∷ []

-- steps 1 to size
abbrev pub steps_statements : ℕ → List Statement
steps_statements zero = []
steps_statements (suc i) = steps_statements i ++ step_statements (suc i)

-- how `main` ends: set a = 0; let v = get p; print v; return v
abbrev pub tail_statements : List Statement
tail_statements =
    tree.set_cell 0 (tree.number (pos 0)) ∷
    tree.let_new 4 (tree.answer (tree.get (ref.Var 1) None)) ∷
    tree.print (tree.variable 4) ∷
    tree.return (tree.variable 4) ∷ []

-- the task `main`, which has no parameters and forks `node` in each of its steps
abbrev pub main_task : ℕ → Task
main_task size = record {
  name = codes "main";
  params = 0;
  vars = main_vars;
  body = statements_of (head_statements ++ steps_statements size ++ tail_statements);
}

-- the statements of `node`: let v = get p; set q = v + i; return i
abbrev pub node_statements : List Statement
node_statements =
    tree.let_new 3 (tree.answer (tree.get (ref.Var 1) None)) ∷
    tree.set_cell 2 (tree.chain (tree.variable 3) (tree.pair op.Plus (tree.variable 0) tree.no_pairs)) ∷
    tree.return (tree.variable 0) ∷ []

-- the task `node`, with the parameters i, p and q and the variable v behind them
abbrev pub node_task : Task
node_task = record {
  name = codes "node";
  params = 3;
  vars = codes "i" ∷ codes "p" ∷ codes "q" ∷ codes "v" ∷ [];
  body = statements_of node_statements;
}

-- the script of this size: `main` and `node`
abbrev pub generated_script : ℕ → List Task
generated_script size = main_task size ∷ node_task ∷ []

-- the generated text of this size is short, its tokens are the script of this size, and it is that script's listing
pub record IsGenerated (size : ℕ) : Type 0 where
  pub short : length (script_text size) < 300000
  pub tokens : List Token
  pub has : AreTokens (script_text size) tokens
  pub is : IsScript (kinds_of tokens) (generated_script size)
  pub listed : listing (generated_script size) ≡ script_text size
