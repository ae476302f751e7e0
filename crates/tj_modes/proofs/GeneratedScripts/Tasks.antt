-- The tasks of the generated script in the grammar, with nothing wrong at any of their tokens.
use Rattle.tj_modes.proofs.Prelude.{List, Name, Noted, Task, [], append_assoc, arith, codes, fine, greatest_number}
use Rattle.tj_modes.proofs.Prelude.{list_all, main_vars, node_task, pos, refl, statements_of, step_statements, subst}
use Rattle.tj_modes.proofs.Prelude.{suc, sym, tail_statements, true, zero, ℕ, ◌++◌, ◌∷◌, ◌≡◌, ◌≤◌}
use Rattle.tj_syntax.specs.Trees.{Expression, Statement}
use Rattle.tj_syntax.specs.Marks.{forks, declares, key, mark}
use Rattle.tj_syntax.specs.Grammar.{IsExpression, IsOperand, IsUnary, IsStatement, IsStatements, IsTask, level_of}
use Rattle.tj_syntax.specs.Grammar.{alone, operands, pairs_end, pairs_more, product, unary, name, number, own, value}
use Rattle.tj_syntax.specs.Grammar.{arguments, arguments_more, arguments_end, reference_name, no_or, new, fork, get}
use Rattle.tj_syntax.specs.Grammar.{answer, result_of, let_new, assign, print, set_cell, return, no_params, params}
use Rattle.tj_syntax.specs.Grammar.{params_more, params_end, braces, statements_end, statements_more, task}
use Rattle.tj_syntax.proofs.Listed.Again.{IsFine, AreFine, fine-append, fine_mark}
use Rattle.tj_modes.specs.Generated.{head_statements, steps_statements, main_task, node_statements, generated_script}
use Rattle.tj_modes.proofs.GeneratedScripts.Notes.{is_plain, all_plain, word_stands}
use Rattle.tj_lex.specs.declared.token.Tok.TheVariants as toks
use Rattle.tj_lex.specs.declared.token.Key.TheVariants as k
use Rattle.tj_lex.specs.declared.token.Mark.TheVariants as m
use Rattle.tj_syntax.specs.declared.expr.Op.TheVariants as op

abbrev tasks : List Name
tasks = codes "main" ∷ codes "node" ∷ []

-- the levels that may be opened within a task's brace
abbrev room : ℕ
room = 63

-- statements that are derived, with nothing wrong
record Derived (size : ℕ) (vars : List Name) (some : List Statement) (last : List Name) : Type 0 where
  notes : List Noted
  right : IsStatements tasks room vars notes (statements_of some) last
  all_fine : AreFine (generated_script size) notes

none : (size : ℕ) (vars : List Name) → Derived size vars [] vars
none size vars = record { notes = []; right = statements_end; all_fine = tt }

-- a statement before others
next : {size : ℕ} {vars after last : List Name} {s : Statement} {rest : List Statement} {a : List Noted}
    → IsStatement tasks room vars a s after → AreFine (generated_script size) a → Derived size after rest last
    → Derived size vars (s ∷ rest) last
next {size} {a = a} is ok d = record {
  notes = a ++ d.notes;
  right = statements_more is d.right;
  all_fine = fine-append (generated_script size) a d.notes ok d.all_fine;
}

-- the same, where each token of the statement is plain
plain : {size : ℕ} {vars after last : List Name} {s : Statement} {rest : List Statement} {a : List Noted}
    → IsStatement tasks room vars a s after → list_all is_plain a ≡ true → Derived size after rest last
    → Derived size vars (s ∷ rest) last
plain {size} {a = a} is h d = next is (all_plain (generated_script size) a h) d

-- a unary as an operand of a sum, and as a whole expression
summand : {vars : List Name} {a : List Noted} {x : Expression} → IsUnary vars room a x
    → IsOperand vars (level_of op.Plus) room (a ++ []) x
summand is = product (operands (unary is) pairs_end)

whole : {vars : List Name} {a : List Noted} {x : Expression} → IsUnary vars room a x
    → IsExpression vars room ((a ++ []) ++ []) x
whole is = alone (operands (summand is) pairs_end)

-- ---- the task `main`

-- the variables that are known at the steps
abbrev known : List Name
known = codes "a" ∷ codes "p" ∷ codes "q" ∷ codes "t" ∷ []

-- how it ends
tail : (size : ℕ) → Derived size known tail_statements main_vars
tail size =
    plain (set_cell (codes "a") (whole (number (pos 0)))) refl
    (plain (let_new (codes "v") (answer (get (reference_name (codes "p")) no_or))) refl
    (plain (print (whole (name (codes "v")))) refl
    (plain (return (whole (name (codes "v")))) refl
    (none size main_vars))))

-- a fork of `node` with three arguments breaks no rule, and neither does a number that isn't too great
fork_fine : (size : ℕ) → IsFine (generated_script size) (toks.Name (codes "node"), forks 3)
fork_fine size = record { unbroken = λ breach e. cc; fork = refl; stands = word_stands (codes "node") refl }

number_fine : (size i : ℕ) → i ≤ greatest_number → IsFine (generated_script size) (toks.Num (pos i), fine)
number_fine size i h = record { unbroken = λ breach e. cc; fork = refl; stands = (i, refl, h) }

-- the tokens of a step's second line: those before the task's name, those from there on, and those behind the number
abbrev fork_front : List Noted
fork_front = (toks.Name (codes "t"), fine) ∷ mark m.Assign ∷ key k.Fork ∷ []

abbrev fork_back : List Noted
fork_back =
    mark m.Comma ∷ (toks.Name (codes "p"), fine) ∷ mark m.Comma ∷ key k.Own ∷ (toks.Name (codes "q"), fine)
    ∷ mark m.ParenClose ∷ mark m.Semi ∷ []

abbrev fork_call : ℕ → List Noted
fork_call i = (toks.Name (codes "node"), forks 3) ∷ mark m.ParenOpen ∷ (toks.Num (pos i), fine) ∷ fork_back

all_fork_fine : (size i : ℕ) → i ≤ greatest_number → AreFine (generated_script size) (fork_front ++ fork_call i)
all_fork_fine size i h =
    let script = generated_script size in
    fine-append script fork_front (fork_call i) (all_plain script fork_front refl)
    (fork_fine size, (fine_mark script m.ParenOpen, (number_fine size i h, all_plain script fork_back refl)))

-- a step before others
step : {size : ℕ} {rest : List Statement} (i : ℕ) → i ≤ greatest_number → Derived size known rest main_vars
    → Derived size known (step_statements i ++ rest) main_vars
step {size} i h d =
    let more = arguments_more (value (whole (name (codes "p")))) (arguments_more (own (codes "q")) arguments_end) in
    let args = arguments (value (whole (number (pos i)))) more in
    plain (assign (codes "q") (answer new)) refl
    (next (assign (codes "t") (answer (fork (codes "node") args))) (all_fork_fine size i h)
    (plain (assign (codes "p") (result_of (whole (name (codes "q"))))) refl d))

-- the steps up to the i-th before others
steps : {size : ℕ} (rest : List Statement) (i : ℕ) → i ≤ greatest_number → Derived size known rest main_vars
    → Derived size known (steps_statements i ++ rest) main_vars
steps rest zero h d = d
steps {size} rest (suc i) h d =
    let last = step_statements (suc i) in
    subst (λ some. Derived size known some main_vars) (sym (append_assoc (steps_statements i) last rest))
    (steps (last ++ rest) i (omega arith) (step (suc i) h d))

main_body : (size : ℕ) → size ≤ greatest_number
    → Derived size [] (head_statements ++ (steps_statements size ++ tail_statements)) main_vars
main_body size h =
    plain (let_new (codes "a") (answer new)) refl
    (plain (let_new (codes "p") (result_of (whole (name (codes "a"))))) refl
    (plain (let_new (codes "q") (result_of (whole (number (pos 0))))) refl
    (plain (let_new (codes "t") (result_of (whole (number (pos 0))))) refl
    (steps tail_statements size h (tail size)))))

-- ---- the task `node`

abbrev node_params : List Name
node_params = codes "i" ∷ codes "p" ∷ codes "q" ∷ []

node_body : (size : ℕ) → Derived size node_params node_statements node_task.vars
node_body size =
    let added = pairs_more op.Plus refl (summand (name (codes "i"))) pairs_end in
    plain (let_new (codes "v") (answer (get (reference_name (codes "p")) no_or))) refl
    (plain (set_cell (codes "q") (alone (operands (summand (name (codes "v"))) added))) refl
    (plain (return (whole (name (codes "i")))) refl
    (none size node_task.vars)))

-- ---- both tasks

-- a task that is derived behind these, with nothing wrong
pub record IsSound (size : ℕ) (earlier : List Name) (t : Task) : Type 0 where
  pub notes : List Noted
  pub right : IsTask tasks earlier notes t
  pub all_fine : AreFine (generated_script size) notes

-- the tokens before a task's body are plain, and so is the brace behind it
sound : {size : ℕ} {earlier vars last : List Name} {some : List Statement} {t : Task} (head : List Noted)
    → (d : Derived size vars some last) → list_all is_plain head ≡ true
    → IsTask tasks earlier (head ++ (d.notes ++ mark m.BraceClose ∷ [])) t → IsSound size earlier t
sound {size} head d h is =
    let script = generated_script size in
    record {
      notes = head ++ (d.notes ++ mark m.BraceClose ∷ []);
      right = is;
      all_fine = fine-append script head (d.notes ++ mark m.BraceClose ∷ []) (all_plain script head h)
          (fine-append script d.notes (mark m.BraceClose ∷ []) d.all_fine (fine_mark script m.BraceClose, tt));
    }

abbrev main_head : List Noted
main_head =
    key k.Task ∷ (toks.Name (codes "main"), declares 0) ∷ mark m.ParenOpen ∷ mark m.ParenClose ∷ mark m.BraceOpen ∷ []

pub main_sound : (size : ℕ) → size ≤ greatest_number → IsSound size [] (main_task size)
main_sound size h =
    let d = main_body size h in
    sound main_head d refl (task (codes "main") no_params (braces d.right))

abbrev node_head : List Noted
node_head =
    key k.Task ∷ (toks.Name (codes "node"), declares 3) ∷ mark m.ParenOpen ∷ (toks.Name (codes "i"), fine)
    ∷ mark m.Comma ∷ (toks.Name (codes "p"), fine) ∷ mark m.Comma ∷ (toks.Name (codes "q"), fine)
    ∷ mark m.ParenClose ∷ mark m.BraceOpen ∷ []

pub node_sound : (size : ℕ) → IsSound size (codes "main" ∷ []) node_task
node_sound size =
    let d = node_body size in
    let names = params (codes "i") (params_more (codes "p") (params_more (codes "q") params_end)) in
    sound node_head d refl (task (codes "node") names (braces d.right))
