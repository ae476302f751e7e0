-- The tokens of a listing stand apart.
use Rattle.std.proofs.Common.{◌≡◌, ℕ, ◌+◌, Bool, true, false, cond, List, [], ◌∷◌, ◌++◌, Option, Some, None, take, refl}
use Rattle.std.proofs.Common.{ap, ◌∙◌, append_assoc}
use Rattle.std.specs.Prelude.{nat_lt, flat_map}
use Rattle.tj_lex.specs.declared.token.Tok.TheVariants as toks
use Rattle.tj_lex.specs.declared.token.Key.TheVariants as k
use Rattle.tj_lex.specs.declared.token.Mark.{Mark}
use Rattle.tj_lex.specs.declared.token.Mark.TheVariants as m
use Rattle.tj_syntax.specs.declared.expr.RefOf.{RefOf}
use Rattle.tj_syntax.specs.declared.expr.RefOf.TheVariants as ref
use Rattle.tj_syntax.specs.Trees as tree
use Rattle.tj_syntax.specs.Trees.{Expression, Pairs, Argument, Ask, Given, Statement, Statements, Otherwise, Task}
use Rattle.tj_syntax.specs.Marks.{Name}
use Rattle.tj_syntax.specs.Grammar.{rel_mark}
use Rattle.tj_syntax.specs.Listing as listing
use Rattle.tj_syntax.specs.Listing.{Part, blanks, level, op_level, pairs_level, operand, expression, pairs_parts, space}
use Rattle.tj_syntax.specs.Listing.{mark, name, line_end}
use Rattle.tj_syntax.proofs.Listed.Clear.{clear, AreClear, IsCalm, clear-append}

-- a mark may stand before these parts, whatever is behind them
abbrev pub Opens : List Part → Type 0
Opens parts = (t : Mark) (after : List Part) → clear (toks.Mark t) (parts ++ after) ≡ true

-- these parts stand apart before what is calm
abbrev pub Clears : List Part → Type 0
Clears parts = (after : List Part) → IsCalm after → AreClear parts after

-- parts, in parentheses or without them
abbrev pub grouped : (test : Bool) → List Part → List Part
grouped test parts = cond test (mark m.ParenOpen ∷ (parts ++ mark m.ParenClose ∷ [])) parts

grouped_opens : (test : Bool) (parts : List Part) → Opens parts → Opens (grouped test parts)
grouped_opens true parts h t after = refl
grouped_opens false parts h t after = h t after

append_opens : (a b : List Part) → Opens a → Opens (a ++ b)
append_opens a b h t after = ap (clear (toks.Mark t)) (append_assoc a b after) ∙ h t (b ++ after)

-- the first part of an expression is no blank and no equals sign
pub opens : (vars : List Name) (x : Expression) → Opens (expression vars x)
opens vars (tree.chain x pairs) t after =
    append_opens (operand vars (pairs_level pairs + 1) x) (pairs_parts vars pairs)
    (grouped_opens (nat_lt (level x) (pairs_level pairs + 1)) (expression vars x) (opens vars x)) t after
opens vars (tree.comparison rel x y) t after =
    append_opens (operand vars 1 x) (space ∷ mark (rel_mark rel) ∷ space ∷ operand vars 1 y)
    (grouped_opens (nat_lt (level x) 1) (expression vars x) (opens vars x)) t after
opens vars x t after = refl

closed_clears : (parts : List Part) → Clears parts → Clears (parts ++ mark m.ParenClose ∷ [])
closed_clears parts h after calm =
    clear-append parts (mark m.ParenClose ∷ []) after (h (mark m.ParenClose ∷ after) (λ t. refl))
    (refl, calm (toks.Mark m.ParenClose), tt)

grouped_clears : (test : Bool) (parts : List Part) → Opens parts → Clears parts → Clears (grouped test parts)
grouped_clears true parts o h after calm =
    (refl, append_opens parts (mark m.ParenClose ∷ []) o m.ParenOpen after, closed_clears parts h after calm)
grouped_clears false parts o h after calm = h after calm

pairs_calm : (vars : List Name) (pairs : Pairs) (after : List Part) → IsCalm after
    → IsCalm (pairs_parts vars pairs ++ after)
pairs_calm vars tree.no_pairs after calm = calm
pairs_calm vars (tree.pair o y more) after calm = λ t. refl

mutual
  pub expression_clears : (vars : List Name) (x : Expression) → Clears (expression vars x)
  expression_clears vars (tree.number n) after calm = (refl, calm (toks.Num n), tt)
  expression_clears vars (tree.variable x) after calm = (refl, calm _, tt)
  expression_clears vars tree.me after calm = (refl, calm (toks.Key k.Me), tt)
  expression_clears vars (tree.negation x) after calm =
      let o = opens vars x in (
        refl,
        grouped_opens (nat_lt (level x) 3) (expression vars x) o m.Minus after,
        grouped_clears (nat_lt (level x) 3) (expression vars x) o (expression_clears vars x) after calm,
      )
  expression_clears vars (tree.chain x pairs) after calm =
      clear-append (operand vars (pairs_level pairs + 1) x) (pairs_parts vars pairs) after
      (grouped_clears (nat_lt (level x) (pairs_level pairs + 1)) (expression vars x) (opens vars x)
      (expression_clears vars x)
      (pairs_parts vars pairs ++ after) (pairs_calm vars pairs after calm))
      (pairs_clears vars pairs after calm)
  expression_clears vars (tree.comparison rel x y) after calm =
      clear-append (operand vars 1 x) (space ∷ mark (rel_mark rel) ∷ space ∷ operand vars 1 y) after
      (grouped_clears (nat_lt (level x) 1) (expression vars x) (opens vars x) (expression_clears vars x)
      (space ∷ mark (rel_mark rel) ∷ space ∷ (operand vars 1 y ++ after)) (λ t. refl)) (
        refl,
        refl,
        grouped_clears (nat_lt (level y) 1) (expression vars y) (opens vars y)
            (expression_clears vars y) after calm,
      )

  pub pairs_clears : (vars : List Name) (pairs : Pairs) → Clears (pairs_parts vars pairs)
  pairs_clears vars tree.no_pairs after calm = tt
  pairs_clears vars (tree.pair o y more) after calm = (
    refl,
    refl,
    clear-append (operand vars (op_level o + 1) y) (pairs_parts vars more) after
        (grouped_clears (nat_lt (level y) (op_level o + 1)) (expression vars y) (opens vars y)
        (expression_clears vars y)
        (pairs_parts vars more ++ after) (pairs_calm vars more after calm))
        (pairs_clears vars more after calm),
  )

-- parts, and then others that begin calmly
then : (a b : List Part) → Clears a → Clears b → ((after : List Part) → IsCalm after → IsCalm (b ++ after))
    → Clears (a ++ b)
then a b h l calm after c = clear-append a b after (h (b ++ after) (calm after c)) (l after c)

argument_clears : (vars : List Name) (x : Argument) → Clears (listing.argument vars x)
argument_clears vars (tree.own x) after calm = (refl, refl, (refl, calm _, tt))
argument_clears vars (tree.value x) after calm = expression_clears vars x after calm

argument_opens : (vars : List Name) (x : Argument) → Opens (listing.argument vars x)
argument_opens vars (tree.own x) t after = refl
argument_opens vars (tree.value x) t after = opens vars x t after

more_calm : (vars : List Name) (xs : List Argument) (after : List Part) → IsCalm after
    → IsCalm (listing.more_arguments vars xs ++ after)
more_calm vars [] after calm = calm
more_calm vars (x ∷ xs) after calm = λ t. refl

more_clears : (vars : List Name) (xs : List Argument) → Clears (listing.more_arguments vars xs)
more_clears vars [] after calm = tt
more_clears vars (x ∷ xs) after calm = (
  refl,
  refl,
  then (listing.argument vars x) (listing.more_arguments vars xs) (argument_clears vars x) (more_clears vars xs)
      (more_calm vars xs) after calm,
)

arguments_clears : (vars : List Name) (xs : List Argument) → Clears (listing.arguments vars xs)
arguments_clears vars [] after calm = tt
arguments_clears vars (x ∷ xs) after calm =
    then (listing.argument vars x) (listing.more_arguments vars xs) (argument_clears vars x) (more_clears vars xs)
    (more_calm vars xs) after calm

arguments_open : (vars : List Name) (xs : List Argument) → Opens (listing.arguments vars xs ++ mark m.ParenClose ∷ [])
arguments_open vars [] t after = refl
arguments_open vars (x ∷ xs) t after =
    append_opens (listing.argument vars x ++ listing.more_arguments vars xs) (mark m.ParenClose ∷ [])
    (append_opens (listing.argument vars x) (listing.more_arguments vars xs) (argument_opens vars x)) t after

or_clears : (vars : List Name) (other : Option Expression) → Clears (listing.or_else_parts vars other)
or_clears vars None after calm = tt
or_clears vars (Some x) after calm = (refl, refl, expression_clears vars x after calm)

or_calm : (vars : List Name) (other : Option Expression) (after : List Part) → IsCalm after
    → IsCalm (listing.or_else_parts vars other ++ after)
or_calm vars None after calm = calm
or_calm vars (Some x) after calm = λ t. refl

reference_clears : (vars : List Name) (r : RefOf) → Clears (listing.reference vars r ∷ [])
reference_clears vars (ref.Var x) after calm = (refl, calm _, tt)
reference_clears vars ref.Me after calm = (refl, calm _, tt)

pub ask_clears : (tasks vars : List Name) (ask : Ask) → Clears (listing.ask tasks vars ask)
ask_clears tasks vars tree.new after calm = (refl, calm _, tt)
ask_clears tasks vars (tree.fork f args) after calm = (
  refl,
  refl,
  (
    refl,
    refl,
    (
      refl,
      arguments_open vars args m.ParenOpen after,
      closed_clears
          (listing.arguments vars args) (arguments_clears vars args) after calm,
    ),
  ),
)
ask_clears tasks vars (tree.get r other) after calm = (
  refl,
  refl,
  then (listing.reference vars r ∷ []) (listing.or_else_parts vars other) (reference_clears vars r)
      (or_clears vars other) (or_calm vars other) after calm,
)
ask_clears tasks vars (tree.join r other) after calm = (
  refl,
  refl,
  then (listing.reference vars r ∷ []) (listing.or_else_parts vars other) (reference_clears vars r)
      (or_clears vars other) (or_calm vars other) after calm,
)

pub given_clears : (tasks vars : List Name) (side : Given) → Clears (listing.given tasks vars side)
given_clears tasks vars (tree.answer ask) after calm = ask_clears tasks vars ask after calm
given_clears tasks vars (tree.result_of x) after calm = expression_clears vars x after calm

semi_clears : (parts : List Part) → Clears parts → Clears (parts ++ mark m.Semi ∷ [])
semi_clears parts h after calm =
    clear-append parts (mark m.Semi ∷ []) after (h (mark m.Semi ∷ after) (λ t. refl))
    (refl, calm (toks.Mark m.Semi), tt)

assigned_clears : (x : ℕ) (names : List Name) (parts : List Part) → Clears parts
    → Clears (name names x ∷ listing.assigned parts)
assigned_clears x names parts h after calm = (refl, refl, (refl, refl, semi_clears parts h after calm))

-- a block's lines, between braces
braces_clears : (indent : List ℕ) (parts : List Part) → Clears parts → Clears (listing.braces indent parts)
braces_clears indent parts h after calm = (
  refl,
  refl,
  clear-append parts (blanks indent ∷ mark m.BraceClose ∷ []) after
      (h (blanks indent ∷ mark m.BraceClose ∷ after) (indent_calm indent after))
      (refl, calm (toks.Mark m.BraceClose), tt),
)
  where
    indent_calm : (indent : List ℕ) (after : List Part) → IsCalm (blanks indent ∷ mark m.BraceClose ∷ after)
    indent_calm [] after t = refl
    indent_calm (b ∷ indent) after t = refl

else_calm : (tasks vars : List Name) (indent : List ℕ) (other : Otherwise) (after : List Part) → IsCalm after
    → IsCalm (listing.else_parts tasks vars indent other ++ after)
else_calm tasks vars indent tree.nothing after calm = calm
else_calm tasks vars indent (tree.block body) after calm = λ t. refl

mutual
  pub statement_clears : (tasks vars : List Name) (indent : List ℕ) (s : Statement)
      → Clears (listing.statement tasks vars indent s)
  statement_clears tasks vars indent (tree.let_new x side) after calm =
      (refl, refl, assigned_clears x vars (listing.given tasks vars side) (given_clears tasks vars side) after calm)
  statement_clears tasks vars indent (tree.assign x side) after calm =
      assigned_clears x vars (listing.given tasks vars side) (given_clears tasks vars side) after calm
  statement_clears tasks vars indent (tree.ask call) after calm =
      semi_clears (listing.ask tasks vars call) (ask_clears tasks vars call) after calm
  statement_clears tasks vars indent (tree.print x) after calm =
      (refl, refl, semi_clears (expression vars x) (expression_clears vars x) after calm)
  statement_clears tasks vars indent (tree.set_cell x e) after calm =
      (refl, refl, assigned_clears x vars (expression vars e) (expression_clears vars e) after calm)
  statement_clears tasks vars indent (tree.return x) after calm =
      (refl, refl, semi_clears (expression vars x) (expression_clears vars x) after calm)
  statement_clears tasks vars indent (tree.choose x body other) after calm =
      let block = listing.braces indent (listing.lines tasks vars (listing.deeper indent) body) in
      let rest = listing.else_parts tasks vars indent other in (
        refl,
        refl,
        then (expression vars x) (space ∷ (block ++ rest)) (expression_clears vars x)
            (then block rest (braces_clears indent (listing.lines tasks vars (listing.deeper indent) body)
            (lines_clear tasks vars (listing.deeper indent) body)) (else_clears tasks vars indent other)
            (else_calm tasks vars indent other))
            (λ later c t. refl) after calm,
      )
  statement_clears tasks vars indent (tree.repeat x body) after calm =
      let block = listing.braces indent (listing.lines tasks vars (listing.deeper indent) body) in (
        refl,
        refl,
        then (expression vars x) (space ∷ block) (expression_clears vars x)
            (braces_clears indent (listing.lines tasks vars (listing.deeper indent) body)
            (lines_clear tasks vars (listing.deeper indent) body)) (λ later c t. refl) after calm,
      )

  pub lines_clear : (tasks vars : List Name) (indent : List ℕ) (body : Statements)
      → Clears (listing.lines tasks vars indent body)
  lines_clear tasks vars indent tree.no_more after calm = tt
  lines_clear tasks vars indent (tree.then_do s rest) after calm =
      then (listing.statement tasks vars indent s) (line_end ∷ listing.lines tasks vars indent rest)
      (statement_clears tasks vars indent s)
      (lines_clear tasks vars indent rest) (λ later c t. refl) after calm

  else_clears : (tasks vars : List Name) (indent : List ℕ) (other : Otherwise)
      → Clears (listing.else_parts tasks vars indent other)
  else_clears tasks vars indent tree.nothing after calm = tt
  else_clears tasks vars indent (tree.block body) after calm = (
    refl,
    refl,
    braces_clears indent (listing.lines tasks vars (listing.deeper indent) body)
        (lines_clear tasks vars (listing.deeper indent) body) after calm,
  )

more_params_calm : (xs : List Name) (after : List Part) → IsCalm after → IsCalm (listing.more_params xs ++ after)
more_params_calm [] after calm = calm
more_params_calm (x ∷ xs) after calm = λ t. refl

more_params_clear : (xs : List Name) → Clears (listing.more_params xs)
more_params_clear [] after calm = tt
more_params_clear (x ∷ xs) after calm = (
  refl,
  refl,
  (refl, more_params_calm xs after calm (toks.Name x), more_params_clear xs after calm),
)

params_clear : (xs : List Name) → Clears (listing.params xs)
params_clear [] after calm = tt
params_clear (x ∷ xs) after calm = (refl, more_params_calm xs after calm (toks.Name x), more_params_clear xs after calm)

params_open : (xs : List Name) (rest : List Part) → Opens (listing.params xs ++ mark m.ParenClose ∷ rest)
params_open [] rest t after = refl
params_open (x ∷ xs) rest t after = refl

task_clears : (tasks : List Name) (t : Task) (after : List Part) → AreClear (listing.task tasks t) after
task_clears tasks t after =
    let some = take t.params t.vars in
    let block = listing.block tasks t.vars [] t.body in (
      refl,
      refl,
      (
        refl,
        refl,
        (
          refl,
          params_open some (space ∷ (block ++ line_end ∷ [])) m.ParenOpen after,
          clear-append (listing.params some) (mark m.ParenClose ∷ space ∷ (block ++ line_end ∷ [])) after
              (params_clear some (mark m.ParenClose ∷ space ∷ ((block ++ line_end ∷ []) ++ after)) (λ u. refl)) (
                refl,
                refl,
                clear-append block (line_end ∷ []) after
                    (braces_clears [] (listing.lines tasks t.vars (listing.deeper []) t.body)
                    (lines_clear tasks t.vars (listing.deeper []) t.body)
                    (line_end ∷ after) (λ u. refl))
                    tt,
              ),
        ),
      ),
    )

tasks_clear : (tasks : List Name) (ts : List Task) (after : List Part)
    → AreClear (flat_map (listing.task tasks) ts) after
tasks_clear tasks [] after = tt
tasks_clear tasks (t ∷ ts) after =
    clear-append (listing.task tasks t) (flat_map (listing.task tasks) ts) after
    (task_clears tasks t (flat_map (listing.task tasks) ts ++ after)) (tasks_clear tasks ts after)

pub script_clears : (script : List Task) → AreClear (listing.script script) []
script_clears script = tasks_clear (listing.names_of script) script []
