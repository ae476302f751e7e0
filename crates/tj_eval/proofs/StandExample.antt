-- The numbers of a body by hand: `let`, an `if` of two with an `else` of one, a loop with an `if` in it, `return`.
use Rattle.std.proofs.Common.{◌≡◌, ℕ, pos, [], ◌∷◌, length, refl}
use Rattle.tj_syntax.specs.Trees as tree
use Rattle.tj_syntax.specs.Trees.{Statement, Statements, Expression}
use Rattle.tj_eval.specs.Statements.{TaskState, start}
use Rattle.tj_eval.specs.Stands.{within, numbers, Stand, stand_begun}

abbrev pub one : Expression
one = tree.number (pos 1)

abbrev pub zero_is : Expression
zero_is = tree.number (pos 0)

abbrev pub say : Statement
say = tree.print one

abbrev pub fork_if : Expression → Statement
fork_if e = tree.choose e (tree.then_do say (tree.then_do say tree.no_more))
    (tree.block (tree.then_do say tree.no_more))

abbrev pub loop : Statement
loop = tree.repeat one (tree.then_do (fork_if one) (tree.then_do say tree.no_more))

abbrev pub body : Statements
body = tree.then_do say (tree.then_do (fork_if one) (tree.then_do loop (tree.then_do (tree.return one) tree.no_more)))

-- 0 print, 1 if, 2 and 3 in it, 4 in its else, 5 while, 6 if in it, 7 and 8 and 9, 10 print, 11 return, 12 the brace
pub own_numbers : numbers 0 body ≡ 0 ∷ 1 ∷ 5 ∷ 11 ∷ []
own_numbers = refl

pub brace : length (within body) ≡ 12
brace = refl

abbrev pub task : TaskState
task = record { script = []; limit = 9; rest = []; vars = []; steps = 9; places = 1; due = start }

abbrev pub at : ℕ → Stand
at n = record { decl = 0; ahead = 99 ∷ []; at = n; called = 0 }

pub in_then : (stand_begun task (fork_if one) (at 1)).ahead ≡ 2 ∷ 3 ∷ 99 ∷ []
in_then = refl

pub in_else : (stand_begun task (fork_if zero_is) (at 1)).ahead ≡ 4 ∷ 99 ∷ []
in_else = refl

pub in_loop : (stand_begun task loop (at 5)).ahead ≡ 6 ∷ 10 ∷ 5 ∷ 99 ∷ []
in_loop = refl
