-- Where a task stands in its declaration. The statements of a declaration have numbers, in the order of the text.
use Rattle.std.specs.Prelude.{◌≡◌, ℕ, zero, suc, ℤ, ◌+◌, if◌then◌else◌, List, [], ◌∷◌, ◌++◌, length, slice_get, Option}
use Rattle.std.specs.Prelude.{Some, None, Result, Ok, Err}
use Rattle.tj_base.specs.declared.cause.Trouble.{Trouble}
use Rattle.tj_body.specs.declared.ask.Answer.{Answer}
use Rattle.tj_body.specs.declared.ask.Ask.{Ask}
use Rattle.tj_body.specs.Asks.{Await, new_places}
use Rattle.tj_body.specs.KeptFacts.{HoldsOfFork}
use Rattle.tj_body.specs.SeenAs.{ask_as}
use Rattle.tj_syntax.specs.Trees as tree
use Rattle.tj_syntax.specs.Trees.{Given, Statement, Statements, Otherwise, Task}
pub use Rattle.tj_syntax.specs.Within.{inside, within, within_other}
use Rattle.tj_eval.specs.Expressions.{is_zero}
use Rattle.tj_eval.specs.Statements.{TaskState, Effect, goes_on, asks, fails, begun, value_in, number, answered}
use Rattle.tj_syntax.specs.Faults.{main_of}
use Rattle.tj_eval.specs.Bodies.{IsMainBody, script_places, script_awaits, script_left, script_asks, script_then}

-- the numbers of a block's own statements, of which the first has number n
-- a count and no path through the blocks: one list of positions, in the order of the text, serves a declaration
abbrev pub numbers : ℕ → Statements → List ℕ
numbers n tree.no_more = []
numbers n (tree.then_do s more) = n ∷ numbers (n + length (inside s)) more

-- the same of the block for a condition that is 0
abbrev pub other_numbers : ℕ → Otherwise → List ℕ
other_numbers n tree.nothing = []
other_numbers n (tree.block body) = numbers n body

-- where a task stands
pub record Stand : Type 0 where
  -- the declaration that it runs
  pub decl : ℕ
  -- the number of each remaining statement, and behind them that of the closing brace
  pub ahead : List ℕ
  -- the number of the statement that has begun last, or that of the closing brace
  pub at : ℕ
  -- the declaration that this statement forks, if it forks
  pub called : ℕ

-- the numbers of a task that has begun nothing yet
abbrev pub all_ahead : Option Task → List ℕ
all_ahead None = []
all_ahead (Some d) = numbers 0 d.body ++ length (within d.body) ∷ []

-- where a task stands that has begun nothing yet, and runs this declaration
abbrev pub stand_in : ℕ → Option Task → Stand
stand_in f d = record { decl = f; ahead = all_ahead d; at = 0; called = 0 }

-- the declaration that an ask forks
abbrev pub callee : tree.Ask → ℕ
callee tree.new = 0
callee (tree.fork f list) = f
callee (tree.get r other) = 0
callee (tree.join r other) = 0

-- the declaration that the answer of a statement's ask is of
abbrev pub given_callee : Given → ℕ
given_callee (tree.answer q) = callee q
given_callee (tree.result_of e) = 0

-- it stands at the first number ahead, with these ahead from then on
abbrev pub stand_at : ℕ → List ℕ → Stand → Stand
stand_at n ahead z = record z { at = n; ahead = ahead; called = 0 }

-- the closing brace is reached, and stays ahead
abbrev pub stand_over : List ℕ → Stand → Stand
stand_over [] z = z
stand_over (n ∷ more) z = stand_at n (n ∷ more) z

-- the next statement begins
abbrev pub stand_on : List ℕ → Stand → Stand
stand_on [] z = z
stand_on (n ∷ more) z = stand_at n more z

-- these come first
abbrev pub opened : List ℕ → Stand → Stand
opened numbers z = record z { ahead = numbers ++ z.ahead }

-- what the condition decides, if it is a number
abbrev pub decided : Result ℤ Trouble → (ℤ → List ℕ) → Stand → Stand
decided (Ok n) go z = opened (go n) z
decided (Err fault) go z = z

-- where the task stands once the statement, at which it stands, has begun
abbrev pub stand_begun : TaskState → Statement → Stand → Stand
stand_begun t (tree.let_new x side) z = record z { called = given_callee side }
stand_begun t (tree.assign x side) z = record z { called = given_callee side }
stand_begun t (tree.ask q) z = record z { called = callee q }
stand_begun t (tree.print e) z = z
stand_begun t (tree.set_cell x e) z = z
stand_begun t (tree.return e) z = z
stand_begun t (tree.choose e body other) z = decided (number (value_in t e))
    (λ n. if is_zero n then other_numbers (suc z.at + length (within body)) other else numbers (suc z.at) body) z
stand_begun t (tree.repeat e body) z = decided (number (value_in t e))
    (λ n. if is_zero n then [] else numbers (suc z.at) body ++ z.at ∷ []) z

-- where it stands at the first ask from an effect on
abbrev pub stand_from : Stand → Effect → (TaskState → Stand → Stand) → Stand
stand_from z (goes_on new) go = go new z
stand_from z (asks a new) go = z
stand_from z (fails fault) go = z

-- where it stands at the next ask, where no statement is left, or where one begins
abbrev pub stand_of : Stand → List Statement → (Statement → List Statement → Stand → Stand) → Stand
stand_of z [] go = stand_over z.ahead z
stand_of z (s ∷ rest) go = go s rest (stand_on z.ahead z)

-- where it stands at the next ask, where so many statements may still begin
abbrev pub stand_ask : ℕ → TaskState → Stand → Stand
stand_ask zero t z = stand_of z t.rest (λ s rest w. w)
stand_ask (suc n) t z = stand_of z t.rest
    (λ s rest w. let on = record t { rest = rest; steps = n } in
    stand_from (stand_begun on s w) (begun on s) (stand_ask n))

-- the same of a task that has taken its answer, or has failed at it
abbrev pub stand_after : Result TaskState Trouble → Stand → Stand
stand_after (Ok new) z = stand_ask new.steps new z
stand_after (Err fault) z = z

-- where the task stands at what it asks for the answer
abbrev pub stand_next : TaskState → Answer → Stand → Stand
stand_next old a z = let t = record old { places = old.places + new_places a } in stand_after (answered t t.due a) z

-- A task that knows where it stands.
pub record PlacedState : Type 0 where
  pub task : TaskState
  pub stand : Stand

-- the same without its stand
abbrev pub erased : PlacedState → TaskState
erased x = x.task

-- a task of the script, at its beginning
abbrev pub placed : ℕ → TaskState → PlacedState
placed f t = record { task = t; stand = stand_in f (slice_get t.script f) }

-- the body of the script's task `main`, which knows that it stands at the beginning of that declaration
abbrev pub IsPlacedMain : List Task → ℕ → PlacedState → Type 0
IsPlacedMain script steps x = IsMainBody script steps x.task
    × ((f : ℕ) × (slice_get script f ≡ main_of script) × (x ≡ placed f x.task))

-- how many places the task has
abbrev pub placed_places : PlacedState → ℕ
placed_places x = script_places x.task

-- what it awaits
abbrev pub placed_awaits : PlacedState → Await
placed_awaits x = script_awaits x.task

-- at least the number of its asks that are left before its last one
abbrev pub placed_left : PlacedState → ℕ
placed_left x = script_left x.task

-- what it asks for an answer; what it forks stands at the beginning of the declaration that is forked
abbrev pub placed_asks : PlacedState → Answer → Ask PlacedState
placed_asks x a = ask_as (placed (stand_next x.task a x.stand).called) (script_asks x.task a)

-- what it is from then on
abbrev pub placed_then : PlacedState → Answer → PlacedState
placed_then x a = record { task = script_then x.task a; stand = stand_next x.task a x.stand }

-- Laws. The statement has this number among all.
pub record IsAt (all : List Statement) (n : ℕ) (s : Statement) : Type 0 where
  pub front : List Statement
  pub behind : List Statement
  pub split : all ≡ front ++ (inside s ++ behind)
  pub count : length front ≡ n

-- the numbers are those of these statements, and then that of the closing brace
abbrev pub AreNamed : List Statement → List ℕ → List Statement → Type 0
AreNamed all [] rest = ⊥
AreNamed all (n ∷ more) [] = (n ≡ length all) × (more ≡ [])
AreNamed all (n ∷ more) (s ∷ rest) = IsAt all n s × AreNamed all more rest

-- what is ahead are the numbers of the statements that remain, in the task's declaration
pub record StandsRight (x : PlacedState) : Type 0 where
  pub task : Task
  pub is_declared : slice_get x.task.script x.stand.decl ≡ Some task
  pub named : AreNamed (within task.body) x.stand.ahead x.task.rest

-- what an ask forks stands right
abbrev pub ForkStandsRight : Ask PlacedState → Type 0
ForkStandsRight = HoldsOfFork StandsRight
