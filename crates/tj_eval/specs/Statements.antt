-- The meaning of statements: what a task asks for each answer. A task is its list of remaining statements and its
-- variables, with the number of statements that may still begin.
use Rattle.std.specs.Prelude.{ℕ, zero, suc, ℤ, pos, ◌+◌, ◌-◌, nat_eq, if◌then◌else◌}
use Rattle.std.specs.Prelude.{List, [], ◌∷◌, ◌++◌, length, replicate, slice_get, slice_set}
use Rattle.std.specs.Prelude.{Option, Some, None, Result, Ok, Err}
use Rattle.tj_base.specs.declared.value.Pay.{Pay}
use Rattle.tj_base.specs.declared.value.Pay.TheVariants as pay
use Rattle.tj_base.specs.declared.cause.Trouble.{Trouble}
use Rattle.tj_base.specs.declared.cause.Trouble.TheVariants as trouble
use Rattle.tj_body.specs.declared.ask.Answer.{Answer}
use Rattle.tj_body.specs.declared.ask.Answer.TheVariants as answer
use Rattle.tj_body.specs.declared.ask.Ask.{Ask}
use Rattle.tj_body.specs.declared.ask.Ask.TheVariants as ask
use Rattle.tj_body.specs.Asks.{new_places}
use Rattle.tj_syntax.specs.declared.expr.RefOf.{RefOf}
use Rattle.tj_syntax.specs.declared.expr.RefOf.TheVariants as ref
use Rattle.tj_syntax.specs.Trees as tree
use Rattle.tj_syntax.specs.Trees.{Expression, Argument, Given, Statement, Statements, Otherwise, Task}
use Rattle.tj_eval.specs.Expressions.{Computed, with_number, with_reference, is_zero, held, value}

-- What a task awaits: to begin; the place of what it made, or the value of a cell, each for a variable or to be
-- dropped; the same or word that the cell is broken, in whose place an expression is computed; word that it is done;
-- nothing any more.
pub data Due : Type 0 where
  start : Due
  place : Option ℕ → Due
  cell : Option ℕ → Due
  cell_or : Option ℕ → Expression → Due
  done : Due
  over : Due

-- what a task awaits once it asks for a cell's value, with what stands behind `or`
abbrev pub cell_due : Option ℕ → Option Expression → Due
cell_due into None = cell into
cell_due into (Some e) = cell_or into e

-- a task between two of its asks
pub record TaskState : Type 0 where
  -- the script
  pub script : List Task
  -- how many statements each of its tasks may begin
  pub limit : ℕ
  -- the remaining statements
  pub rest : List Statement
  -- what its variables hold
  pub vars : List Pay
  -- how many statements may still begin
  pub steps : ℕ
  -- how many references the task has
  pub places : ℕ
  -- what it awaits
  pub due : Due

-- what a statement comes to: the task goes on without an ask, it asks, or it fails
pub data Effect : Type 0 where
  goes_on : TaskState → Effect
  asks : Ask TaskState → TaskState → Effect
  fails : Trouble → Effect

-- a task that has ended awaits nothing any more, and has no variables
abbrev pub ended : TaskState → TaskState
ended t = record t { vars = []; due = over }

-- a task that has failed awaits nothing any more, and its variables hold what they held
abbrev pub failed : TaskState → TaskState
failed t = record t { due = over }

-- the task with the value in the variable, if there is one for it
abbrev pub kept : Option ℕ → Pay → TaskState → TaskState
kept None v t = t
kept (Some x) v t = record t { vars = slice_set t.vars x v }

-- the statements of a block
abbrev pub listed : Statements → List Statement
listed tree.no_more = []
listed (tree.then_do s more) = s ∷ listed more

-- the value of an expression of the task
abbrev pub value_in : TaskState → Expression → Computed
value_in t e = value t.vars e

-- goes on with what was computed, or fails
abbrev pub then_effect : {A : Type 0} → Result A Trouble → (A → Effect) → Effect
then_effect (Ok x) go = go x
then_effect (Err fault) go = fails fault

-- what was computed, where it has to be a number
abbrev pub number : Computed → Result ℤ Trouble
number v = with_number v (λ n. Ok n)

-- the place of what was computed, where it has to be a reference
abbrev pub reference : Computed → Result ℕ Trouble
reference v = with_reference v (λ k. Ok k)

-- Forks. The value of an argument: what is handed has to be a reference.
abbrev pub argument : List Pay → Argument → Computed
argument vars (tree.own x) = with_reference (Ok (held vars x)) (λ k. Ok (pay.Ref k))
argument vars (tree.value e) = value vars e

-- a value in front of others, if they were computed
abbrev pub one_more : Pay → Result (List Pay) Trouble → Result (List Pay) Trouble
one_more v (Ok values) = Ok (v ∷ values)
one_more v (Err fault) = Err fault

-- the same, of a value that may be a fault itself, which then comes first
abbrev pub and_more : Computed → Result (List Pay) Trouble → Result (List Pay) Trouble
and_more (Ok v) more = one_more v more
and_more (Err fault) more = Err fault

-- the arguments from the left
abbrev pub arguments : List Pay → List Argument → Result (List Pay) Trouble
arguments vars [] = Ok []
arguments vars (x ∷ more) = and_more (argument vars x) (arguments vars more)

-- the references among the values, by their places
abbrev pub references : List Pay → List ℕ
references [] = []
references (pay.Num n ∷ values) = references values
references (pay.Ref k ∷ values) = k ∷ references values

-- what is handed: the variables that stand behind `own`
abbrev pub handed : List Pay → List Argument → List Pay
handed vars [] = []
handed vars (tree.own x ∷ more) = held vars x ∷ handed vars more
handed vars (tree.value e ∷ more) = handed vars more

-- the values as the child has them: its references have its own places, from this one on
abbrev pub as_passed : ℕ → List Pay → List Pay
as_passed k [] = []
as_passed k (pay.Num n ∷ values) = pay.Num n ∷ as_passed k values
as_passed k (pay.Ref other ∷ values) = pay.Ref k ∷ as_passed (suc k) values

-- a task of the script that begins with these arguments; its other variables are 0
abbrev pub task_of : List Task → ℕ → Task → List Pay → TaskState
task_of script limit d values = record {
  script = script;
  limit = limit;
  rest = listed d.body;
  vars = as_passed 1 values ++ replicate (length d.vars - length values) (pay.Num (pos 0));
  steps = limit;
  places = suc (length (references values));
  due = start;
}

-- the ask for a child with these arguments
abbrev pub fork_of : TaskState → Task → List Argument → List Pay → Ask TaskState
fork_of t d list values =
    ask.Fork (task_of t.script t.limit d values) (references values) (references (handed t.vars list))

-- A fork of the task, with as many arguments as it has parameters. No other fork stands in a script that was parsed.
abbrev pub forked : TaskState → Option Task → Option ℕ → List Argument → Effect
forked t None into list = fails trouble.Kind
forked t (Some d) into list = if nat_eq (length list) d.params
    then then_effect (arguments t.vars list) (λ values. asks (fork_of t d list values) (record t { due = place into }))
    else fails trouble.Kind

-- what holds the reference that a get or a join asks for
abbrev pub reference_of : TaskState → RefOf → Result ℕ Trouble
reference_of t (ref.Var x) = reference (Ok (held t.vars x))
reference_of t ref.Me = Ok 0

-- an ask, whose value is for the variable or is dropped
abbrev pub asked : TaskState → Option ℕ → tree.Ask → Effect
asked t into tree.new = asks ask.New (record t { due = place into })
asked t into (tree.fork f list) = forked t (slice_get t.script f) into list
asked t into (tree.get r None) = then_effect (reference_of t r) (λ k. asks (ask.Get k) (record t { due = cell into }))
asked t into (tree.get r (Some e)) =
    then_effect (reference_of t r) (λ k. asks (ask.GetOr k) (record t { due = cell_or into e }))
asked t into (tree.join r None) = then_effect (reference_of t r) (λ k. asks (ask.Join k) (record t { due = cell into }))
asked t into (tree.join r (Some e)) =
    then_effect (reference_of t r) (λ k. asks (ask.JoinOr k) (record t { due = cell_or into e }))

-- a variable is given the answer to an ask, or the value of an expression
abbrev pub given : TaskState → ℕ → Given → Effect
given t x (tree.answer ask) = asked t (Some x) ask
given t x (tree.result_of e) = then_effect (value_in t e) (λ v. goes_on (kept (Some x) v t))

-- the task with these statements to come first
abbrev pub first : List Statement → TaskState → TaskState
first list t = record t { rest = list ++ t.rest }

-- the statements for a condition that is 0
abbrev pub otherwise : Otherwise → List Statement
otherwise tree.nothing = []
otherwise (tree.block body) = listed body

-- what a statement comes to, where t has what remains after it
abbrev pub begun : TaskState → Statement → Effect
begun t (tree.let_new x side) = given t x side
begun t (tree.assign x side) = given t x side
begun t (tree.ask q) = asked t None q
begun t (tree.print e) = then_effect (number (value_in t e)) (λ n. asks (ask.Emit n) (record t { due = done }))
begun t (tree.set_cell x e) = then_effect (reference (Ok (held t.vars x)))
    (λ k. then_effect (value_in t e) (λ v. asks (ask.Set k v) (record t { due = done })))
begun t (tree.return e) = then_effect (value_in t e) (λ v. asks (ask.End v) (ended t))
begun t (tree.choose e body other) = then_effect (number (value_in t e))
    (λ n. goes_on (first (if is_zero n then otherwise other else listed body) t))
begun t (tree.repeat e body) = then_effect (number (value_in t e))
    (λ n. goes_on (first (if is_zero n then [] else listed body ++ tree.repeat e body ∷ []) t))

-- what a task asks, and what it is from then on
abbrev pub Next : Type 0
Next = Ask TaskState × TaskState

-- the first ask from an effect on
abbrev pub next_from : TaskState → Effect → (TaskState → Next) → Next
next_from t (goes_on new) go = go new
next_from t (asks a new) go = (a, new)
next_from t (fails fault) go = (ask.Fail fault, failed t)

-- the next ask where no statement is left, or where one begins
abbrev pub next_of : TaskState → List Statement → (Statement → List Statement → Next) → Next
next_of t [] go = (ask.End (pay.Num (pos 0)), ended t)
next_of t (s ∷ rest) go = go s rest

-- the next ask, where so many statements may still begin; a statement that can't is no longer among those that remain
abbrev pub next_ask : ℕ → TaskState → Next
next_ask zero t = next_of t t.rest (λ s rest. (ask.Fail trouble.Steps, failed (record t { rest = rest })))
next_ask (suc n) t = next_of t t.rest
    (λ s rest. let on = record t { rest = rest; steps = n } in next_from on (begun on s) (next_ask n))

-- the value that is answered, if it is one
abbrev pub value_of : Answer → Option Pay
value_of answer.Start = None
value_of (answer.Local k) = Some (pay.Ref k)
value_of answer.Done = None
value_of (answer.Num n) = Some (pay.Num n)
value_of (answer.RefAt k) = Some (pay.Ref k)
value_of answer.Lost = None

-- the task with the value, if there is one, in the variable
abbrev pub kept_if : Option ℕ → Option Pay → TaskState → TaskState
kept_if into None t = t
kept_if into (Some v) t = kept into v t

-- the task with the value in place of that of a broken cell
abbrev pub or_else_of : TaskState → Option ℕ → Computed → Result TaskState Trouble
or_else_of t into (Ok v) = Ok (kept into v t)
or_else_of t into (Err fault) = Err fault

-- the task with the answer's value in the variable, or with that of the expression where the cell is broken
abbrev pub answered_or_else : TaskState → Option ℕ → Expression → Answer → Result TaskState Trouble
answered_or_else t into e answer.Start = Ok t
answered_or_else t into e (answer.Local k) = Ok (kept into (pay.Ref k) t)
answered_or_else t into e answer.Done = Ok t
answered_or_else t into e (answer.Num n) = Ok (kept into (pay.Num n) t)
answered_or_else t into e (answer.RefAt k) = Ok (kept into (pay.Ref k) t)
answered_or_else t into e answer.Lost = or_else_of t into (value_in t e)

-- the task once its ask is answered; after word that a cell is broken, the expression in its place is computed
abbrev pub answered : TaskState → Due → Answer → Result TaskState Trouble
answered t start a = Ok t
answered t (place into) a = Ok (kept_if into (value_of a) t)
answered t (cell into) a = Ok (kept_if into (value_of a) t)
answered t (cell_or into e) a = answered_or_else t into e a
answered t done a = Ok t
answered t over a = Ok t

-- the next ask of a task that has taken its answer, or has failed at it
abbrev pub next_after : TaskState → Result TaskState Trouble → Next
next_after t (Ok new) = next_ask new.steps new
next_after t (Err fault) = (ask.Fail fault, failed t)

-- what the task asks for the answer, and what it is from then on
abbrev pub next : TaskState → Answer → Next
next old a = let t = record old { places = old.places + new_places a } in next_after t (answered t t.due a)
