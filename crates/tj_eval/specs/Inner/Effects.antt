-- How what a function answers fits the meaning. Where memory was wanting nothing is said.
use Rattle.std.specs.Prelude.{◌≡◌, ◌++◌, ◌∷◌, [], length, ℕ, pos, Bool, true, false, List, Option, Some, None}
use Rattle.std.specs.Prelude.{Result, Ok, Err}
use Rattle.tj_base.specs.declared.cause.Trouble.{Trouble}
use Rattle.tj_body.specs.declared.ask.Ask.{Ask}
use Rattle.tj_body.specs.declared.ask.Ask.TheVariants as ask
use Rattle.tj_eval.specs.declared.fork.Passed.{Passed}
use Rattle.tj_eval.specs.declared.halt.Halt.{Halt}
use Rattle.tj_eval.specs.declared.halt.Halt.TheVariants.{Fault, Memory}
use Rattle.tj_eval.specs.Statements.{TaskState, Effect, goes_on, asks, fails, place, arguments, forked, fork_of, Next}
use Rattle.tj_eval.specs.Statements.{as_passed, references, begun, ended, failed, kept, next_ask, next_from, value_in}
use Rattle.tj_base.specs.declared.value.Pay.{Pay}
use Rattle.tj_base.specs.declared.value.Pay.TheVariants as pay
use Rattle.tj_syntax.specs.Trees as tree
use Rattle.tj_syntax.specs.Trees.{Argument, Expression, Statement, Task}

-- one value more as a child has it, whose place is noted if it is a reference
abbrev pub IsAdded : Pay → List Pay → List ℕ → List Pay → List ℕ → Type 0
IsAdded (pay.Num i) vars places new all = (all ≡ places) × (new ≡ vars ++ pay.Num i ∷ [])
IsAdded (pay.Ref k) vars places new all = (all ≡ places ++ k ∷ []) × (new ≡ vars ++ pay.Ref (length all) ∷ [])

-- the values as a child has them, with the places of the references among them, or the fault
abbrev pub IsPassed : Result (List Pay) Trouble → Result Passed Halt → Type 0
IsPassed computed (Ok p) =
    (values : List Pay) × (computed ≡ Ok values) × (p.vars.items ≡ as_passed 1 values) × (p.places ≡ references values)
IsPassed computed (Err (Fault fault)) = computed ≡ Err fault
IsPassed computed (Err Memory) = Unit {0}

-- the statement asks, or ends the task; the others are carried out without an ask
abbrev pub is_ask : Statement → Bool
is_ask (tree.let_new x (tree.answer q)) = true
is_ask (tree.let_new x (tree.result_of e)) = false
is_ask (tree.assign x (tree.answer q)) = true
is_ask (tree.assign x (tree.result_of e)) = false
is_ask (tree.ask q) = true
is_ask (tree.print e) = true
is_ask (tree.set_cell x e) = true
is_ask (tree.return e) = true
is_ask (tree.choose e body other) = false
is_ask (tree.repeat e body) = false

-- the variable has the value of the expression, or the fault is told and the task stays as it was
abbrev pub IsGiven : TaskState → ℕ → Expression → Result (Unit {0}) Trouble → TaskState → Type 0
IsGiven old x e (Ok done) new = (v : Pay) × (value_in old e ≡ Ok v) × (new ≡ kept (Some x) v old)
IsGiven old x e (Err fault) new = (value_in old e ≡ Err fault) × (new ≡ old)

-- the statement is carried out, or it asks; the task stays as it was where it asks or fails
abbrev pub IsStep : TaskState → Statement → Result Bool Halt → TaskState → Type 0
IsStep old s (Ok true) new = (begun old s ≡ goes_on new) × (new.steps ≡ old.steps) × (new.script ≡ old.script)
IsStep old s (Ok false) new = (is_ask s ≡ true) × (new ≡ old)
IsStep old s (Err (Fault fault)) new = (begun old s ≡ fails fault) × (new ≡ old)
IsStep old s (Err Memory) new = Unit {0}

-- the ask of the effect, and the task from then on, which stays as it was where it fails
abbrev pub IsAskOf : TaskState → Effect → Result (Ask TaskState) Halt → TaskState → Type 0
IsAskOf old effect (Ok ask) new = effect ≡ asks ask new
IsAskOf old effect (Err (Fault fault)) new = (effect ≡ fails fault) × (new ≡ old)
IsAskOf old effect (Err Memory) new = Unit {0}

-- The task has come to its next ask, where a statement asks that has begun, where none is left, or at a fault. What
-- `shown` makes of the answer is the statement.
abbrev pub ComesToAsk : {A : Type 0} → (A → Statement) → TaskState → Result (Option A) Halt → TaskState → Type 0
ComesToAsk shown old (Ok (Some s)) new =
    (next_ask old.steps old ≡ next_from new (begun new (shown s)) (next_ask new.steps))
    × (is_ask (shown s) ≡ true) × (new.script ≡ old.script)
ComesToAsk shown old (Ok None) new = next_ask old.steps old ≡ (ask.End (pay.Num (pos 0)), ended new)
ComesToAsk shown old (Err (Fault fault)) new = next_ask old.steps old ≡ (ask.Fail fault, failed new)
ComesToAsk shown old (Err Memory) new = Unit {0}

-- the next ask, with the task from then on; where it fails, the task has still to end
abbrev pub IsNext : Next → Result (Ask TaskState) Halt → TaskState → Type 0
IsNext next (Ok ask) new = (ask ≡ next.0) × (new ≡ next.1)
IsNext next (Err (Fault fault)) new = next ≡ (ask.Fail fault, failed new)
IsNext next (Err Memory) new = Unit {0}

-- the ask, and the task from then on
abbrev pub IsNextAsk : Next → Ask TaskState → TaskState → Type 0
IsNextAsk next ask new = (ask ≡ next.0) × (new ≡ next.1)

-- the task once its answer is taken, which stays as it was where it fails
abbrev pub IsAnswered : TaskState → Result TaskState Trouble → Result (Unit {0}) Trouble → TaskState → Type 0
IsAnswered old answered (Ok done) new = answered ≡ Ok new
IsAnswered old answered (Err fault) new = (answered ≡ Err fault) × (new ≡ old)

-- the ask for a child with the arguments
abbrev pub IsChild : TaskState → Task → List Argument → Result (Ask TaskState) Halt → Type 0
IsChild t d list (Ok ask) = (values : List Pay) × (arguments t.vars list ≡ Ok values) × (ask ≡ fork_of t d list values)
IsChild t d list (Err (Fault fault)) = arguments t.vars list ≡ Err fault
IsChild t d list (Err Memory) = Unit {0}

-- the ask of the fork, which the task awaits for each variable that is to have it
abbrev pub IsForkOf : TaskState → Option Task → List Argument → Result (Ask TaskState) Halt → Type 0
IsForkOf t d list (Ok ask) = (into : Option ℕ) → forked t d into list ≡ asks ask (record t { due = place into })
IsForkOf t d list (Err (Fault fault)) = (into : Option ℕ) → forked t d into list ≡ fails fault
IsForkOf t d list (Err Memory) = Unit {0}

-- it holds where memory wasn't wanting
abbrev pub IsSaid : {A : Type 0} → Result A Halt → Type 0 → Type 0
IsSaid (Ok x) P = P
IsSaid (Err (Fault fault)) P = P
IsSaid (Err Memory) P = Unit {0}
