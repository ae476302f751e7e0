-- At which statement a task stands as it asks: the one whose beginning gives the ask.
use Rattle.std.specs.Prelude.{◌≡◌, ℕ, zero, suc, pos, ◌+◌, List, [], ◌∷◌, length, Result, Ok, Err}
use Rattle.tj_base.specs.declared.value.Pay.TheVariants as pay
use Rattle.tj_base.specs.declared.cause.Trouble.{Trouble}
use Rattle.tj_base.specs.declared.cause.Trouble.TheVariants as trouble
use Rattle.tj_body.specs.declared.ask.Answer.{Answer}
use Rattle.tj_body.specs.declared.ask.Ask.{Ask}
use Rattle.tj_body.specs.declared.ask.Ask.TheVariants as ask
use Rattle.tj_body.specs.Asks.{new_places}
use Rattle.tj_syntax.specs.Trees.{Statement}
use Rattle.tj_eval.specs.Bodies.{script_asks}
use Rattle.tj_eval.specs.Stands.{IsAt, PlacedState, StandsRight, placed_then, within}
use Rattle.tj_eval.specs.Statements.{TaskState, Effect, goes_on, asks, fails, begun, answered}

-- the task has carried out its next statement, which asks nothing
pub record GoesOn (t new : TaskState) : Type 0 where
  pub statement : Statement
  pub rest : List Statement
  pub steps : ℕ
  pub is_next : t.rest ≡ statement ∷ rest
  pub may_begin : t.steps ≡ suc steps
  pub goes : begun (record t { rest = rest; steps = steps }) statement ≡ goes_on new

-- it has carried out some statements that ask nothing, one after another
pub data IsPath : TaskState → TaskState → Type 0 where
  path_here : (t : TaskState) → IsPath t t
  path_on : (t u v : TaskState) → GoesOn t u → IsPath u v → IsPath t v

-- the effect is the ask, or the fault that ends the task
abbrev pub IsAskOfEffect : Effect → Ask TaskState → Type 0
IsAskOfEffect (goes_on new) q = ⊥
IsAskOfEffect (asks a new) q = q ≡ a
IsAskOfEffect (fails fault) q = q ≡ ask.Fail fault

-- The task with these statements left, of which so many may begin, stands at the first of them and asks this as that
-- statement begins, or since it may not begin; where none is left, it stands at the closing brace and ends.
abbrev pub AsksWhere : List Statement → ℕ → TaskState → List Statement → ℕ → Ask TaskState → Type 0
AsksWhere all at t [] n q = (at ≡ length all) × (q ≡ ask.End (pay.Num (pos 0)))
AsksWhere all at t (s ∷ rest) zero q = IsAt all at s × (q ≡ ask.Fail trouble.Steps)
AsksWhere all at t (s ∷ rest) (suc n) q =
    IsAt all at s × IsAskOfEffect (begun (record t { rest = rest; steps = n }) s) q

-- by statements that ask nothing the task comes to where it stands, and asks this there
pub record AsksAt (all : List Statement) (at : ℕ) (t : TaskState) (q : Ask TaskState) : Type 0 where
  pub last : TaskState
  pub path : IsPath t last
  pub asks : AsksWhere all at last last.rest last.steps q

-- the same of a task that has taken its answer; where it has failed at it, it stands where it stood
abbrev pub AsksAfter : List Statement → ℕ → ℕ → Result TaskState Trouble → Ask TaskState → Type 0
AsksAfter all before at (Ok t) q = AsksAt all at t q
AsksAfter all before at (Err fault) q = (at ≡ before) × (q ≡ ask.Fail fault)

-- given the answer, a task that stands right stands at the statement that gives its ask
abbrev pub StandsAtItsAsk : Type 0
StandsAtItsAsk = (x : PlacedState) (a : Answer) (h : StandsRight x)
    → let t = record x.task { places = x.task.places + new_places a } in
    AsksAfter (within h.task.body) x.stand.at (placed_then x a).stand.at (answered t t.due a) (script_asks x.task a)
