-- The law of reasons: an expression comes to nothing, and a statement fails as it begins, exactly where the reason says
-- so, for the fault that the meaning of statements has.
use Rattle.std.specs.Prelude.{◌≡◌, List, map, length, slice_get, Option, Some, None, Ok, Err}
use Rattle.tj_base.specs.ForkOrder.{Name}
use Rattle.tj_base.specs.declared.cause.Trouble.{Trouble}
use Rattle.tj_base.specs.declared.cause.Trouble.TheVariants as trouble
use Rattle.tj_base.specs.declared.value.Pay.{Pay}
use Rattle.tj_body.specs.History.{value_at}
use Rattle.tj_body.specs.declared.point.Reference.{Reference}
use Rattle.tj_syntax.specs.Parts.{own_ask}
use Rattle.tj_syntax.specs.Trees as tree
use Rattle.tj_syntax.specs.Trees.{Argument, Ask, Expression, Statement, Task}
use Rattle.tj_eval.specs.Expressions.{Computed, value}
use Rattle.tj_eval.specs.Statements.{TaskState, begun, fails}
use Rattle.tj_reasons.specs.Reasons.{failed_at, no_value}
use Rattle.tj_reasons.specs.declared.reason.Reason.{Reason}
use Rattle.tj_reasons.specs.declared.reason.Reason.TheVariants as reason

-- the fault of which a reason tells
abbrev pub trouble_of : Reason → Trouble
trouble_of reason.Division = trouble.Arith
trouble_of reason.Overflow = trouble.Arith
trouble_of (reason.Met m w) = trouble.Kind

-- there is a reason, and it tells of this fault
abbrev pub TellsOf : Trouble → Option Reason → Type 0
TellsOf fault None = ⊥
TellsOf fault (Some r) = trouble_of r ≡ fault

-- there is a reason exactly where nothing was computed
abbrev pub IsToldOf : Computed → Option Reason → Type 0
IsToldOf (Ok v) r = r ≡ None
IsToldOf (Err fault) r = TellsOf fault r

-- what is forked is declared, with as many parameters as there are arguments
abbrev pub IsDeclared : List Task → Option Ask → Type 0
IsDeclared script None = Unit {0}
IsDeclared script (Some tree.new) = Unit {0}
IsDeclared script (Some (tree.fork f list)) = (d : Task) × (slice_get script f ≡ Some d) × (length list ≡ d.params)
IsDeclared script (Some (tree.get r other)) = Unit {0}
IsDeclared script (Some (tree.join r other)) = Unit {0}

-- so it is of the reason that is told by what variables held, whatever cells their places referred to
pub record ReasonsAreRight : Type 0 where
  pub values : (x : Name) (references : List Reference) (vars : List Pay) (e : Expression)
      → IsToldOf (value vars e) (no_value (map (value_at x references) vars) e)
  pub statements : (x : Name) (references : List Reference) (t : TaskState) (s : Statement) (fault : Trouble)
      → IsDeclared t.script (own_ask s) → begun t s ≡ fails fault
      → TellsOf fault (failed_at (map (value_at x references) t.vars) s)
