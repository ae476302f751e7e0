-- The law of told reasons: what is told is what fails first, by the values that the language gives to the parts of the
-- statement, in the order in which it tests them. It speaks of values alone, and not of how a reason is found.
use Rattle.std.specs.Prelude.{◌≡◌, ◌⊎◌, ◌&&◌, ℕ, ℤ, ◌+ℤ◌, ◌-ℤ◌, ◌*ℤ◌, neg_ℤ, int_div, Bool, true, false, List, [], ◌∷◌}
use Rattle.std.specs.Prelude.{map, Option, Some, None, Ok}
use Rattle.tj_base.specs.ForkOrder.{Name}
use Rattle.tj_base.specs.declared.cell.Sort.{Sort}
use Rattle.tj_base.specs.declared.cell.Sort.TheVariants as sort
use Rattle.tj_base.specs.declared.value.Pay.{Pay}
use Rattle.tj_base.specs.declared.value.Pay.TheVariants as pay
use Rattle.tj_body.specs.History.{reference_at, value_at}
use Rattle.tj_body.specs.declared.point.Reference.{Reference}
use Rattle.tj_syntax.specs.declared.expr.Op.{Op}
use Rattle.tj_syntax.specs.declared.expr.Op.TheVariants as op
use Rattle.tj_syntax.specs.declared.expr.RefOf.{RefOf}
use Rattle.tj_syntax.specs.declared.expr.RefOf.TheVariants as ref
use Rattle.tj_syntax.specs.Trees as tree
use Rattle.tj_syntax.specs.Trees.{Argument, Ask, Expression, Given, Pairs, Statement}
use Rattle.tj_eval.specs.Expressions.{applied, held, is_i64, is_zero, value}
use Rattle.tj_reasons.specs.Reasons.{failed_at, no_value}
use Rattle.tj_reasons.specs.declared.reason.Met.TheVariants as met
use Rattle.tj_reasons.specs.declared.reason.Reason.{Reason}
use Rattle.tj_reasons.specs.declared.reason.Reason.TheVariants as reason
use Rattle.tj_reasons.specs.declared.reason.Wanted.{Wanted}
use Rattle.tj_reasons.specs.declared.reason.Wanted.TheVariants as wanted

-- the operator divides
abbrev pub divides : Op → Bool
divides op.Plus = false
divides op.Minus = false
divides op.Times = false
divides op.Over = true
divides op.Rest = true

-- the exact number that must have 64 bits: the result, and of a rest its quotient
abbrev pub exactly : Op → ℤ → ℤ → ℤ
exactly op.Plus a b = a +ℤ b
exactly op.Minus a b = a -ℤ b
exactly op.Times a b = a *ℤ b
exactly op.Over a b = int_div a b
exactly op.Rest a b = int_div a b

-- an operation on these numbers fails: it divides by zero, or it doesn't and its result is past 64 bits
abbrev pub OperationFails : Op → ℤ → ℤ → Reason → Type 0
OperationFails o a b reason.Division = (divides o ≡ true) × (is_zero b ≡ true)
OperationFails o a b reason.Overflow = ((divides o && is_zero b) ≡ false) × (is_i64 (exactly o a b) ≡ false)
OperationFails o a b (reason.Met m w) = ⊥

-- a cell stands where a number is wanted: a variable refers to it, or it is the task itself
abbrev pub IsMetCell : List Pay → Expression → Reason → Type 0
IsMetCell vars (tree.number n) r = ⊥
IsMetCell vars (tree.variable y) r =
    (k : ℕ) × (held vars y ≡ pay.Ref k) × (r ≡ reason.Met (met.Variable y) wanted.Number)
IsMetCell vars tree.me r = r ≡ reason.Met met.Itself wanted.Number
IsMetCell vars (tree.negation e) r = ⊥
IsMetCell vars (tree.chain e pairs) r = ⊥
IsMetCell vars (tree.comparison rel a b) r = ⊥

abbrev mutual
  -- the expression has no value for this reason: of its parts, from the left, the first one that fails or is no number,
  -- else the operation
  pub FailsBy : List Pay → Expression → Reason → Type 0
  FailsBy vars (tree.number n) r = ⊥
  FailsBy vars (tree.variable y) r = ⊥
  FailsBy vars tree.me r = ⊥
  FailsBy vars (tree.negation e) r = (FailsBy vars e r ⊎ IsMetCell vars e r)
      ⊎ ((n : ℤ) × (value vars e ≡ Ok (pay.Num n)) × (is_i64 (neg_ℤ n) ≡ false) × (r ≡ reason.Overflow))
  FailsBy vars (tree.chain e pairs) r = (FailsBy vars e r ⊎ IsMetCell vars e r)
      ⊎ ((n : ℤ) × (value vars e ≡ Ok (pay.Num n)) × ChainFails vars n pairs r)
  FailsBy vars (tree.comparison rel a b) r = (FailsBy vars a r ⊎ IsMetCell vars a r)
      ⊎ ((n : ℤ) × (value vars a ≡ Ok (pay.Num n)) × (FailsBy vars b r ⊎ IsMetCell vars b r))

  -- a chain whose operands so far have come to n fails behind them
  pub ChainFails : List Pay → ℤ → Pairs → Reason → Type 0
  ChainFails vars n tree.no_pairs r = ⊥
  ChainFails vars n (tree.pair o e more) r = (FailsBy vars e r ⊎ IsMetCell vars e r)
      ⊎ ((m : ℤ) × (value vars e ≡ Ok (pay.Num m)) × (OperationFails o n m r
      ⊎ ((k : ℤ) × (applied o n m ≡ Ok (pay.Num k)) × ChainFails vars k more r)))

-- the expression gives no number for this reason
abbrev pub NoNumber : List Pay → Expression → Reason → Type 0
NoNumber vars e r = FailsBy vars e r ⊎ IsMetCell vars e r

-- the wanted word of a sort of cells
abbrev pub wanted_cell : Sort → Wanted
wanted_cell sort.Task = wanted.Task
wanted_cell sort.Promise = wanted.Promise

module _ (x : Name) (references : List Reference) (vars : List Pay) where
  -- the variable refers to a cell
  abbrev pub HasCell : ℕ → Type 0
  HasCell y = (k : ℕ) × (held vars y ≡ pay.Ref k)

  -- the variable refers to a cell of this sort
  abbrev pub HasCellOf : Sort → ℕ → Type 0
  HasCellOf w y = (k : ℕ) × (held vars y ≡ pay.Ref k) × ((reference_at x references k).sort ≡ w)

  -- the variable has a number where a cell of this sort is wanted
  abbrev pub IsMetNumber : Sort → ℕ → Reason → Type 0
  IsMetNumber w y r = (n : ℤ) × (held vars y ≡ pay.Num n) × (r ≡ reason.Met (met.Number n) (wanted_cell w))

  -- the variable refers to a cell of another sort than is wanted
  abbrev pub IsMetOther : Sort → ℕ → Reason → Type 0
  IsMetOther w y r = (k : ℕ) × (held vars y ≡ pay.Ref k) × ((reference_at x references k).sort ≡ w → ⊥)
      × (r ≡ reason.Met (met.Variable y) (wanted_cell w))

  -- what is waited for is no cell of this sort; the task itself is a task
  abbrev pub NotAwaited : Sort → RefOf → Reason → Type 0
  NotAwaited w (ref.Var y) r = IsMetNumber w y r ⊎ IsMetOther w y r
  NotAwaited w ref.Me r = (sort.Task ≡ w → ⊥) × (r ≡ reason.Met met.Itself (wanted_cell w))

  -- it is one
  abbrev pub IsAwaited : Sort → RefOf → Type 0
  IsAwaited w (ref.Var y) = HasCellOf w y
  IsAwaited w ref.Me = sort.Task ≡ w

  -- what stands behind `or` has no value
  abbrev pub OtherFails : Option Expression → Reason → Type 0
  OtherFails None r = ⊥
  OtherFails (Some e) r = FailsBy vars e r

  -- the argument has no value, or hands on what is no cell
  abbrev pub ArgumentFails : Argument → Reason → Type 0
  ArgumentFails (tree.own y) r = IsMetNumber sort.Promise y r
  ArgumentFails (tree.value e) r = FailsBy vars e r

  -- it has one
  abbrev pub HasArgument : Argument → Type 0
  HasArgument (tree.own y) = HasCell y
  HasArgument (tree.value e) = (v : Pay) × (value vars e ≡ Ok v)

  -- the first of the arguments that fails
  abbrev pub ArgumentsFail : List Argument → Reason → Type 0
  ArgumentsFail [] r = ⊥
  ArgumentsFail (a ∷ more) r = ArgumentFails a r ⊎ (HasArgument a × ArgumentsFail more r)

  -- each of them has a value
  abbrev pub HaveArguments : List Argument → Type 0
  HaveArguments [] = Unit {0}
  HaveArguments (a ∷ more) = HasArgument a × HaveArguments more

  -- the first of the arguments handed on that is no promise
  abbrev pub HandsFail : List Argument → Reason → Type 0
  HandsFail [] r = ⊥
  HandsFail (tree.own y ∷ more) r = IsMetOther sort.Promise y r ⊎ (HasCellOf sort.Promise y × HandsFail more r)
  HandsFail (tree.value e ∷ more) r = HandsFail more r

  -- the ask fails for this reason
  abbrev pub AskFails : Ask → Reason → Type 0
  AskFails tree.new r = ⊥
  AskFails (tree.fork f list) r = ArgumentsFail list r ⊎ (HaveArguments list × HandsFail list r)
  AskFails (tree.get c other) r = NotAwaited sort.Promise c r ⊎ (IsAwaited sort.Promise c × OtherFails other r)
  AskFails (tree.join c other) r = NotAwaited sort.Task c r ⊎ (IsAwaited sort.Task c × OtherFails other r)

  -- what a variable is given fails for this reason
  abbrev pub GivenFails : Given → Reason → Type 0
  GivenFails (tree.answer q) r = AskFails q r
  GivenFails (tree.result_of e) r = FailsBy vars e r

  -- the statement fails for this reason: of its parts the first one, as the language tests them, that isn't what is
  -- wanted there
  abbrev pub StatementFails : Statement → Reason → Type 0
  StatementFails (tree.let_new y side) r = GivenFails side r
  StatementFails (tree.assign y side) r = GivenFails side r
  StatementFails (tree.ask q) r = AskFails q r
  StatementFails (tree.print e) r = NoNumber vars e r
  StatementFails (tree.set_cell y e) r = IsMetNumber sort.Promise y r
      ⊎ (HasCell y × (FailsBy vars e r ⊎ (((v : Pay) × (value vars e ≡ Ok v)) × IsMetOther sort.Promise y r)))
  StatementFails (tree.return e) r = FailsBy vars e r
  StatementFails (tree.choose e body other) r = NoNumber vars e r
  StatementFails (tree.repeat e body) r = NoNumber vars e r

-- what is told is what fails first: of an expression, where a number is wanted, and of a statement
pub record ReasonsAreFirst : Type 0 where
  pub values : (x : Name) (references : List Reference) (vars : List Pay) (e : Expression) (r : Reason)
      → no_value (map (value_at x references) vars) e ≡ Some r → FailsBy vars e r
  pub statements : (x : Name) (references : List Reference) (vars : List Pay) (s : Statement) (r : Reason)
      → failed_at (map (value_at x references) vars) s ≡ Some r → StatementFails x references vars s r
