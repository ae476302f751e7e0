-- Why a task failed by `arith` or `kind`: by what its variables held, and the statement at which it stood.
use Rattle.std.specs.Prelude.{ℕ, ℤ, pos, ◌+ℤ◌, ◌-ℤ◌, ◌*ℤ◌, neg_ℤ, int_div, int_rem, Bool, true, false, cond, List, [], ◌∷◌}
use Rattle.std.specs.Prelude.{get_or, Option, Some, None, Result, Ok, Err}
use Rattle.std.specs.Option.{option_or}
use Rattle.tj_base.specs.declared.cell.Sort.{Sort}
use Rattle.tj_base.specs.declared.cell.Sort.TheVariants as sort
use Rattle.tj_body.specs.declared.point.Value.{Value}
use Rattle.tj_body.specs.declared.point.Value.TheVariants as value
use Rattle.tj_syntax.specs.declared.expr.Op.{Op}
use Rattle.tj_syntax.specs.declared.expr.Op.TheVariants as op
use Rattle.tj_syntax.specs.declared.expr.Rel.{Rel}
use Rattle.tj_syntax.specs.declared.expr.RefOf.{RefOf}
use Rattle.tj_syntax.specs.declared.expr.RefOf.TheVariants as ref
use Rattle.tj_syntax.specs.Trees as tree
use Rattle.tj_syntax.specs.Trees.{Argument, Ask, Expression, Given, Pairs, Statement}
use Rattle.tj_eval.specs.Expressions.{compares, is_i64, is_zero}
use Rattle.tj_reasons.specs.declared.reason.Met.{Met}
use Rattle.tj_reasons.specs.declared.reason.Met.TheVariants as met
use Rattle.tj_reasons.specs.declared.reason.Reason.{Reason}
use Rattle.tj_reasons.specs.declared.reason.Reason.TheVariants as reason
use Rattle.tj_reasons.specs.declared.reason.Wanted.{Wanted}
use Rattle.tj_reasons.specs.declared.reason.Wanted.TheVariants as wanted

-- what an expression came to, or why it came to nothing
abbrev pub Found : Type 0
Found = Result Met Reason

-- what a variable held
abbrev pub held_in : List Value → ℕ → Value
held_in held x = get_or held x (value.Num (pos 0))

-- the value of a variable, as it is met
abbrev pub met_as : ℕ → Value → Met
met_as x (value.Num n) = met.Number n
met_as x (value.Ref r) = met.Variable x

-- a number, which was wanted; else the reason is what was met
abbrev pub as_number : Met → Result ℤ Reason
as_number (met.Number n) = Ok n
as_number (met.Variable x) = Err (reason.Met (met.Variable x) wanted.Number)
as_number met.Itself = Err (reason.Met met.Itself wanted.Number)

-- goes on with what was found
abbrev pub and_then : {A B : Type 0} → Result A Reason → (A → Result B Reason) → Result B Reason
and_then (Ok x) go = go x
and_then (Err r) go = Err r

-- goes on with a number
abbrev pub with_number : {A : Type 0} → Found → (ℤ → Result A Reason) → Result A Reason
with_number found go = and_then (and_then found as_number) go

-- an exact result, where it is one of 64 bits
abbrev pub exact : ℤ → Result ℤ Reason
exact n = cond (is_i64 n) (Ok n) (Err reason.Overflow)

-- what the operator gives. A rest overflows where the quotient does.
abbrev pub applied : Op → ℤ → ℤ → Result ℤ Reason
applied op.Plus a b = exact (a +ℤ b)
applied op.Minus a b = exact (a -ℤ b)
applied op.Times a b = exact (a *ℤ b)
applied op.Over a b = cond (is_zero b) (Err reason.Division) (exact (int_div a b))
applied op.Rest a b =
    cond (is_zero b) (Err reason.Division) (cond (is_i64 (int_div a b)) (Ok (int_rem a b)) (Err reason.Overflow))

-- the number of a truth value
abbrev pub truth : Bool → ℤ
truth true = pos 1
truth false = pos 0

-- a number, as it is met
abbrev pub met_number : Result ℤ Reason → Found
met_number (Ok n) = Ok (met.Number n)
met_number (Err r) = Err r

abbrev mutual
  -- what an expression came to of a task whose variables held these
  pub found : List Value → Expression → Found
  found held (tree.number n) = Ok (met.Number n)
  found held (tree.variable x) = Ok (met_as x (held_in held x))
  found held tree.me = Ok met.Itself
  found held (tree.negation e) = met_number (with_number (found held e) (λ n. exact (neg_ℤ n)))
  found held (tree.chain e pairs) = met_number (with_number (found held e) (λ n. chained held n pairs))
  found held (tree.comparison rel a b) = met_number (with_number (found held a)
      (λ n. with_number (found held b) (λ m. Ok (truth (compares rel n m)))))

  -- what a chain came to whose operands so far came to n
  pub chained : List Value → ℤ → Pairs → Result ℤ Reason
  chained held n tree.no_pairs = Ok n
  chained held n (tree.pair op e more) =
      with_number (found held e) (λ m. and_then (applied op n m) (λ r. chained held r more))

-- the reason, if there is one
abbrev pub reason_of : {A : Type 0} → Result A Reason → Option Reason
reason_of (Ok x) = None
reason_of (Err r) = Some r

-- why no value came of an expression
abbrev pub no_value : List Value → Expression → Option Reason
no_value held e = reason_of (found held e)

-- why no number came of it
abbrev pub no_number : List Value → Expression → Option Reason
no_number held e = reason_of (and_then (found held e) as_number)

-- a cell of this sort is wanted
abbrev pub wanted_of : Sort → Wanted
wanted_of sort.Task = wanted.Task
wanted_of sort.Promise = wanted.Promise

-- the two sorts are one
abbrev pub is_sort : Sort → Sort → Bool
is_sort sort.Task sort.Task = true
is_sort sort.Task sort.Promise = false
is_sort sort.Promise sort.Task = false
is_sort sort.Promise sort.Promise = true

-- why a variable with this value refers to no cell: it has a number
abbrev pub no_reference : Sort → ℕ → Value → Option Reason
no_reference s x (value.Num n) = Some (reason.Met (met.Number n) (wanted_of s))
no_reference s x (value.Ref r) = None

-- why one that refers to a cell refers to none of this sort
abbrev pub other_sort : Sort → ℕ → Value → Option Reason
other_sort s x (value.Num n) = None
other_sort s x (value.Ref r) = cond (is_sort s r.sort) None (Some (reason.Met (met.Variable x) (wanted_of s)))

-- why a variable with this value refers to no cell of this sort
abbrev pub no_cell : Sort → ℕ → Value → Option Reason
no_cell s x v = option_or (no_reference s x v) (other_sort s x v)

-- why what is waited for is no cell of this sort; the task itself is a task
abbrev pub not_awaited : Sort → List Value → RefOf → Option Reason
not_awaited s held (ref.Var x) = no_cell s x (held_in held x)
not_awaited s held ref.Me = cond (is_sort s sort.Task) None (Some (reason.Met met.Itself (wanted_of s)))

-- why no value came of what stands behind `or`
abbrev pub no_other : List Value → Option Expression → Option Reason
no_other held None = None
no_other held (Some e) = no_value held e

-- why no value came of an argument: what is handed has to be a cell
abbrev pub no_argument : List Value → Argument → Option Reason
no_argument held (tree.own x) = no_reference sort.Promise x (held_in held x)
no_argument held (tree.value e) = no_value held e

-- the same of the first of several for which there is a reason
abbrev pub no_arguments : List Value → List Argument → Option Reason
no_arguments held [] = None
no_arguments held (a ∷ more) = option_or (no_argument held a) (no_arguments held more)

-- why what is handed is no promise
abbrev pub no_promise : List Value → Argument → Option Reason
no_promise held (tree.own x) = other_sort sort.Promise x (held_in held x)
no_promise held (tree.value e) = None

-- the same of the first of several arguments
abbrev pub no_promises : List Value → List Argument → Option Reason
no_promises held [] = None
no_promises held (a ∷ more) = option_or (no_promise held a) (no_promises held more)

-- why an ask failed
abbrev pub ask_failed : List Value → Ask → Option Reason
ask_failed held tree.new = None
ask_failed held (tree.fork f list) = option_or (no_arguments held list) (no_promises held list)
ask_failed held (tree.get r other) = option_or (not_awaited sort.Promise held r) (no_other held other)
ask_failed held (tree.join r other) = option_or (not_awaited sort.Task held r) (no_other held other)

-- why a variable was given nothing
abbrev pub not_given : List Value → Given → Option Reason
not_given held (tree.answer q) = ask_failed held q
not_given held (tree.result_of e) = no_value held e

-- why a statement failed by `arith` or `kind` that failed so
abbrev pub failed_at : List Value → Statement → Option Reason
failed_at held (tree.let_new x side) = not_given held side
failed_at held (tree.assign x side) = not_given held side
failed_at held (tree.ask q) = ask_failed held q
failed_at held (tree.print e) = no_number held e
failed_at held (tree.set_cell x e) = option_or (no_reference sort.Promise x (held_in held x))
    (option_or (no_value held e) (other_sort sort.Promise x (held_in held x)))
failed_at held (tree.return e) = no_value held e
failed_at held (tree.choose e body other) = no_number held e
failed_at held (tree.repeat e body) = no_number held e
