-- A statement that fails as it begins has a reason, which tells of its fault.
use Rattle.std.proofs.Common.{◌≡◌, ℕ, zero, suc, ℤ, pos, Bool, true, false, List, [], ◌∷◌, map, length, refl, ap, sym, ◌∙◌}
use Rattle.std.proofs.Common.{get_or, subst, eq-eqb, nat_eq, if◌then◌else◌}
use Rattle.std.specs.Prelude.{Option, Some, None, Result, Ok, Err, slice_get}
use Rattle.std.specs.Option.{option_or}
use Rattle.tj_base.specs.ForkOrder.{Name}
use Rattle.tj_base.specs.declared.cell.Sort.{Sort}
use Rattle.tj_base.specs.declared.cell.Sort.TheVariants as sort
use Rattle.tj_base.specs.declared.cause.Trouble.{Trouble}
use Rattle.tj_base.specs.declared.cause.Trouble.TheVariants as trouble
use Rattle.tj_base.specs.declared.value.Pay.{Pay}
use Rattle.tj_base.specs.declared.value.Pay.TheVariants as pay
use Rattle.tj_body.specs.History.{value_at}
use Rattle.tj_body.specs.declared.point.Reference.{Reference}
use Rattle.tj_body.specs.declared.point.Value.TheVariants as values
use Rattle.tj_syntax.specs.Parts.{own_ask}
use Rattle.tj_syntax.specs.declared.expr.RefOf.{RefOf}
use Rattle.tj_syntax.specs.declared.expr.RefOf.TheVariants as ref
use Rattle.tj_syntax.specs.Trees as tree
use Rattle.tj_syntax.specs.Trees.{Argument, Ask, Expression, Given, Statement, Task}
use Rattle.tj_eval.specs.Expressions as meaning
use Rattle.tj_eval.specs.Expressions.{Computed}
use Rattle.tj_eval.specs.Statements.{TaskState, Effect, goes_on, asks, fails, begun, asked, forked, given, number, reference}
use Rattle.tj_eval.specs.Statements.{reference_of, then_effect, and_more, argument, arguments, fork_of, place}
use Rattle.tj_reasons.specs.ReasonLaws.{IsDeclared, IsToldOf, ReasonsAreRight, TellsOf, trouble_of}
use Rattle.tj_reasons.specs.Reasons as told
use Rattle.tj_reasons.specs.Reasons.{Found}
use Rattle.tj_reasons.specs.declared.reason.Met.TheVariants as met
use Rattle.tj_reasons.specs.declared.reason.Reason.{Reason}
use Rattle.tj_reasons.proofs.ReasonsAgree.{Agrees, agrees, told_of}

-- the fault by which a task fails
abbrev fault_in : Effect → Trouble
fault_in (fails fault) = fault
fault_in effect = trouble.Steps

-- the task doesn't fail
abbrev NoFault : Effect → Type 0
NoFault (fails fault) = ⊥
NoFault (asks q new) = Unit {0}
NoFault (goes_on new) = Unit {0}

-- something was computed
abbrev Worked : {A : Type 0} → Result A Trouble → Type 0
Worked (Ok x) = Unit {0}
Worked (Err fault) = ⊥

-- the fault of what wasn't computed
abbrev fault_of : {A : Type 0} → Result A Trouble → Trouble
fault_of (Ok x) = trouble.Steps
fault_of (Err fault) = fault

-- a reason before others
before : (fault : Trouble) (a b : Option Reason) → TellsOf fault a → TellsOf fault (option_or a b)
before fault None b h = absurd h
before fault (Some r) b h = h

-- a reason where there is none before it
behind : (fault : Trouble) (a b : Option Reason) → a ≡ None → TellsOf fault b → TellsOf fault (option_or a b)
behind fault None b e h = h
behind fault (Some r) b e h = absurd (cc)

-- no number
no_number : (c : Computed) (f : Found) (go : ℤ → Effect) (fault : Trouble) → Agrees c f → ((n : ℤ) → NoFault (go n))
    → then_effect (number c) go ≡ fails fault → TellsOf fault (told.reason_of (told.and_then f told.as_number))
no_number (Ok (pay.Num n)) f go fault h goes e = absurd (subst NoFault e (goes n))
no_number (Ok (pay.Ref p)) (Ok (met.Variable y)) go fault h goes e = ap fault_in e
no_number (Ok (pay.Ref p)) (Ok met.Itself) go fault h goes e = ap fault_in e
no_number (Ok (pay.Ref p)) (Ok (met.Number k)) go fault h goes e = absurd h
no_number (Ok (pay.Ref p)) (Err r) go fault h goes e = absurd h
no_number (Err t) (Ok m) go fault h goes e = absurd h
no_number (Err t) (Err r) go fault h goes e = h ∙ ap fault_in e

-- no value
no_value : (c : Computed) (a : Option Reason) (go : Pay → Effect) (fault : Trouble) → IsToldOf c a
    → ((v : Pay) → NoFault (go v)) → then_effect c go ≡ fails fault → TellsOf fault a
no_value (Ok v) a go fault h goes e = absurd (subst NoFault e (goes v))
no_value (Err t) a go fault h goes e = subst (λ x. TellsOf x a) (ap fault_in e) h

-- of a value and what comes behind it
and_told : (c : Computed) (r : Result (List Pay) Trouble) (a b : Option Reason) (fault : Trouble) → IsToldOf c a
    → (r ≡ Err fault → TellsOf fault b) → and_more c r ≡ Err fault → TellsOf fault (option_or a b)
and_told (Ok v) (Ok vs) a b fault h more e = absurd (subst Worked e tt)
and_told (Ok v) (Err t) a b fault h more e = behind fault a b h (more (ap Err (ap fault_of e)))
and_told (Err t) r a b fault h more e = before fault a b (subst (λ x. TellsOf x a) (ap fault_of e) h)

-- a number is as large as itself
same_number : (n : ℕ) → nat_eq n n ≡ true
same_number n = eq-eqb n n refl

module _ (x : Name) (references : List Reference) (vars : List Pay) where
  pub held_map : (vars : List Pay) (y : ℕ)
      → get_or (map (value_at x references) vars) y (values.Num (pos 0))
      ≡ value_at x references (get_or vars y (pay.Num (pos 0)))
  held_map [] y = refl
  held_map (v ∷ more) zero = refl
  held_map (v ∷ more) (suc y) = held_map more y

  -- a variable that refers to no cell
  no_reference : (s : Sort) (y : ℕ) (v : Pay) (go : ℕ → Effect) (b : Option Reason) (fault : Trouble)
      → ((k : ℕ) → go k ≡ fails fault → TellsOf fault b) → then_effect (reference (Ok v)) go ≡ fails fault
      → TellsOf fault (option_or (told.no_reference s y (value_at x references v)) b)
  no_reference s y (pay.Num n) go b fault more e = ap fault_in e
  no_reference s y (pay.Ref k) go b fault more e = more k e

  -- the same of the variable's value as it is told
  not_referred : (s : Sort) (y : ℕ) (go : ℕ → Effect) (b : Option Reason) (fault : Trouble)
      → ((k : ℕ) → go k ≡ fails fault → TellsOf fault b)
      → then_effect (reference (Ok (meaning.held vars y))) go ≡ fails fault
      → TellsOf fault (option_or (told.no_reference s y (told.held_in (map (value_at x references) vars) y)) b)
  not_referred s y go b fault more e =
      subst (λ v. TellsOf fault (option_or (told.no_reference s y v) b)) (sym (held_map vars y))
      (no_reference s y (meaning.held vars y) go b fault more e)

  -- an argument
  handed : (y : ℕ) (v : Pay) → IsToldOf (meaning.with_reference (Ok v) (λ k. Ok (pay.Ref k)))
      (told.no_reference sort.Promise y (value_at x references v))
  handed y (pay.Num n) = refl
  handed y (pay.Ref k) = refl

  pub argument_told : (a : Argument)
      → IsToldOf (argument vars a) (told.no_argument (map (value_at x references) vars) a)
  argument_told (tree.own y) =
      subst (λ v. IsToldOf (argument vars (tree.own y)) (told.no_reference sort.Promise y v))
      (sym (held_map vars y)) (handed y (meaning.held vars y))
  argument_told (tree.value e) = told_of x references vars e

  -- arguments
  arguments_told : (list : List Argument) (fault : Trouble) → arguments vars list ≡ Err fault
      → TellsOf fault (told.no_arguments (map (value_at x references) vars) list)
  arguments_told [] fault e = absurd (subst Worked e tt)
  arguments_told (a ∷ more) fault e = and_told (argument vars a) (arguments vars more) _ _ fault (argument_told a)
      (arguments_told more fault) e

module _ (x : Name) (references : List Reference) (t : TaskState) where
  -- what a fork comes to by its arguments
  forks : (r : Result (List Pay) Trouble) (go : List Pay → Effect) (a : Option Reason) (fault : Trouble)
      → ((vs : List Pay) → NoFault (go vs)) → (r ≡ Err fault → TellsOf fault a)
      → then_effect r go ≡ fails fault → TellsOf fault a
  forks (Ok vs) go a fault goes h e = absurd (subst NoFault e (goes vs))
  forks (Err f) go a fault goes h e = h (ap Err (ap fault_in e))

  -- what a fork asks with these arguments
  abbrev forking : Option ℕ → List Argument → Task → List Pay → Effect
  forking into list d values = asks (fork_of t d list values) (record t { due = place into })

  fork_told : (found : Option Task) (into : Option ℕ) (list : List Argument) (d : Task) (b : Option Reason)
      (fault : Trouble) → found ≡ Some d → length list ≡ d.params → forked t found into list ≡ fails fault
      → TellsOf fault (option_or (told.no_arguments (map (value_at x references) t.vars) list) b)
  fork_told found into list d b fault is count e =
      let one = subst (λ o. forked t o into list ≡ fails fault) is e in
      let many = ap (λ n. nat_eq (length list) n) (sym count) ∙ same_number (length list) in
      let two = subst (λ c. (if c then then_effect (arguments t.vars list) (forking into list d)
      else fails trouble.Kind) ≡ fails fault) many one in
      let reason = told.no_arguments (map (value_at x references) t.vars) list in
      before fault reason b (forks (arguments t.vars list) (forking into list d) reason fault (λ vs. tt)
      (arguments_told x references t.vars list fault) two)

  -- an ask
  ask_told : (into : Option ℕ) (q : Ask) (fault : Trouble) → IsDeclared t.script (Some q)
      → asked t into q ≡ fails fault → TellsOf fault (told.ask_failed (map (value_at x references) t.vars) q)
  ask_told into tree.new fault d e = absurd (subst NoFault e tt)
  ask_told into (tree.fork f list) fault d e = fork_told (slice_get t.script f) into list d.0 _ fault d.1 d.2 e
  ask_told into (tree.get (ref.Var y) None) fault d e = before fault _ _
      (not_referred x references t.vars sort.Promise y _ _ fault (λ k h. absurd (subst NoFault h tt)) e)
  ask_told into (tree.get (ref.Var y) (Some o)) fault d e = before fault _ _
      (not_referred x references t.vars sort.Promise y _ _ fault (λ k h. absurd (subst NoFault h tt)) e)
  ask_told into (tree.get ref.Me None) fault d e = absurd (subst NoFault e tt)
  ask_told into (tree.get ref.Me (Some o)) fault d e = absurd (subst NoFault e tt)
  ask_told into (tree.join (ref.Var y) None) fault d e = before fault _ _
      (not_referred x references t.vars sort.Task y _ _ fault (λ k h. absurd (subst NoFault h tt)) e)
  ask_told into (tree.join (ref.Var y) (Some o)) fault d e = before fault _ _
      (not_referred x references t.vars sort.Task y _ _ fault (λ k h. absurd (subst NoFault h tt)) e)
  ask_told into (tree.join ref.Me None) fault d e = absurd (subst NoFault e tt)
  ask_told into (tree.join ref.Me (Some o)) fault d e = absurd (subst NoFault e tt)

  -- an expression of the task
  value_told : (e : Expression)
      → IsToldOf (meaning.value t.vars e) (told.no_value (map (value_at x references) t.vars) e)
  value_told e = told_of x references t.vars e

  given_told : (y : ℕ) (side : Given) (fault : Trouble) → IsDeclared t.script (own_ask (tree.let_new y side))
      → given t y side ≡ fails fault → TellsOf fault (told.not_given (map (value_at x references) t.vars) side)
  given_told y (tree.answer q) fault d e = ask_told (Some y) q fault d e
  given_told y (tree.result_of v) fault d e =
      no_value (meaning.value t.vars v) _ _ fault (value_told v) (λ k. tt) e

  -- a statement
  pub statement_told : (s : Statement) (fault : Trouble) → IsDeclared t.script (own_ask s) → begun t s ≡ fails fault
      → TellsOf fault (told.failed_at (map (value_at x references) t.vars) s)
  statement_told (tree.let_new y side) fault d e = given_told y side fault d e
  statement_told (tree.assign y side) fault d e = given_told y side fault d e
  statement_told (tree.ask q) fault d e = ask_told None q fault d e
  statement_told (tree.print v) fault d e =
      no_number (meaning.value t.vars v) _ _ fault (agrees x references t.vars v) (λ n. tt) e
  statement_told (tree.set_cell y v) fault d e = not_referred x references t.vars sort.Promise y _ _ fault
      (λ k h. before fault _ _ (no_value (meaning.value t.vars v) _ _ fault (value_told v) (λ w. tt) h)) e
  statement_told (tree.return v) fault d e =
      no_value (meaning.value t.vars v) _ _ fault (value_told v) (λ w. tt) e
  statement_told (tree.choose v body other) fault d e =
      no_number (meaning.value t.vars v) _ _ fault (agrees x references t.vars v) (λ n. tt) e
  statement_told (tree.repeat v body) fault d e =
      no_number (meaning.value t.vars v) _ _ fault (agrees x references t.vars v) (λ n. tt) e

-- the law
pub reasons_right : ReasonsAreRight
reasons_right = record {
  values = λ x references vars e. told_of x references vars e;
  statements = λ x references t s fault. statement_told x references t s fault;
}
