-- What is told of a statement is what fails first.
use Rattle.std.proofs.Common.{◌≡◌, ℕ, ℤ, cond, List, [], ◌∷◌, map, refl, ap, sym, ◌∙◌, inl, inr, subst, ◌⊎◌}
use Rattle.std.specs.Prelude.{Option, Some, None, Ok, Err}
use Rattle.std.specs.Option.{option_or}
use Rattle.tj_base.specs.ForkOrder.{Name}
use Rattle.tj_base.specs.declared.cell.Sort.{Sort}
use Rattle.tj_base.specs.declared.cell.Sort.TheVariants as sort
use Rattle.tj_base.specs.declared.value.Pay.{Pay}
use Rattle.tj_base.specs.declared.value.Pay.TheVariants as pay
use Rattle.tj_body.specs.History.{reference_at, value_at}
use Rattle.tj_body.specs.declared.point.Reference.{Reference}
use Rattle.tj_body.specs.declared.point.Value.{Value}
use Rattle.tj_syntax.specs.declared.expr.RefOf.{RefOf}
use Rattle.tj_syntax.specs.declared.expr.RefOf.TheVariants as ref
use Rattle.tj_syntax.specs.Trees as tree
use Rattle.tj_syntax.specs.Trees.{Argument, Ask, Expression, Given, Statement}
use Rattle.tj_eval.specs.Expressions as meaning
use Rattle.tj_eval.specs.Expressions.{Computed}
use Rattle.tj_reasons.specs.FirstFaults.{ArgumentFails, ArgumentsFail, AskFails, GivenFails, HandsFail}
use Rattle.tj_reasons.specs.FirstFaults.{HasArgument, HaveArguments, IsAwaited, NotAwaited, OtherFails}
use Rattle.tj_reasons.specs.FirstFaults.{ReasonsAreFirst, StatementFails, wanted_cell}
use Rattle.tj_reasons.specs.ReasonLaws.{IsToldOf, TellsOf}
use Rattle.tj_reasons.specs.Reasons as told
use Rattle.tj_reasons.specs.declared.reason.Met.{Met}
use Rattle.tj_reasons.specs.declared.reason.Met.TheVariants as met
use Rattle.tj_reasons.specs.declared.reason.Reason.{Reason}
use Rattle.tj_reasons.specs.declared.reason.Reason.TheVariants as reason
use Rattle.tj_reasons.proofs.FaultsFirst.{number_first, some_is, value_first}
use Rattle.tj_reasons.proofs.ReasonsAgree.{told_of}
use Rattle.tj_reasons.proofs.ReasonsBegun.{held_map}

or_some : (a b : Option Reason) (r : Reason) → option_or a b ≡ Some r
    → (a ≡ Some r) ⊎ ((a ≡ None) × (b ≡ Some r))
or_some None b r e = inr (refl, e)
or_some (Some s) b r e = inl e

or_none : (a b : Option Reason) → option_or a b ≡ None → (a ≡ None) × (b ≡ None)
or_none None b e = (refl, e)
or_none (Some s) b e = absurd (cc)

wanted_same : (w : Sort) → told.wanted_of w ≡ wanted_cell w
wanted_same sort.Task = refl
wanted_same sort.Promise = refl

met_wanted : (w : Sort) (m : Met) (r : Reason) → Some (reason.Met m (told.wanted_of w)) ≡ Some r
    → r ≡ reason.Met m (wanted_cell w)
met_wanted w m r e = sym (some_is (reason.Met m (told.wanted_of w)) r e)
    ∙ ap (λ z. reason.Met m z) (wanted_same w)

no_task : sort.Promise ≡ sort.Task → ⊥
no_task h = cc

no_promise : sort.Task ≡ sort.Promise → ⊥
no_promise h = cc

-- a cell of another sort
unlike : (w z : Sort) (m : Met) (r : Reason)
    → cond (told.is_sort w z) None (Some (reason.Met m (told.wanted_of w))) ≡ Some r
    → (z ≡ w → ⊥) × (r ≡ reason.Met m (wanted_cell w))
unlike sort.Task sort.Task m r e = absurd (cc)
unlike sort.Task sort.Promise m r e = (no_task, met_wanted sort.Task m r e)
unlike sort.Promise sort.Task m r e = (no_promise, met_wanted sort.Promise m r e)
unlike sort.Promise sort.Promise m r e = absurd (cc)

alike : (w z : Sort) (m : Met) → cond (told.is_sort w z) None (Some (reason.Met m (told.wanted_of w))) ≡ None → z ≡ w
alike sort.Task sort.Task m e = refl
alike sort.Task sort.Promise m e = absurd (cc)
alike sort.Promise sort.Task m e = absurd (cc)
alike sort.Promise sort.Promise m e = refl

-- a value is there where no reason is
has_value : (c : Computed) (o : Option Reason) → IsToldOf c o → o ≡ None → (v : Pay) × (c ≡ Ok v)
has_value (Ok v) o h e = (v, refl)
has_value (Err fault) o h e = absurd (subst (TellsOf fault) e h)

module _ (x : Name) (references : List Reference) where
  abbrev at : Pay → Value
  at v = value_at x references v

  -- what a variable has
  met_number : (w : Sort) (y : ℕ) (v : Pay) (r : Reason) → told.no_reference w y (at v) ≡ Some r
      → (n : ℤ) × (v ≡ pay.Num n) × (r ≡ reason.Met (met.Number n) (wanted_cell w))
  met_number w y (pay.Num n) r e = (n, refl, met_wanted w (met.Number n) r e)
  met_number w y (pay.Ref k) r e = absurd (cc)

  has_cell : (w : Sort) (y : ℕ) (v : Pay) → told.no_reference w y (at v) ≡ None → (k : ℕ) × (v ≡ pay.Ref k)
  has_cell w y (pay.Num n) e = absurd (cc)
  has_cell w y (pay.Ref k) e = (k, refl)

  met_other : (w : Sort) (y : ℕ) (v : Pay) (r : Reason) → told.other_sort w y (at v) ≡ Some r
      → (k : ℕ) × (v ≡ pay.Ref k) × ((reference_at x references k).sort ≡ w → ⊥)
      × (r ≡ reason.Met (met.Variable y) (wanted_cell w))
  met_other w y (pay.Num n) r e = absurd (cc)
  met_other w y (pay.Ref k) r e =
      let u = unlike w (reference_at x references k).sort (met.Variable y) r e in (k, refl, u.0, u.1)

  has_cell_of : (w : Sort) (y : ℕ) (v : Pay) → told.no_reference w y (at v) ≡ None
      → told.other_sort w y (at v) ≡ None
      → (k : ℕ) × (v ≡ pay.Ref k) × ((reference_at x references k).sort ≡ w)
  has_cell_of w y (pay.Num n) e f = absurd (cc)
  has_cell_of w y (pay.Ref k) e f = (k, refl, alike w (reference_at x references k).sort (met.Variable y) f)

  module _ (vars : List Pay) where
    abbrev held : List Value
    held = map (value_at x references) vars

    abbrev of : ℕ → Pay
    of y = meaning.held vars y

    -- what is told of a variable, by its value
    by_value : (f : Value → Option Reason) (y : ℕ) (o : Option Reason) → f (told.held_in held y) ≡ o
        → f (at (of y)) ≡ o
    by_value f y o e = sym (ap f (held_map x references vars vars y)) ∙ e

    value_there : (e : Expression) → told.no_value held e ≡ None → (v : Pay) × (meaning.value vars e ≡ Ok v)
    value_there e h = has_value (meaning.value vars e) (told.no_value held e) (told_of x references vars e) h

    -- what is waited for
    awaited_first : (w : Sort) (c : RefOf) (r : Reason) → told.not_awaited w held c ≡ Some r
        → NotAwaited x references vars w c r
    awaited_first w (ref.Var y) r e = by (or_some (told.no_reference w y (at (of y)))
        (told.other_sort w y (at (of y))) r (by_value (told.no_cell w y) y (Some r) e))
      where
        by : (told.no_reference w y (at (of y)) ≡ Some r)
            ⊎ ((told.no_reference w y (at (of y)) ≡ None) × (told.other_sort w y (at (of y)) ≡ Some r))
            → NotAwaited x references vars w (ref.Var y) r
        by (inl h) = inl (met_number w y (of y) r h)
        by (inr h) = inr (met_other w y (of y) r h.1)
    awaited_first w ref.Me r e = unlike w sort.Task met.Itself r e

    awaited_there : (w : Sort) (c : RefOf) → told.not_awaited w held c ≡ None → IsAwaited x references vars w c
    awaited_there w (ref.Var y) e =
        let h = or_none (told.no_reference w y (at (of y))) (told.other_sort w y (at (of y)))
        (by_value (told.no_cell w y) y None e) in has_cell_of w y (of y) h.0 h.1
    awaited_there w ref.Me e = alike w sort.Task met.Itself e

    other_first : (o : Option Expression) (r : Reason) → told.no_other held o ≡ Some r
        → OtherFails x references vars o r
    other_first None r e = absurd (cc)
    other_first (Some a) r e = value_first x references vars a r e

    -- arguments
    argument_first : (a : Argument) (r : Reason) → told.no_argument held a ≡ Some r
        → ArgumentFails x references vars a r
    argument_first (tree.own y) r e = met_number sort.Promise y (of y) r
        (by_value (told.no_reference sort.Promise y) y (Some r) e)
    argument_first (tree.value a) r e = value_first x references vars a r e

    argument_there : (a : Argument) → told.no_argument held a ≡ None → HasArgument x references vars a
    argument_there (tree.own y) e =
        has_cell sort.Promise y (of y) (by_value (told.no_reference sort.Promise y) y None e)
    argument_there (tree.value a) e = value_there a e

    arguments_first : (list : List Argument) (r : Reason) → told.no_arguments held list ≡ Some r
        → ArgumentsFail x references vars list r
    arguments_first [] r e = absurd (cc)
    arguments_first (a ∷ more) r e = by (or_some (told.no_argument held a) (told.no_arguments held more) r e)
        (arguments_first more r)
      where
        by : (told.no_argument held a ≡ Some r)
            ⊎ ((told.no_argument held a ≡ None) × (told.no_arguments held more ≡ Some r))
            → (told.no_arguments held more ≡ Some r → ArgumentsFail x references vars more r)
            → ArgumentsFail x references vars (a ∷ more) r
        by (inl h) rest = inl (argument_first a r h)
        by (inr h) rest = inr (argument_there a h.0, rest h.1)

    arguments_there : (list : List Argument) → told.no_arguments held list ≡ None → HaveArguments x references vars list
    arguments_there [] e = tt
    arguments_there (a ∷ more) e = let h = or_none (told.no_argument held a) (told.no_arguments held more) e in
        (argument_there a h.0, arguments_there more h.1)

    hands_first : (list : List Argument) (r : Reason) → told.no_arguments held list ≡ None
        → told.no_promises held list ≡ Some r → HandsFail x references vars list r
    hands_first [] r none e = absurd (cc)
    hands_first (tree.own y ∷ more) r none e =
        by (or_none (told.no_argument held (tree.own y)) (told.no_arguments held more) none)
        (or_some (told.no_promise held (tree.own y)) (told.no_promises held more) r e) (hands_first more r)
      where
        by : (told.no_argument held (tree.own y) ≡ None) × (told.no_arguments held more ≡ None)
            → (told.no_promise held (tree.own y) ≡ Some r)
            ⊎ ((told.no_promise held (tree.own y) ≡ None) × (told.no_promises held more ≡ Some r))
            → (told.no_arguments held more ≡ None → told.no_promises held more ≡ Some r
            → HandsFail x references vars more r) → HandsFail x references vars (tree.own y ∷ more) r
        by n (inl h) rest = inl (met_other sort.Promise y (of y) r
            (by_value (told.other_sort sort.Promise y) y (Some r) h))
        by n (inr h) rest = inr (
          has_cell_of sort.Promise y (of y)
              (by_value (told.no_reference sort.Promise y) y None n.0)
              (by_value (told.other_sort sort.Promise y) y None h.0),
          rest n.1 h.1,
        )
    hands_first (tree.value a ∷ more) r none e =
        hands_first more r (or_none (told.no_argument held (tree.value a)) (told.no_arguments held more) none).1 e

    -- an ask
    waited : (w : Sort) (c : RefOf) (o : Option Expression) (r : Reason)
        → option_or (told.not_awaited w held c) (told.no_other held o) ≡ Some r
        → NotAwaited x references vars w c r ⊎ (IsAwaited x references vars w c × OtherFails x references vars o r)
    waited w c o r e = by (or_some (told.not_awaited w held c) (told.no_other held o) r e) where
      by : (told.not_awaited w held c ≡ Some r) ⊎ ((told.not_awaited w held c ≡ None) × (told.no_other held o ≡ Some r))
          → NotAwaited x references vars w c r ⊎ (IsAwaited x references vars w c × OtherFails x references vars o r)
      by (inl h) = inl (awaited_first w c r h)
      by (inr h) = inr (awaited_there w c h.0, other_first o r h.1)

    ask_first : (q : Ask) (r : Reason) → told.ask_failed held q ≡ Some r → AskFails x references vars q r
    ask_first tree.new r e = absurd (cc)
    ask_first (tree.fork f list) r e =
        by (or_some (told.no_arguments held list) (told.no_promises held list) r e)
      where
        by : (told.no_arguments held list ≡ Some r)
            ⊎ ((told.no_arguments held list ≡ None) × (told.no_promises held list ≡ Some r))
            → AskFails x references vars (tree.fork f list) r
        by (inl h) = inl (arguments_first list r h)
        by (inr h) = inr (arguments_there list h.0, hands_first list r h.0 h.1)
    ask_first (tree.get c other) r e = waited sort.Promise c other r e
    ask_first (tree.join c other) r e = waited sort.Task c other r e

    given_first : (side : Given) (r : Reason) → told.not_given held side ≡ Some r → GivenFails x references vars side r
    given_first (tree.answer q) r e = ask_first q r e
    given_first (tree.result_of a) r e = value_first x references vars a r e

    -- what is set
    set_first : (y : ℕ) (a : Expression) (r : Reason) → told.failed_at held (tree.set_cell y a) ≡ Some r
        → StatementFails x references vars (tree.set_cell y a) r
    set_first y a r e = by (or_some (told.no_reference sort.Promise y (told.held_in held y)) behind r e) where
      behind : Option Reason
      behind = option_or (told.no_value held a) (told.other_sort sort.Promise y (told.held_in held y))

      by_other : told.no_reference sort.Promise y (told.held_in held y) ≡ None → (told.no_value held a ≡ Some r)
          ⊎ ((told.no_value held a ≡ None) × (told.other_sort sort.Promise y (told.held_in held y) ≡ Some r))
          → StatementFails x references vars (tree.set_cell y a) r
      by_other n (inl h) = inr (
        has_cell sort.Promise y (of y) (by_value (told.no_reference sort.Promise y) y None n),
        inl (value_first x references vars a r h),
      )
      by_other n (inr h) = inr (
        has_cell sort.Promise y (of y) (by_value (told.no_reference sort.Promise y) y None n),
        inr (
          value_there a h.0,
          met_other sort.Promise y (of y) r
              (by_value (told.other_sort sort.Promise y) y (Some r) h.1),
        ),
      )

      by : (told.no_reference sort.Promise y (told.held_in held y) ≡ Some r)
          ⊎ ((told.no_reference sort.Promise y (told.held_in held y) ≡ None) × (behind ≡ Some r))
          → StatementFails x references vars (tree.set_cell y a) r
      by (inl h) = inl (met_number sort.Promise y (of y) r (by_value (told.no_reference sort.Promise y) y (Some r) h))
      by (inr h) = by_other h.0 (or_some (told.no_value held a)
          (told.other_sort sort.Promise y (told.held_in held y)) r h.1)

    -- a statement
    pub statement_first : (s : Statement) (r : Reason) → told.failed_at held s ≡ Some r
        → StatementFails x references vars s r
    statement_first (tree.let_new y side) r e = given_first side r e
    statement_first (tree.assign y side) r e = given_first side r e
    statement_first (tree.ask q) r e = ask_first q r e
    statement_first (tree.print a) r e = number_first x references vars a r e
    statement_first (tree.set_cell y a) r e = set_first y a r e
    statement_first (tree.return a) r e = value_first x references vars a r e
    statement_first (tree.choose a body other) r e = number_first x references vars a r e
    statement_first (tree.repeat a body) r e = number_first x references vars a r e

-- the law
pub reasons_first : ReasonsAreFirst
reasons_first = record { values = value_first; statements = statement_first }
