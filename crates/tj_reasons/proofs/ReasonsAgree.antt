-- What an expression comes to by the meaning, and by what is told of its task's variables.
use Rattle.std.proofs.Common.{◌≡◌, ℕ, zero, suc, ℤ, pos, Bool, true, false, cond, List, [], ◌∷◌, map, refl, ap, sym, ◌∙◌}
use Rattle.std.proofs.Common.{get_or, subst, neg_ℤ, int_div, int_rem, not, ◌||◌, ◌+ℤ◌, ◌-ℤ◌, ◌*ℤ◌, if◌then◌else◌}
use Rattle.std.specs.Prelude.{Option, Some, None, Result, Ok, Err}
use Rattle.std.specs.Option.{option_or}
use Rattle.tj_base.specs.ForkOrder.{Name}
use Rattle.tj_base.specs.declared.cause.Trouble.{Trouble}
use Rattle.tj_base.specs.declared.cause.Trouble.TheVariants as trouble
use Rattle.tj_base.specs.declared.value.Pay.{Pay}
use Rattle.tj_base.specs.declared.value.Pay.TheVariants as pay
use Rattle.tj_body.specs.History.{value_at}
use Rattle.tj_body.specs.declared.point.Reference.{Reference}
use Rattle.tj_body.specs.declared.point.Value.{Value}
use Rattle.tj_body.specs.declared.point.Value.TheVariants as values
use Rattle.tj_syntax.specs.declared.expr.Op.{Op}
use Rattle.tj_syntax.specs.declared.expr.Op.TheVariants as op
use Rattle.tj_syntax.specs.Trees as tree
use Rattle.tj_syntax.specs.Trees.{Expression, Pairs}
use Rattle.tj_eval.specs.Expressions as meaning
use Rattle.tj_eval.specs.Expressions.{Computed, is_i64, is_zero}
use Rattle.tj_reasons.specs.ReasonLaws.{IsToldOf, trouble_of}
use Rattle.tj_reasons.specs.Reasons as told
use Rattle.tj_reasons.specs.Reasons.{Found}
use Rattle.tj_reasons.specs.declared.reason.Met.{Met}
use Rattle.tj_reasons.specs.declared.reason.Met.TheVariants as met
use Rattle.tj_reasons.specs.declared.reason.Reason.{Reason}
use Rattle.tj_reasons.specs.declared.reason.Reason.TheVariants as reason

-- what is met is a number where the value is this one
abbrev pub MetAs : Pay → Met → Type 0
MetAs (pay.Num n) (met.Number k) = k ≡ n
MetAs (pay.Num n) (met.Variable x) = ⊥
MetAs (pay.Num n) met.Itself = ⊥
MetAs (pay.Ref k) (met.Number n) = ⊥
MetAs (pay.Ref k) (met.Variable x) = Unit {0}
MetAs (pay.Ref k) met.Itself = Unit {0}

-- both came to one value, or both to one fault
abbrev pub Agrees : Computed → Found → Type 0
Agrees (Ok v) (Ok m) = MetAs v m
Agrees (Ok v) (Err r) = ⊥
Agrees (Err fault) (Ok m) = ⊥
Agrees (Err fault) (Err r) = trouble_of r ≡ fault

-- the same where what is told has to be a number
abbrev pub AgreesNumber : Computed → Result ℤ Reason → Type 0
AgreesNumber (Ok (pay.Num n)) (Ok k) = k ≡ n
AgreesNumber (Ok (pay.Ref p)) (Ok k) = ⊥
AgreesNumber (Ok v) (Err r) = ⊥
AgreesNumber (Err fault) (Ok k) = ⊥
AgreesNumber (Err fault) (Err r) = trouble_of r ≡ fault

-- a number as it is met
pub as_met : (c : Computed) (f : Result ℤ Reason) → AgreesNumber c f → Agrees c (told.met_number f)
as_met (Ok (pay.Num n)) (Ok k) h = h
as_met (Ok (pay.Num n)) (Err r) h = absurd h
as_met (Ok (pay.Ref p)) (Ok k) h = absurd h
as_met (Ok (pay.Ref p)) (Err r) h = absurd h
as_met (Err fault) (Ok k) h = absurd h
as_met (Err fault) (Err r) h = h

-- each goes on with a number
pub go_on : (c : Computed) (f : Found) (go : ℤ → Computed) (on : ℤ → Result ℤ Reason) → Agrees c f
    → ((n : ℤ) → AgreesNumber (go n) (on n)) → AgreesNumber (meaning.with_number c go) (told.with_number f on)
go_on (Ok (pay.Num n)) (Ok (met.Number k)) go on h each = subst (λ j. AgreesNumber (go n) (on j)) (sym h) (each n)
go_on (Ok (pay.Num n)) (Ok (met.Variable x)) go on h each = absurd h
go_on (Ok (pay.Num n)) (Ok met.Itself) go on h each = absurd h
go_on (Ok (pay.Num n)) (Err r) go on h each = absurd h
go_on (Ok (pay.Ref p)) (Ok (met.Number k)) go on h each = absurd h
go_on (Ok (pay.Ref p)) (Err r) go on h each = absurd h
go_on (Err fault) (Ok m) go on h each = absurd h
go_on (Ok (pay.Ref p)) (Ok (met.Variable x)) go on h each = refl
go_on (Ok (pay.Ref p)) (Ok met.Itself) go on h each = refl
go_on (Err fault) (Err r) go on h each = h

-- the same from a number on
pub number_on : (c : Computed) (f : Result ℤ Reason) (go : ℤ → Computed) (on : ℤ → Result ℤ Reason)
    → AgreesNumber c f → ((n : ℤ) → AgreesNumber (go n) (on n))
    → AgreesNumber (meaning.with_number c go) (told.and_then f on)
number_on (Ok (pay.Num n)) (Ok k) go on h each = subst (λ j. AgreesNumber (go n) (on j)) (sym h) (each n)
number_on (Ok (pay.Num n)) (Err r) go on h each = absurd h
number_on (Ok (pay.Ref p)) (Ok k) go on h each = absurd h
number_on (Ok (pay.Ref p)) (Err r) go on h each = absurd h
number_on (Err fault) (Ok k) go on h each = absurd h
number_on (Err fault) (Err r) go on h each = h

-- a result that may be past 64 bits
fits : (b : Bool) (n : ℤ)
    → AgreesNumber (if b then Ok (pay.Num n) else Err trouble.Arith) (cond b (Ok n) (Err reason.Overflow))
fits true n = refl
fits false n = refl

pub exact : (n : ℤ) → AgreesNumber (meaning.exact n) (told.exact n)
exact n = fits (is_i64 n) n

-- a quotient
divided : (b : Bool) (n : ℤ) → AgreesNumber (if b then Err trouble.Arith else meaning.exact n)
    (cond b (Err reason.Division) (told.exact n))
divided true n = refl
divided false n = exact n

-- a rest
rested : (b f : Bool) (n : ℤ) → AgreesNumber (if b || not f then Err trouble.Arith else Ok (pay.Num n))
    (cond b (Err reason.Division) (cond f (Ok n) (Err reason.Overflow)))
rested true f n = refl
rested false true n = refl
rested false false n = refl

-- what an operator gives
pub applied : (o : Op) (a b : ℤ) → AgreesNumber (meaning.applied o a b) (told.applied o a b)
applied op.Plus a b = exact (a +ℤ b)
applied op.Minus a b = exact (a -ℤ b)
applied op.Times a b = exact (a *ℤ b)
applied op.Over a b = divided (is_zero b) (int_div a b)
applied op.Rest a b = rested (is_zero b) (is_i64 (int_div a b)) (int_rem a b)

-- the number of a truth value
truth : (b : Bool) → AgreesNumber (Ok (meaning.truth b)) (Ok (told.truth b))
truth true = refl
truth false = refl

module _ (x : Name) (references : List Reference) where
  -- what a variable holds
  pub value_met : (y : ℕ) (v : Pay) → MetAs v (told.met_as y (value_at x references v))
  value_met y (pay.Num n) = refl
  value_met y (pay.Ref k) = tt

  pub held : (vars : List Pay) (y n : ℕ)
      → MetAs (get_or vars n (pay.Num (pos 0)))
      (told.met_as y (get_or (map (value_at x references) vars) n (values.Num (pos 0))))
  held [] y n = refl
  held (v ∷ vars) y zero = value_met y v
  held (v ∷ vars) y (suc n) = held vars y n

  module _ (vars : List Pay) where
    mutual
      -- an expression
      pub agrees : (e : Expression) → Agrees (meaning.value vars e) (told.found (map (value_at x references) vars) e)
      agrees (tree.number n) = refl
      agrees (tree.variable y) = held vars y y
      agrees tree.me = tt
      agrees (tree.negation e) = as_met _ _ (go_on _ _ _ _ (agrees e) (λ n. exact (neg_ℤ n)))
      agrees (tree.chain e pairs) = as_met _ _ (go_on _ _ _ _ (agrees e) (λ n. chain_agrees n pairs))
      agrees (tree.comparison rel a b) = as_met _ _ (go_on _ _ _ _ (agrees a)
          (λ n. go_on _ _ _ _ (agrees b) (λ m. truth (meaning.compares rel n m))))

      -- a chain
      pub chain_agrees : (n : ℤ) (pairs : Pairs) → AgreesNumber (meaning.chained vars n pairs)
          (told.chained (map (value_at x references) vars) n pairs)
      chain_agrees n tree.no_pairs = refl
      chain_agrees n (tree.pair o e more) = go_on _ _ _ _ (agrees e)
          (λ m. number_on _ _ _ _ (applied o n m) (λ r. chain_agrees r more))

    -- there is a reason exactly where there is no value
    pub told_of : (e : Expression)
        → IsToldOf (meaning.value vars e) (told.no_value (map (value_at x references) vars) e)
    told_of e = agreed (meaning.value vars e) (told.found (map (value_at x references) vars) e) (agrees e)
      where
        agreed : (c : Computed) (f : Found) → Agrees c f → IsToldOf c (told.reason_of f)
        agreed (Ok v) (Ok m) h = refl
        agreed (Ok v) (Err r) h = absurd h
        agreed (Err fault) (Ok m) h = absurd h
        agreed (Err fault) (Err r) h = h

-- what a chain comes to whose first operand came to this number
pub chain_found : (held : List Value) (e a : Expression) (rest : Pairs) (n : ℤ) (r : Result ℤ Reason) (m : Found)
    → e ≡ tree.chain a rest → Ok n ≡ told.and_then (told.found held a) told.as_number → r ≡ told.chained held n rest
    → m ≡ told.met_number r → m ≡ told.found held e
chain_found held e a rest n r m is begins goes met =
    met ∙ ap told.met_number goes
    ∙ ap (λ z. told.met_number (told.and_then z (λ k. told.chained held k rest))) begins
    ∙ ap (told.found held) (sym is)
