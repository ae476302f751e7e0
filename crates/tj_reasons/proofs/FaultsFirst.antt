-- What is told as the reason is what fails first.
use Rattle.std.proofs.Common.{◌≡◌, ℕ, ℤ, Bool, true, false, cond, List, map, refl, ap, sym, ◌∙◌, inl, inr}
use Rattle.std.proofs.Common.{subst, neg_ℤ, int_div, int_rem, ◌&&◌, ◌⊎◌, ◌+ℤ◌, ◌-ℤ◌, ◌*ℤ◌}
use Rattle.std.specs.Prelude.{Some, Result, Ok, Err}
use Rattle.tj_base.specs.ForkOrder.{Name}
use Rattle.tj_base.specs.declared.value.Pay.{Pay}
use Rattle.tj_base.specs.declared.value.Pay.TheVariants as pay
use Rattle.tj_body.specs.History.{value_at}
use Rattle.tj_body.specs.declared.point.Reference.{Reference}
use Rattle.tj_body.specs.declared.point.Value.{Value}
use Rattle.tj_syntax.specs.declared.expr.Op.{Op}
use Rattle.tj_syntax.specs.declared.expr.Op.TheVariants as op
use Rattle.tj_syntax.specs.declared.expr.Rel.{Rel}
use Rattle.tj_syntax.specs.Trees as tree
use Rattle.tj_syntax.specs.Trees.{Argument, Ask, Expression, Given, Pairs, Statement}
use Rattle.tj_eval.specs.Expressions as meaning
use Rattle.tj_eval.specs.Expressions.{Computed, is_i64, is_zero}
use Rattle.tj_reasons.specs.FirstFaults.{ChainFails, FailsBy, NoNumber, OperationFails, exactly, divides}
use Rattle.tj_reasons.specs.Reasons as told
use Rattle.tj_reasons.specs.Reasons.{Found}
use Rattle.tj_reasons.specs.declared.reason.Met.TheVariants as met
use Rattle.tj_reasons.specs.declared.reason.Reason.{Reason}
use Rattle.tj_reasons.specs.declared.reason.Reason.TheVariants as reason
use Rattle.tj_reasons.specs.declared.reason.Wanted.TheVariants as wanted
use Rattle.tj_reasons.proofs.ReasonsAgree.{Agrees, AgreesNumber, agrees}
use Rattle.tj_reasons.proofs.ReasonsAgree as agree
use Rattle.tj_reasons.proofs.ReasonsBegun.{held_map}

-- the reason that is there
abbrev reason_in : {A : Type 0} → Result A Reason → Reason
reason_in (Ok x) = reason.Division
reason_in (Err r) = r

err_is : {A : Type 0} (a b : Reason) → ◌≡◌ {A = Result A Reason} (Err a) (Err b) → a ≡ b
err_is a b e = ap reason_in e

pub some_is : (a b : Reason) → Some a ≡ Some b → a ≡ b
some_is a b e = cc

-- what is told is the reason that is there
told_err : {A : Type 0} (f : Result A Reason) (r : Reason) → told.reason_of f ≡ Some r → f ≡ Err r
told_err (Ok a) r e = absurd (cc)
told_err (Err s) r e = ap Err (some_is s r e)

-- a number has no reason
met_err : (f : Result ℤ Reason) (r : Reason) → told.met_number f ≡ Err r → f ≡ Err r
met_err (Ok n) r e = absurd (cc)
met_err (Err s) r e = ap Err (err_is s r e)

through : (f : Result ℤ Reason) (r : Reason) → told.and_then (told.met_number f) told.as_number ≡ Err r
    → told.met_number f ≡ Err r
through (Ok n) r e = absurd (cc)
through (Err s) r e = ap Err (err_is s r e)

-- no number came of the first, or something failed behind it
first_or : (c : Computed) (f : Found) (go : ℤ → Result ℤ Reason) (r : Reason) → Agrees c f
    → told.with_number f go ≡ Err r → (told.and_then f told.as_number ≡ Err r)
    ⊎ ((n : ℤ) × (c ≡ Ok (pay.Num n)) × (go n ≡ Err r))
first_or (Ok (pay.Num n)) (Ok (met.Number k)) go r h e = inr (n, refl, ap go (sym h) ∙ e)
first_or (Ok (pay.Num n)) (Ok (met.Variable x)) go r h e = absurd h
first_or (Ok (pay.Num n)) (Ok met.Itself) go r h e = absurd h
first_or (Ok (pay.Num n)) (Err s) go r h e = absurd h
first_or (Ok (pay.Ref p)) (Ok (met.Number k)) go r h e = absurd h
first_or (Ok (pay.Ref p)) (Ok (met.Variable x)) go r h e = inl e
first_or (Ok (pay.Ref p)) (Ok met.Itself) go r h e = inl e
first_or (Ok (pay.Ref p)) (Err s) go r h e = absurd h
first_or (Err fault) (Ok m) go r h e = absurd h
first_or (Err fault) (Err s) go r h e = inl e

then_or : (f : Result ℤ Reason) (go : ℤ → Result ℤ Reason) (r : Reason) → told.and_then f go ≡ Err r
    → (f ≡ Err r) ⊎ ((n : ℤ) × (f ≡ Ok n) × (go n ≡ Err r))
then_or (Ok n) go r e = inr (n, refl, e)
then_or (Err s) go r e = inl e

-- a result that is past 64 bits
past : (f : Bool) (n : ℤ) (r : Reason) → cond f (Ok n) (Err reason.Overflow) ≡ Err r
    → (f ≡ false) × (r ≡ reason.Overflow)
past true n r e = absurd (cc)
past false n r e = (refl, sym (err_is reason.Overflow r e))

overflows : (o : Op) (a b : ℤ) (r : Reason) → (divides o && is_zero b) ≡ false
    → (is_i64 (exactly o a b) ≡ false) × (r ≡ reason.Overflow) → OperationFails o a b r
overflows o a b r divides_none h = subst (OperationFails o a b) (sym h.1) (divides_none, h.0)

-- an operator that divides
divided : (o : Op) (a b n : ℤ) (r : Reason) (z : Bool) → divides o ≡ true → is_zero b ≡ z
    → cond z (Err reason.Division) (cond (is_i64 (exactly o a b)) (Ok n) (Err reason.Overflow)) ≡ Err r
    → OperationFails o a b r
divided o a b n r true d z e = subst (OperationFails o a b) (err_is reason.Division r e) (d, z)
divided o a b n r false d z e = overflows o a b r (ap (λ y. y && is_zero b) d ∙ z)
    (past (is_i64 (exactly o a b)) n r e)

operation : (o : Op) (a b : ℤ) (r : Reason) → told.applied o a b ≡ Err r → OperationFails o a b r
operation op.Plus a b r e = overflows op.Plus a b r refl (past (is_i64 (a +ℤ b)) (a +ℤ b) r e)
operation op.Minus a b r e = overflows op.Minus a b r refl (past (is_i64 (a -ℤ b)) (a -ℤ b) r e)
operation op.Times a b r e = overflows op.Times a b r refl (past (is_i64 (a *ℤ b)) (a *ℤ b) r e)
operation op.Over a b r e = divided op.Over a b (int_div a b) r (is_zero b) refl refl e
operation op.Rest a b r e = divided op.Rest a b (int_rem a b) r (is_zero b) refl refl e

-- what came of an operation
came : (c : Computed) (f : Result ℤ Reason) (k : ℤ) → AgreesNumber c f → f ≡ Ok k → c ≡ Ok (pay.Num k)
came (Ok (pay.Num n)) (Ok j) k h e = ap (λ z. Ok (pay.Num z)) (sym h ∙ ok_is j k e) where
  ok_is : (a b : ℤ) → ◌≡◌ {A = Result ℤ Reason} (Ok a) (Ok b) → a ≡ b
  ok_is a b q = cc
came (Ok (pay.Num n)) (Err s) k h e = absurd h
came (Ok (pay.Ref p)) (Ok j) k h e = absurd h
came (Ok (pay.Ref p)) (Err s) k h e = absurd h
came (Err fault) (Ok j) k h e = absurd h
came (Err fault) (Err s) k h e = absurd (cc)

module _ (x : Name) (references : List Reference) (vars : List Pay) where
  abbrev held : List Value
  held = map (value_at x references) vars

  -- a variable that has no number
  no_variable : (y : ℕ) (v : Pay) (r : Reason)
      → told.as_number (told.met_as y (value_at x references v)) ≡ Err r
      → (k : ℕ) × (v ≡ pay.Ref k) × (r ≡ reason.Met (met.Variable y) wanted.Number)
  no_variable y (pay.Num n) r e = absurd (cc)
  no_variable y (pay.Ref k) r e = (k, refl, sym (err_is (reason.Met (met.Variable y) wanted.Number) r e))

  -- an expression that gives no number fails, or is a cell
  or_cell : (e : Expression) (r : Reason) → (told.found held e ≡ Err r → FailsBy vars e r)
      → told.and_then (told.found held e) told.as_number ≡ Err r → NoNumber vars e r
  or_cell (tree.number n) r fails e = absurd (cc)
  or_cell (tree.variable y) r fails e = inr (no_variable y (meaning.held vars y) r
      (ap (λ v. told.as_number (told.met_as y v)) (sym (held_map x references vars vars y)) ∙ e))
  or_cell tree.me r fails e = inr (sym (err_is (reason.Met met.Itself wanted.Number) r e))
  or_cell (tree.negation a) r fails e = inl (fails (through _ r e))
  or_cell (tree.chain a pairs) r fails e = inl (fails (through _ r e))
  or_cell (tree.comparison rel a b) r fails e = inl (fails (through _ r e))

  negated : (a : Expression) (r : Reason) → (told.found held a ≡ Err r → FailsBy vars a r)
      → (told.and_then (told.found held a) told.as_number ≡ Err r)
      ⊎ ((n : ℤ) × (meaning.value vars a ≡ Ok (pay.Num n)) × (told.exact (neg_ℤ n) ≡ Err r))
      → FailsBy vars (tree.negation a) r
  negated a r fails (inl e) = inl (or_cell a r fails e)
  negated a r fails (inr (n, v, e)) = let p = past (is_i64 (neg_ℤ n)) (neg_ℤ n) r e in inr (n, v, p.0, p.1)

  chained : (a : Expression) (pairs : Pairs) (r : Reason) → (told.found held a ≡ Err r → FailsBy vars a r)
      → ((n : ℤ) → told.chained held n pairs ≡ Err r → ChainFails vars n pairs r)
      → (told.and_then (told.found held a) told.as_number ≡ Err r)
      ⊎ ((n : ℤ) × (meaning.value vars a ≡ Ok (pay.Num n)) × (told.chained held n pairs ≡ Err r))
      → FailsBy vars (tree.chain a pairs) r
  chained a pairs r fails more (inl e) = inl (or_cell a r fails e)
  chained a pairs r fails more (inr (n, v, e)) = inr (n, v, more n e)

  right_side : (rel : Rel) (n : ℤ) (b : Expression) (r : Reason) → (told.found held b ≡ Err r → FailsBy vars b r)
      → (told.and_then (told.found held b) told.as_number ≡ Err r)
      ⊎ ((m : ℤ) × (meaning.value vars b ≡ Ok (pay.Num m))
      × (◌≡◌ {A = Result ℤ Reason} (Ok (told.truth (meaning.compares rel n m))) (Err r)))
      → NoNumber vars b r
  right_side rel n b r fails (inl e) = or_cell b r fails e
  right_side rel n b r fails (inr (m, v, e)) = absurd (cc)

  compared : (rel : Rel) (a b : Expression) (r : Reason) → (told.found held a ≡ Err r → FailsBy vars a r)
      → (told.found held b ≡ Err r → FailsBy vars b r)
      → (told.and_then (told.found held a) told.as_number ≡ Err r)
      ⊎ ((n : ℤ) × (meaning.value vars a ≡ Ok (pay.Num n))
      × (told.with_number (told.found held b) (λ m. Ok (told.truth (meaning.compares rel n m))) ≡ Err r))
      → FailsBy vars (tree.comparison rel a b) r
  compared rel a b r fails other (inl e) = inl (or_cell a r fails e)
  compared rel a b r fails other (inr (n, v, e)) = inr (
    n,
    v,
    right_side rel n b r other
        (first_or (meaning.value vars b) (told.found held b) (λ m. Ok (told.truth (meaning.compares rel n m))) r
        (agrees x references vars b) e),
  )

  behind_operand : (n m : ℤ) (o : Op) (more : Pairs) (r : Reason)
      → ((k : ℤ) → told.chained held k more ≡ Err r → ChainFails vars k more r)
      → (told.applied o n m ≡ Err r)
      ⊎ ((k : ℤ) × (told.applied o n m ≡ Ok k) × (told.chained held k more ≡ Err r))
      → OperationFails o n m r ⊎ ((k : ℤ) × (meaning.applied o n m ≡ Ok (pay.Num k)) × ChainFails vars k more r)
  behind_operand n m o more r rest (inl e) = inl (operation o n m r e)
  behind_operand n m o more r rest (inr (k, is, e)) =
      inr (k, came (meaning.applied o n m) (told.applied o n m) k (agree.applied o n m) is, rest k e)

  paired : (n : ℤ) (o : Op) (a : Expression) (more : Pairs) (r : Reason)
      → (told.found held a ≡ Err r → FailsBy vars a r)
      → ((k : ℤ) → told.chained held k more ≡ Err r → ChainFails vars k more r)
      → (told.and_then (told.found held a) told.as_number ≡ Err r)
      ⊎ ((m : ℤ) × (meaning.value vars a ≡ Ok (pay.Num m))
      × (told.and_then (told.applied o n m) (λ k. told.chained held k more) ≡ Err r))
      → ChainFails vars n (tree.pair o a more) r
  paired n o a more r fails rest (inl e) = inl (or_cell a r fails e)
  paired n o a more r fails rest (inr (m, v, e)) = inr (
    m,
    v,
    behind_operand n m o more r rest
        (then_or (told.applied o n m) (λ k. told.chained held k more) r e),
  )

  mutual
    -- an expression
    pub fails_by : (e : Expression) (r : Reason) → told.found held e ≡ Err r → FailsBy vars e r
    fails_by (tree.number n) r e = absurd (cc)
    fails_by (tree.variable y) r e = absurd (cc)
    fails_by tree.me r e = absurd (cc)
    fails_by (tree.negation a) r e =
        negated a r (λ h. fails_by a r h)
        (first_or (meaning.value vars a) (told.found held a) (λ n. told.exact (neg_ℤ n)) r
        (agrees x references vars a) (met_err _ r e))
    fails_by (tree.chain a pairs) r e =
        chained a pairs r (λ h. fails_by a r h) (λ n h. chain_fails n pairs r h)
        (first_or (meaning.value vars a) (told.found held a) (λ n. told.chained held n pairs) r
        (agrees x references vars a) (met_err _ r e))
    fails_by (tree.comparison rel a b) r e =
        compared rel a b r (λ h. fails_by a r h) (λ h. fails_by b r h)
        (first_or (meaning.value vars a) (told.found held a)
        (λ n. told.with_number (told.found held b) (λ m. Ok (told.truth (meaning.compares rel n m)))) r
        (agrees x references vars a) (met_err _ r e))

    -- a chain
    chain_fails : (n : ℤ) (pairs : Pairs) (r : Reason) → told.chained held n pairs ≡ Err r → ChainFails vars n pairs r
    chain_fails n tree.no_pairs r e = absurd (cc)
    chain_fails n (tree.pair o a more) r e =
        paired n o a more r (λ h. fails_by a r h) (λ k h. chain_fails k more r h)
        (first_or (meaning.value vars a) (told.found held a)
        (λ m. told.and_then (told.applied o n m) (λ k. told.chained held k more)) r (agrees x references vars a) e)

  -- what is told of an expression, and where a number is wanted
  pub value_first : (e : Expression) (r : Reason) → told.no_value held e ≡ Some r → FailsBy vars e r
  value_first e r h = fails_by e r (told_err (told.found held e) r h)

  pub number_first : (e : Expression) (r : Reason) → told.no_number held e ≡ Some r → NoNumber vars e r
  number_first e r h = or_cell e r (λ k. fails_by e r k) (told_err _ r h)
