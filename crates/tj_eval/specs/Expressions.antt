-- The meaning of expressions: exact whole numbers, computed from the left. The first fault decides.
use Rattle.std.specs.Prelude.{ℕ, ℤ, pos, negsuc, ◌+ℤ◌, ◌-ℤ◌, ◌*ℤ◌, neg_ℤ, int_div, int_rem, int_lt, int_le, ◌^◌, nat_lt}
use Rattle.std.specs.Prelude.{Bool, true, false, not, ◌&&◌, ◌||◌, if◌then◌else◌, List, get_or, Result, Ok, Err}
use Rattle.tj_base.specs.declared.value.Pay.{Pay}
use Rattle.tj_base.specs.declared.value.Pay.TheVariants as pay
use Rattle.tj_base.specs.declared.cause.Trouble.{Trouble}
use Rattle.tj_base.specs.declared.cause.Trouble.TheVariants as trouble
use Rattle.tj_syntax.specs.declared.expr.Op.{Op}
use Rattle.tj_syntax.specs.declared.expr.Op.TheVariants as op
use Rattle.tj_syntax.specs.declared.expr.Rel.{Rel}
use Rattle.tj_syntax.specs.declared.expr.Rel.TheVariants as rel
use Rattle.tj_syntax.specs.Trees.{Expression, Pairs, number, variable, me, negation, chain, comparison, no_pairs, pair}

-- a value, or the first fault on the way to it
abbrev pub Computed : Type 0
Computed = Result Pay Trouble

-- goes on with a number; a reference in its place is a fault of kind
abbrev pub with_number : {A : Type 0} → Computed → (ℤ → Result A Trouble) → Result A Trouble
with_number (Ok (pay.Num n)) go = go n
with_number (Ok (pay.Ref place)) go = Err trouble.Kind
with_number (Err fault) go = Err fault

-- goes on with a reference, by its place; a number in its place is a fault of kind
abbrev pub with_reference : {A : Type 0} → Computed → (ℕ → Result A Trouble) → Result A Trouble
with_reference (Ok (pay.Num n)) go = Err trouble.Kind
with_reference (Ok (pay.Ref place)) go = go place
with_reference (Err fault) go = Err fault

-- whether a whole number is one of 64 bits with a sign
abbrev pub is_i64 : ℤ → Bool
is_i64 (pos n) = nat_lt n (2 ^ 63)
is_i64 (negsuc n) = nat_lt n (2 ^ 63)

-- the exact result, where it is one of 64 bits
abbrev pub exact : ℤ → Computed
exact n = if is_i64 n then Ok (pay.Num n) else Err trouble.Arith

-- whether the number is 0
abbrev pub is_zero : ℤ → Bool
is_zero n = int_le n (pos 0) && int_le (pos 0) n

-- what the operator gives. A quotient is cut towards zero, and a rest fails where the quotient does.
abbrev pub applied : Op → ℤ → ℤ → Computed
applied op.Plus a b = exact (a +ℤ b)
applied op.Minus a b = exact (a -ℤ b)
applied op.Times a b = exact (a *ℤ b)
applied op.Over a b = if is_zero b then Err trouble.Arith else exact (int_div a b)
-- `%` fails with Arith where `/` does, if the quotient doesn't fit
applied op.Rest a b = if is_zero b || not (is_i64 (int_div a b)) then Err trouble.Arith else Ok (pay.Num (int_rem a b))

-- whether the comparison holds
abbrev pub compares : Rel → ℤ → ℤ → Bool
compares rel.Eq a b = int_le a b && int_le b a
compares rel.Ne a b = not (int_le a b && int_le b a)
compares rel.Lt a b = int_lt a b
compares rel.Le a b = int_le a b
compares rel.Gt a b = int_lt b a
compares rel.Ge a b = int_le b a

-- the value of a comparison: 1 where it holds, and 0 where not
abbrev pub truth : Bool → Pay
truth true = pay.Num (pos 1)
truth false = pay.Num (pos 0)

-- what the variable holds
abbrev pub held : List Pay → ℕ → Pay
held vars x = get_or vars x (pay.Num (pos 0))

abbrev mutual
  -- the value of an expression of a task with these variables
  pub value : List Pay → Expression → Computed
  value vars (number n) = Ok (pay.Num n)
  value vars (variable x) = Ok (held vars x)
  value vars me = Ok (pay.Ref 0)
  value vars (negation e) = with_number (value vars e) (λ n. exact (neg_ℤ n))
  value vars (chain e pairs) = with_number (value vars e) (λ n. chained vars n pairs)
  value vars (comparison rel a b) =
      with_number (value vars a) (λ n. with_number (value vars b) (λ m. Ok (truth (compares rel n m))))

  -- the value of a chain whose operands so far have come to n
  pub chained : List Pay → ℤ → Pairs → Computed
  chained vars n no_pairs = Ok (pay.Num n)
  chained vars n (pair op e more) =
      with_number (value vars e) (λ m. with_number (applied op n m) (λ r. chained vars r more))
