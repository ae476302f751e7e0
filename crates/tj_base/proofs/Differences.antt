-- Where lists of numbers first differ: lists that go on behind beginnings of one length, and what it says of order.
use Rattle.std.proofs.Common.{◌≡◌, ℕ, ◌≤◌, List, [], ◌∷◌, ◌++◌, length, Some, None, nat_eq, nat_lt, true, refl, ◌∙◌, sym, arith}
use Rattle.std.proofs.lemmas.Bool.Decides.{nat_tests}
use Rattle.std.specs.Cmp.Lexicographic.{slice_cmp, pointwise}
use Rattle.std.specs.Option.{option_or}
use Rattle.std.specs.Ordering.{nat_cmp}
use Rattle.tj_base.specs.Differences.{first_difference}
use Rattle.tj_base.specs.ForkOrder.{before}

-- behind beginnings of one length the lists differ where these do, else where what comes behind does
pub behind : (a b s t : List ℕ) → length a ≡ length b
    → first_difference (a ++ s) (b ++ t) ≡ option_or (first_difference a b) (first_difference s t)
behind [] [] s t e = refl
behind [] (y ∷ b) s t e = absurd (cc)
behind (x ∷ a) [] s t e = absurd (cc)
behind (x ∷ a) (y ∷ b) s t e = let h = behind a b s t (cc) in grind (arith, h)

-- nothing differs from no numbers
pub none_right : (a : List ℕ) → first_difference a [] ≡ None
none_right [] = refl
none_right (x ∷ a) = refl

-- what stands behind as many numbers as the other list has doesn't matter
pub behind_all : (a s b : List ℕ) → length b ≤ length a → first_difference (a ++ s) b ≡ first_difference a b
behind_all a s [] e = none_right (a ++ s) ∙ sym (none_right a)
behind_all [] s (y ∷ b) e = absurd (grind (arith, e))
behind_all (x ∷ a) s (y ∷ b) e = let h = behind_all a s b (grind (arith, e)) in grind (arith, h)

-- the fork order is that of the numbers at which the lists first differ, the larger one first, else that of lengths
pub before_some : (a b : List ℕ) (x y : ℕ) → first_difference a b ≡ Some (x, y) → before a b ≡ nat_lt y x
before_some [] b x y e = absurd (cc)
before_some (j ∷ a) [] x y e = absurd (cc)
before_some (j ∷ a) (k ∷ b) x y e = let h = before_some a b x y in grind (arith, nat_tests, h, e)

pub before_none : (a b : List ℕ) → first_difference a b ≡ None → before a b ≡ nat_lt (length a) (length b)
before_none [] [] e = refl
before_none [] (y ∷ b) e = grind (arith, nat_tests)
before_none (j ∷ a) [] e = grind (arith, nat_tests)
before_none (j ∷ a) (k ∷ b) e = let h = before_none a b in grind (arith, nat_tests, h, e)

-- the same of the other list
pub behind_all_second : (a b t : List ℕ) → length a ≤ length b → first_difference a (b ++ t) ≡ first_difference a b
behind_all_second [] b t e = refl
behind_all_second (x ∷ a) [] t e = absurd (grind (arith, e))
behind_all_second (x ∷ a) (y ∷ b) t e = let h = behind_all_second a b t (grind (arith, e)) in grind (arith, h)

-- the name order is that of the numbers at which the lists first differ, else that of lengths
pub order_some : (a b : List ℕ) (x y : ℕ) → first_difference a b ≡ Some (x, y) → slice_cmp nat_cmp a b ≡ nat_cmp x y
order_some [] b x y e = absurd (cc)
order_some (j ∷ a) [] x y e = absurd (cc)
order_some (j ∷ a) (k ∷ b) x y e = let h = order_some a b x y in grind (arith, nat_tests, h, e)

pub order_none : (a b : List ℕ) → first_difference a b ≡ None → slice_cmp nat_cmp a b ≡ nat_cmp (length a) (length b)
order_none [] [] e = refl
order_none [] (y ∷ b) e = grind (arith, nat_tests)
order_none (j ∷ a) [] e = grind (arith, nat_tests)
order_none (j ∷ a) (k ∷ b) e = let h = order_none a b in grind (arith, nat_tests, h, e)

-- lists that are the same don't differ
pub same_nowhere : (a b : List ℕ) → pointwise nat_eq a b ≡ true → first_difference a b ≡ None
same_nowhere [] b e = refl
same_nowhere (x ∷ a) [] e = refl
same_nowhere (x ∷ a) (y ∷ b) e = let h = same_nowhere a b in grind (arith, nat_tests, h, e)
