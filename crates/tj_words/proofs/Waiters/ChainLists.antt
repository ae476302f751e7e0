-- Lists of pushes, rests and tasks, of which one changes.
use Rattle.tj_words.proofs.Prelude.{All, Any, AreApart, IsIn, List, None, Option, Push, Rest, Some, [], arith, eqb}
use Rattle.tj_words.proofs.Prelude.{false, inl, inr, length, ne_eqb, put, refl, rest_of, sym, true, without}
use Rattle.tj_words.proofs.Prelude.{without_push, ℕ, ◌<◌, ◌∙◌, ◌∷◌, ◌≡◌, ◌≢◌, ◌≤◌, ◌⊎◌}
use Rattle.std.specs.List.{list_any, IsDistinct, AllByRecursion}
use Rattle.std.proofs.lemmas.Map.Steps.{length-le_from_distinct_below}

-- nothing isn't something
pub no_some : {P A : Type 0} {a : A} {o : Option A} → o ≡ None → o ≡ Some a → P
no_some a b = let e = sym a ∙ b in absurd (cc)

pub same_some : {A : Type 0} {a b : A} {o : Option A} → o ≡ Some a → o ≡ Some b → a ≡ b
same_some a b = let e = sym a ∙ b in cc

pub none_or : {A : Type 0} (o : Option A) → (o ≡ None) ⊎ ((a : A) × (o ≡ Some a))
none_or None = inl refl
none_or (Some a) = inr (a, refl)

-- where f has nothing at u, so has f with nothing at t
pub none_none : (f : ℕ → Option ℕ) (t u : ℕ) → f u ≡ None → put f t None u ≡ None
none_none f t u e = grind arith

-- the push is of this task
abbrev pub IsOfTask : ℕ → Push → Type 0
IsOfTask u e = e.task ≡ u

-- a push of the list without that of t is one of before, and not of t
pub in_without_push : (t : ℕ) (l : List Push) (x : Push) → IsIn x (without_push t l) → IsIn x l × (x.task ≢ t)
in_without_push t [] x i = absurd i
in_without_push t (e ∷ es) x i = let r = in_without_push t es x in grind arith

-- a task other than t keeps its push
pub any_without_push : (t u : ℕ) (l : List Push) → u ≢ t → Any (λ (e : Push). e.task ≡ u) l
    → Any (λ (e : Push). e.task ≡ u) (without_push t l)
any_without_push t u [] n a = a
any_without_push t u (e ∷ es) n a = let r = any_without_push t u es n in grind arith

-- what holds of the pushes of other tasks
pub all_without : (t : ℕ) (F : Push → Type 0) (l : List Push) → ((e : Push) → IsIn e l → e.task ≢ t → F e)
    → All F (without_push t l)
all_without t F l h x i = let w = in_without_push t l x i in h x w.0 w.1

-- what a rest is for a list of tasks
pub rest_is : (p : ℕ) (ts : List ℕ) (r : Rest) → rest_of p ts ≡ Some r
    → (r.cell ≡ p) × (r.tasks ≡ ts) × (r.way ≡ None) × (ts ≢ [])
rest_is p ts r h = grind arith

pub rest_some : (p : ℕ) (ts : List ℕ) → ts ≢ [] → (r : Rest) × (rest_of p ts ≡ Some r) × (r.cell ≡ p)
rest_some p [] n = absurd (n refl)
rest_some p (t ∷ ts) n = (record { cell = p; tasks = t ∷ ts; way = None }, refl, refl)

-- what is left was there, and isn't the number that was taken out
pub of_without : (c x : ℕ) (l : List ℕ) → IsIn x (without c l) → IsIn x l × (x ≢ c)
of_without c x [] i = absurd i
of_without c x (y ∷ ys) i = let r = of_without c x ys in grind arith

pub apart_without : (c : ℕ) (l : List ℕ) → AreApart l → AreApart (without c l)
apart_without c [] h = tt
apart_without c (y ∷ ys) h = let r = apart_without c ys h.1 in let o = of_without c y ys in grind arith

-- a number that the test by equality finds is in the list
is_in : (q : ℕ) (l : List ℕ) → list_any (eqb q) l ≡ true → IsIn q l
is_in q [] e = cc
is_in q (x ∷ xs) e = let r = is_in q xs in grind arith

-- no two of the numbers are equal by that test
distinct : (l : List ℕ) → AreApart l → IsDistinct eqb l
unfolding IsDistinct
distinct [] h = tt
distinct (x ∷ xs) h = (others xs h.0, distinct xs h.1)
  where
    others : (ys : List ℕ) → ¬ IsIn x ys → AllByRecursion (λ y. eqb x y ≡ false) ys
    others [] n = tt
    others (y ∷ ys) n = (ne_eqb x y (λ e. n (inl e)), others ys (λ i. n (inr i)))

-- so many numbers below n, none of them twice, are at most n
pub few_apart : (n : ℕ) (l : List ℕ) → AreApart l → ((x : ℕ) → IsIn x l → x < n) → length l ≤ n
few_apart n l h small = length-le_from_distinct_below l n (distinct l h) (λ q e. small q (is_in q l e))
