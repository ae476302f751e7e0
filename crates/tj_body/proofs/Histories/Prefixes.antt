-- Names that begin with a name.
use Rattle.std.proofs.Common.{◌≡◌, ℕ, zero, suc, ◌+◌, ◌<◌, ◌≤◌, Bool, true, false, cond, nat_eq, ◌&&◌, [], ◌∷◌}
use Rattle.std.proofs.Common.{refl, sym, ap, ◌∙◌, arith, eq-eqb, ne_eqb}
use native.Mathlib.Decide.{ℕ_discrete}
use mathlib.Core.Logic.{dite}
use Rattle.tj_base.specs.ForkOrder.{Name}
use Rattle.tj_body.proofs.Counts.{one_if, total, is}
use Rattle.tj_body.proofs.Histories.Accounts.{numbered}

-- the second name begins with the first
abbrev pub begins : Name → Name → Bool
begins [] q = true
begins (x ∷ xs) [] = false
begins (x ∷ xs) (y ∷ ys) = nat_eq x y && begins xs ys

-- and goes on after it
abbrev pub goes_below : Name → Name → Bool
goes_below [] [] = false
goes_below [] (y ∷ ys) = true
goes_below (x ∷ xs) [] = false
goes_below (x ∷ xs) (y ∷ ys) = nat_eq x y && goes_below xs ys

-- 1 where q begins with x
abbrev pub under : Name → Name → ℕ
under q x = one_if (begins x q)

-- 1 where q goes on after x
abbrev pub below : Name → Name → ℕ
below q x = one_if (goes_below x q)

-- a name begins with x where it is x or goes on after it
pub under_is : (q x : Name) → under q x ≡ is q x + below q x
under_is [] [] = refl
under_is (y ∷ ys) [] = refl
under_is [] (x ∷ xs) = refl
under_is (y ∷ ys) (x ∷ xs) =
    dite (ℕ_discrete x y)
    (λ e. let h = under_is ys xs in rw (eq-eqb x y e) (rw (eq-eqb y x (sym e)) h))
    (λ n. rw (ne_eqb x y n) (rw (ne_eqb y x (λ e. n (sym e))) refl))

first : (y : ℕ) (ys : Name) (m : ℕ)
    → (total (under (y ∷ ys)) (numbered [] m) ≤ 1) × (m < y → total (under (y ∷ ys)) (numbered [] m) ≡ 0)
first y ys zero = (omega arith, λ h. refl)
first y ys (suc m) =
    let h = first y ys m in
    dite (ℕ_discrete (suc m) y)
    (λ e. rw (eq-eqb (suc m) y e) (let z = h.1 (omega arith) in (omega arith, λ g. absurd (omega arith))))
    (λ n. rw (ne_eqb (suc m) y n) (let a = h.0 in (omega arith, λ g. let z = h.1 (omega arith) in omega arith)))

none : (x : ℕ) (xs : Name) (m : ℕ) → total (under []) (numbered (x ∷ xs) m) ≡ 0
none x xs zero = refl
none x xs (suc m) = let h = none x xs m in omega arith

deeper : (x y : ℕ) (xs ys : Name) (m : ℕ)
    → total (under (y ∷ ys)) (numbered (x ∷ xs) m) ≡ cond (nat_eq x y) (total (under ys) (numbered xs m)) 0
deeper x y xs ys zero =
    dite (ℕ_discrete x y) (λ e. rw (eq-eqb x y e) refl) (λ n. rw (ne_eqb x y n) refl)
deeper x y xs ys (suc m) =
    let h = deeper x y xs ys m in
    let inner = total (under ys) (numbered xs m) in
    dite (ℕ_discrete x y)
    (λ e. let g : total (under (y ∷ ys)) (numbered (x ∷ xs) m) ≡ inner = h ∙ ap (λ b. cond b inner 0) (eq-eqb x y e) in
    rw (eq-eqb x y e) (rw g refl))
    (λ n. let g : total (under (y ∷ ys)) (numbered (x ∷ xs) m) ≡ 0 = h ∙ ap (λ b. cond b inner 0) (ne_eqb x y n) in
    rw (ne_eqb x y n) (rw g refl))

-- at most one of the things that x makes begins q
pub numbered_once : (q x : Name) (m : ℕ) → total (under q) (numbered x m) ≤ below q x
numbered_once [] [] m = let h = nothing m in omega arith where
  nothing : (m : ℕ) → total (under []) (numbered [] m) ≡ 0
  nothing zero = refl
  nothing (suc m) = let h = nothing m in omega arith
numbered_once (y ∷ ys) [] m = (first y ys m).0
numbered_once [] (x ∷ xs) m = let h = none x xs m in omega arith
numbered_once (y ∷ ys) (x ∷ xs) m =
    let r = numbered_once ys xs m in
    let h = deeper x y xs ys m in
    let inner = total (under ys) (numbered xs m) in
    dite (ℕ_discrete x y)
    (λ e. let g : total (under (y ∷ ys)) (numbered (x ∷ xs) m) ≡ inner = h ∙ ap (λ b. cond b inner 0) (eq-eqb x y e) in
    rw (eq-eqb x y e) (omega arith))
    (λ n. let g : total (under (y ∷ ys)) (numbered (x ∷ xs) m) ≡ 0 = h ∙ ap (λ b. cond b inner 0) (ne_eqb x y n) in
    rw (ne_eqb x y n) (omega arith))
