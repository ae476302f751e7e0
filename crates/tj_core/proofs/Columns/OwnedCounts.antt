-- How many cells a task owns.
use Rattle.std.proofs.Common.{◌≡◌, ◌≢◌, ℕ, zero, suc, ◌+◌, ◌<◌, List, [], ◌∷◌, length, set, get_or, Option, Some, None, refl, sym, ap, ◌∙◌, arith, eq-eqb, ne_eqb}
use Rattle.std.proofs.lemmas.List.{get_or_default, get_or-set_same, get_or-set_other}
use Rattle.std.proofs.lemmas.List.Sums.{sum_by-cons}
use native.Mathlib.Decide.{ℕ_discrete}
use mathlib.Core.Logic.{dite}
use Rattle.tj_core.specs.Inner.Owners.{owner_in, owned_count, one_if, AreOwnersInside, IsInside}

pub owned_count-cons : (o : Option ℕ) (os : List (Option ℕ)) (t : ℕ) → owned_count (o ∷ os) t ≡ one_if o t + owned_count
    os t
owned_count-cons o os t = sum_by-cons (λ x. one_if x t) o os

pub owned_count-set : (os : List (Option ℕ)) (c : ℕ) (o : Option ℕ) (t : ℕ) → c < length os
    → owned_count (set os c o) t + one_if (owner_in os c) t ≡ owned_count os t + one_if o t
owned_count-set [] c o t h = absurd (omega arith)
owned_count-set (x ∷ os) zero o t h = let a = owned_count-cons o os t in let b = owned_count-cons x os t in omega arith
owned_count-set (x ∷ os) (suc c) o t h =
    let a = owned_count-cons x (set os c o) t in let b = owned_count-cons x os t in let r = owned_count-set os c o t
    (omega arith) in omega arith

pub is_owner-some : (o : Option ℕ) (t : ℕ) → o ≡ Some t → one_if o t ≡ 1
is_owner-some o t e = rw e (rw (eq-eqb t t refl) refl)

pub is_owner-one : (o : Option ℕ) (t : ℕ) → o ≢ Some t → one_if o t ≡ 0
is_owner-one None t n = refl
is_owner-one (Some u) t n = dite (ℕ_discrete u t) (λ e. absurd (n (ap (λ (k : ℕ). Some k) e)))
    (λ d. rw (ne_eqb u t d) refl)

-- a task that owns a cell owns at least one
pub owned_count-some : (os : List (Option ℕ)) (c t : ℕ) → owner_in os c ≡ Some t → 0 < owned_count os t
owned_count-some [] c t e = absurd (cc)
owned_count-some (o ∷ os) zero t e = let a = owned_count-cons o os t in let b = is_owner-some o t e in omega arith
owned_count-some (o ∷ os) (suc c) t e = let a = owned_count-cons o os t in let b = owned_count-some os c t e in omega
    arith

-- where it owns one, no other cell is its own
pub owned_count-alone : (os : List (Option ℕ)) (i t : ℕ) → owner_in os i ≡ Some t → owned_count os t ≡ 1 → (c : ℕ)
    → owner_in os c ≡ Some t → c ≡ i
owned_count-alone [] i t e n c h = absurd (cc)
owned_count-alone (o ∷ os) zero t e n zero h = refl
owned_count-alone (o ∷ os) zero t e n (suc c) h = let a = owned_count-cons o os t in let b = is_owner-some o t e in let
    d = owned_count-some os c t h in absurd (omega arith)
owned_count-alone (o ∷ os) (suc i) t e n zero h = let a = owned_count-cons o os t in let b = is_owner-some o t h in let
    d = owned_count-some os i t e in absurd (omega arith)
owned_count-alone (o ∷ os) (suc i) t e n (suc c) h = let a = owned_count-cons o os t in let d = owned_count-some os i t
    e in
    ap suc (owned_count-alone os i t e (omega arith) c h)

pub owned_count-none : (os : List (Option ℕ)) (t : ℕ) → ((c : ℕ) → owner_in os c ≢ Some t) → owned_count os t ≡ 0
owned_count-none [] t h = refl
owned_count-none (o ∷ os) t h = let a = owned_count-cons o os t in let b = is_owner-one o t (h 0) in let
    r = owned_count-none os t (λ c. h (suc c)) in omega arith

pub owned_count-one : (os : List (Option ℕ)) (i t : ℕ) → owner_in os i ≡ Some t
    → ((c : ℕ) → owner_in os c ≡ Some t → c ≡ i) → owned_count os t ≡ 1
owned_count-one [] i t e h = absurd (cc)
owned_count-one (o ∷ os) zero t e h = let a = owned_count-cons o os t in let b = is_owner-some o t e in
    let r = owned_count-none os t (λ c q. let z = h (suc c) q in omega arith) in omega arith
owned_count-one (o ∷ os) (suc i) t e h = let a = owned_count-cons o os t in
    let b = is_owner-one o t (λ q. let z = h 0 q in omega arith) in
    let r = owned_count-one os i t e (λ c q. let z = h (suc c) q in omega arith) in omega arith

-- an owner that was read from the list
pub owner_there : (os : List (Option ℕ)) (c : ℕ) (o : Option ℕ) → c < length os → o ≡ get_or os c o → owner_in os c ≡ o
owner_there os c o h e = get_or_default os c None o h ∙ sym e

-- where the owner of one cell changes, each owner is still inside
pub inside-set : (os : List (Option ℕ)) (c : ℕ) (o : Option ℕ) (n : ℕ) → c < length os → AreOwnersInside os n → IsInside
    o n → AreOwnersInside (set os c o) n
inside-set os c o n h a b q u e = dite (ℕ_discrete q c)
    (λ d. b u (sym (get_or-set_same os c o None h) ∙ (ap (owner_in (set os c o)) (sym d) ∙ e)))
    (λ d. a q u (sym (get_or-set_other os c q o None d) ∙ e))
