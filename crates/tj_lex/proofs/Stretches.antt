-- Runs of bytes that pass a test.
use Rattle.std.proofs.Common.{◌≡◌, ℕ, ◌+◌, ◌<◌, ◌∙◌, ap, sym, refl, arith, inl, inr, Bool, true, false, not, ◌&&◌, List, ◌++◌, take, drop}
use Rattle.std.specs.Prelude.{◌==◌, ◌||◌, ◌⊎◌}
use Rattle.std.proofs.lemmas.Bool.{eqb-true}
use Rattle.std.specs.List.{prefix_len, list_all, AllPass}
use Rattle.std.proofs.lemmas.List.{take-append-drop, take-take, drop-take, get_or-take, length-take}
use Rattle.std.proofs.lemmas.List.Sums.{AllPass-from_list_all, list_all-from_AllPass, prefix_len_passes}

-- two tests that hold
pub both : (s t : Bool) → (s && t) ≡ true → (s ≡ true) × (t ≡ true)
both true t e = (refl, e)
both false t e = absurd (cc)

-- two tests that fail
pub or-none : (s t : Bool) → (s || t) ≡ false → (s ≡ false) × (t ≡ false)
or-none true t e = absurd (cc)
or-none false t e = (refl, e)

pub not-true : (t : Bool) → not t ≡ true → t ≡ false
not-true true e = cc
not-true false e = refl

pub not-false : (t : Bool) → not t ≡ false → t ≡ true
not-false true e = refl
not-false false e = cc

-- a test has one of two answers
pub cases : (t : Bool) → (t ≡ true) ⊎ (t ≡ false)
cases true = inl refl
cases false = inr refl

-- where a test fails at k and holds at b, these are two bytes
pub eqb-fails : (p : ℕ → Bool) (k : ℕ) → p k ≡ false → (b : ℕ) → p b ≡ true → (b == k) ≡ false
eqb-fails p k fails b holds =
    elim (cases (b == k)) [
      | inl e ↦ let at_k : p k ≡ true = rw (← eqb-true b k e) holds in absurd (cc)
      | inr e ↦ e
    ]

-- each byte of a run passes
pub list_all-prefix : (p : ℕ → Bool) (bytes : List ℕ) → list_all p (take (prefix_len p bytes) bytes) ≡ true
list_all-prefix p bytes =
    let n = prefix_len p bytes in
    list_all-from_AllPass p (take n bytes) (λ k d h.
    let inside : k < n = omega (arith, length-take n bytes) in
    rw (get_or-take n bytes k d inside) (prefix_len_passes p bytes k d inside))

-- the first n bytes and the m behind them
pub take-split : (n m : ℕ) (u : List ℕ) → take (n + m) u ≡ take n u ++ take m (drop n u)
take-split n m u =
    sym (take-append-drop n (take (n + m) u))
    ∙ ap (λ front. front ++ drop n (take (n + m) u)) (take-take n (n + m) u (omega arith))
    ∙ ap (λ rest. take n u ++ rest) (drop-take n m u)

-- the same, byte by byte
pub AllPass-prefix : (p : ℕ → Bool) (bytes : List ℕ) → AllPass p (take (prefix_len p bytes) bytes)
AllPass-prefix p bytes = AllPass-from_list_all p _ (list_all-prefix p bytes)
