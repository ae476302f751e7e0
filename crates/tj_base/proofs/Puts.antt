-- A function changed at one index.
use Rattle.std.proofs.Common.{◌≡◌, ◌≢◌, ℕ, refl, sym, subst, eq-eqb, ne_eqb}
use mathlib.Core.Logic.{dite}
use native.Mathlib.Decide.{ℕ_discrete}
use Rattle.tj_base.specs.Puts.{put}

-- the new value at its index
pub put_here : {A : Type 0} (f : ℕ → A) (i : ℕ) (a : A) → put f i a i ≡ a
put_here f i a = rw (eq-eqb i i refl) refl

-- the old value at every other index
pub put_else : {A : Type 0} (f : ℕ → A) (i : ℕ) (a : A) (j : ℕ) → j ≢ i → put f i a j ≡ f j
put_else f i a j n = rw (ne_eqb j i n) refl

-- what holds of the new value at i, and of each other value, holds after
pub at_put : {A : Type 0} (f : ℕ → A) (i : ℕ) (a : A) (F : ℕ → A → Type 0) (j : ℕ)
    → F i a → (j ≢ i → F j (f j)) → F j (put f i a j)
at_put f i a F j here else = dite (ℕ_discrete j i)
    (λ e. subst (λ k. F k (put f i a k)) (sym e) (subst (F i) (sym (put_here f i a)) here))
    (λ n. subst (F j) (sym (put_else f i a j n)) (else n))

-- the same value at one index changes nothing
pub put_same : {A : Type 0} (f : ℕ → A) (i : ℕ) (a : A) → f i ≡ a → (j : ℕ) → put f i a j ≡ f j
put_same f i a e j = at_put f i a (λ k x. x ≡ f k) j (sym e) (λ n. refl)
