-- Functions changed at one index.
use Rattle.std.specs.Prelude.{ℕ, cond, nat_eq}

-- the function with the value a at i
abbrev pub put : {A : Type 0} → (ℕ → A) → ℕ → A → ℕ → A
put f i a j = cond (nat_eq j i) a (f j)
