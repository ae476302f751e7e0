-- Steps of a task from where it stands.
use Rattle.std.specs.Prelude.{ℕ, zero, suc}

-- what stands after k steps, each of which makes the next of what stands
abbrev pub after_steps : {P : Type 0} → (P → P) → ℕ → P → P
after_steps step zero p = p
after_steps step (suc k) p = step (after_steps step k p)
