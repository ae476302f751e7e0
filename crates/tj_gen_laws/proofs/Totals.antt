-- The sum of the numbers from 1 to k is half of k times its successor.
use Rattle.std.proofs.Common.{ℕ, zero, suc, ◌≡◌, sym, ap, ◌∙◌, arith}
use Rattle.std.specs.Prelude.{◌*◌, ◌/◌}
use Rattle.std.proofs.Math.Nat.{mul-div_cancel}
use Rattle.tj_gen_laws.proofs.MainPoints.{sum_to}

twice : (k : ℕ) → sum_to k * 2 ≡ k * suc k
twice zero = omega arith
twice (suc k) = let r = twice k in grind arith

pub sum_is : (k : ℕ) → sum_to k ≡ k * suc k / 2
sum_is k = sym (mul-div_cancel (sum_to k) (omega arith)) ∙ ap (λ n. n / 2) (twice k)
