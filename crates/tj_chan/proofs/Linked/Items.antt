-- The names of items: which stand in a channel's list of names, and which are still to be sent.
use Rattle.std.proofs.Common.{◌≡◌, ℕ, zero, suc, ◌+◌, ◌<◌, ◌∷◌, length, drop, refl, ap}
use Rattle.std.proofs.Common.{◌∙◌, arith}
use Rattle.tj_base.specs.ForkOrder.{Name, child}
use Rattle.tj_chan.specs.Channels.{things_after}

-- as many names as things
pub length-things : (x : Name) (m n : ℕ) → length (things_after x m n) ≡ n
length-things x m zero = refl
length-things x m (suc n) = ap suc (length-things x (suc m) n)

-- the names that are left behind the first k, and the next one of them
pub drop-things : (x : Name) (k m n : ℕ) → k < n
    → drop k (things_after x m n) ≡ child x (m + suc k) ∷ drop (suc k) (things_after x m n)
drop-things x zero m zero l = absurd (none l) where
  none : 0 < 0 → ⊥
  none h = omega arith
drop-things x zero m (suc n) l = ap (λ j. child x j ∷ things_after x (suc m) n) (next m) where
  next : (j : ℕ) → suc j ≡ j + 1
  next j = omega arith
drop-things x (suc k) m zero l = absurd (none l) where
  none : suc k < 0 → ⊥
  none h = omega arith
drop-things x (suc k) m (suc n) l = drop-things x k (suc m) n (omega arith)
    ∙ ap (λ j. child x j ∷ drop (suc k) (things_after x (suc m) n)) (moved m k) where
      moved : (i j : ℕ) → suc i + suc j ≡ i + suc (suc j)
      moved i j = omega arith
