-- The lot of a seat that is split for the last of some workers is enough for the others.
use Rattle.tj_run.proofs.Prelude.{HasLots, View, [], ap, least_lot, left_half, subst, suc, sym, ℕ, ◌*◌, ◌+◌, ◌==◌, ◌≡◌, ◌≤◌}
use Rattle.std.proofs.Common.{zero, ◌<◌, false, List, ◌∷◌, ◌++◌, length, length-append, ◌∙◌, arith}

-- a list with one more at its end is one longer
pub length_last : {A : Type 0} (xs ys : List A) (x : A) → xs ≡ ys ++ x ∷ [] → length xs ≡ length ys + 1
length_last xs ys x e = ap length e ∙ length-append ys (x ∷ [])

-- the measure of the calls falls by the worker that is taken away
pub falls_by : (n m t : ℕ) → n ≡ m + 1 → 2 * n ≡ t → 2 * m + 1 < t
falls_by n m t e d = omega arith

-- a number that isn't 0
pub some_more : (n : ℕ) → false ≡ (n == 0) → 0 < n
some_more zero e = absurd (cc)
some_more (suc n) e = omega arith

module _ {B : Type 0} {v : View B} {n m : ℕ} (h : HasLots n v) (one : n ≡ m + 1) (rest : 0 < m) where
  pub lots_two : 2 * least_lot ≤ v.lot
  lots_two = let l = h.lot in omega arith

  pub lots_left : HasLots m (left_half v)
  lots_left = record {
    some = rest;
    few = (let f = h.few in omega arith);
    lot = (let l = h.lot in omega arith);
  }

-- a view with the same lot has lots for as many workers
pub lots_same : {B : Type 0} (n : ℕ) (v w : View B) → w.lot ≡ v.lot → HasLots n v → HasLots n w
lots_same n v w same h = record {
  some = h.some;
  few = h.few;
  lot = subst (λ lot. least_lot * n ≤ lot) (sym same) h.lot;
}
