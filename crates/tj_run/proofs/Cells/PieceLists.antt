-- A cell among cells: how far a search has come.
use Rattle.tj_run.proofs.Prelude.{CellId, List, [], ap, append_assoc, cell, drop, false, get_or, has_cell, length}
use Rattle.tj_run.proofs.Prelude.{nat_eq, numbers, refl, suc, sym, true, without_cell, ℕ, ◌++◌, ◌+◌, ◌<◌, ◌∙◌, ◌∷◌, ◌≡◌}
use Rattle.std.proofs.Common.{take, drop-cons, add-one}
use Rattle.std.proofs.lemmas.List.{take_more}

-- the numbers of two lists, one after the other
pub numbers_append : (xs ys : List CellId) → numbers (xs ++ ys) ≡ numbers xs ++ numbers ys
numbers_append [] ys = refl
numbers_append (x ∷ xs) ys = ap (λ l. x.0 ∷ l) (numbers_append xs ys)

module _ (q : ℕ) (xs : List CellId) (i : ℕ) (x : CellId) (h : i < length xs) (e : x ≡ get_or xs i (cell 0)) where
  from_here : drop i xs ≡ x ∷ drop (i + 1) xs
  from_here = rw add-one (drop-cons xs i (cell 0) h ∙ ap (λ z. z ∷ drop (suc i) xs) (sym e))

  up_to_here : take (i + 1) xs ≡ take i xs ++ x ∷ []
  up_to_here = take_more xs i (cell 0) h ∙ ap (λ z. take i xs ++ z ∷ []) (sym e)

  pub without_on : nat_eq q x.0 ≡ false → numbers (take i xs) ++ without_cell q (numbers (drop i xs))
      ≡ numbers (take (i + 1) xs) ++ without_cell q (numbers (drop (i + 1) xs))
  without_on f = rw (from_here, up_to_here, numbers_append (take i xs) (x ∷ []), f, append_assoc) refl

  pub has_on : nat_eq q x.0 ≡ false
      → has_cell q (numbers (drop i xs)) ≡ has_cell q (numbers (drop (i + 1) xs))
  has_on f = rw (from_here, f) refl

  pub without_here : nat_eq q x.0 ≡ true → numbers (take i xs) ++ without_cell q (numbers (drop i xs))
      ≡ numbers (take i xs ++ drop (suc i) xs)
  without_here f = rw (from_here, f, add-one) (sym (numbers_append (take i xs) (drop (suc i) xs)))

  pub has_here : nat_eq q x.0 ≡ true → has_cell q (numbers (drop i xs)) ≡ true
  has_here f = rw (from_here, f) refl
