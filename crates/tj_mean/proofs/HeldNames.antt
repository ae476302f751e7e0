-- A name among names: how far a search has come.
use Rattle.std.proofs.Common.{◌≡◌, ◌<◌, ℕ, suc, ◌+◌, true, false, List, [], ◌∷◌, ◌++◌, length, get_or, take, drop}
use Rattle.std.proofs.Common.{refl, sym, ap, ◌∙◌}
use Rattle.std.proofs.Common.{append_assoc, drop-cons, add-one}
use Rattle.std.proofs.lemmas.List.{take_more}
use Rattle.tj_base.specs.ForkOrder.{Name}
use Rattle.tj_body.specs.Names.{same, has, without}

module _ (q : Name) (xs : List Name) (i : ℕ) (x : Name) (h : i < length xs) (e : x ≡ get_or xs i x) where
  -- what is left at i begins with the name at i
  from_here : drop i xs ≡ x ∷ drop (i + 1) xs
  from_here = rw add-one (drop-cons xs i x h ∙ ap (λ z. z ∷ drop (suc i) xs) (sym e))

  up_to_here : take (i + 1) xs ≡ take i xs ++ x ∷ []
  up_to_here = take_more xs i x h ∙ ap (λ z. take i xs ++ z ∷ []) (sym e)

  -- a name that isn't x is among the rest
  pub without-more : same q x ≡ false
      → take i xs ++ without q (drop i xs) ≡ take (i + 1) xs ++ without q (drop (i + 1) xs)
  without-more f = rw (from_here, up_to_here, f, append_assoc) refl

  pub has-more : same q x ≡ false → has q (drop i xs) ≡ has q (drop (i + 1) xs)
  has-more f = rw (from_here, f) refl

  pub without-here : same q x ≡ true → take i xs ++ without q (drop i xs) ≡ take i xs ++ drop (suc i) xs
  without-here f = rw (from_here, f, add-one) refl

  pub has-here : same q x ≡ true → has q (drop i xs) ≡ true
  has-here f = rw (from_here, f) refl
