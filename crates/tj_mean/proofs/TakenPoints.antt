-- What is told of the elements of a list that are taken from its end.
use Rattle.std.proofs.Common.{◌≡◌, List, [], ◌∷◌, ◌++◌, map, reverse, Option, Some, sym, ap, ◌∙◌, append_assoc}
use Rattle.std.proofs.lemmas.List.{reverse-append}

module _ {P S : Type 0} (f : P → Option S) (all left rest taken : List P) (told new : List S)
    (before : all ≡ left ++ taken) (so_far : map f taken ≡ map (λ s. Some s) (reverse told)) where
  -- one element more
  pub one_told : (x : P) (s : S) → left ≡ rest ++ x ∷ [] → f x ≡ Some s → new ≡ told ++ s ∷ []
      → (all ≡ rest ++ x ∷ taken) × (map f (x ∷ taken) ≡ map (λ z. Some z) (reverse new))
  one_told x s e h n = (
    before ∙ ap (λ l. l ++ taken) e ∙ append_assoc rest (x ∷ []) taken,
    ap (λ o. o ∷ map f taken) h ∙ ap (λ l. Some s ∷ l) so_far
        ∙ ap (λ (l : List S). map (λ z. Some z) l) (sym (reverse-append told (s ∷ [])))
        ∙ ap (λ (l : List S). map (λ z. Some z) (reverse l)) (sym n),
  )

  -- all, where none is left
  pub all_told : left ≡ rest ++ [] → rest ≡ [] → new ≡ reverse told → map f all ≡ map (λ s. Some s) new
  all_told e r n =
      ap (λ l. map f l) (before ∙ ap (λ l. l ++ taken) e ∙ ap (λ l. (l ++ []) ++ taken) r) ∙ so_far
      ∙ ap (λ (l : List S). map (λ s. Some s) l) (sym n)
