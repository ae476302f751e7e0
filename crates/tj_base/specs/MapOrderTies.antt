-- The order of names as keys of maps ties where they are the same.
use Rattle.std.specs.Prelude.{◌≡◌, Bool, true, false, List, [], ◌∷◌, ℕ, reverse, nat_eq}
use Rattle.std.proofs.Common.{refl, ap, sym, ◌∙◌}
use Rattle.std.proofs.lemmas.List.{reverse-append}
use Rattle.std.specs.Cmp.Lexicographic.{pointwise, same_text, other_text, texts_ties}
use Rattle.std.specs.Ordering.{eq_by_cmp}
use Rattle.tj_base.specs.ForkOrder.{Name}
use Rattle.tj_base.specs.MapOrder.{key, map_order}

turned_twice : (a : List ℕ) → reverse (reverse a) ≡ a
turned_twice [] = refl
turned_twice (x ∷ a) = ap reverse (reverse-append (x ∷ []) a)
    ∙ (reverse-append (reverse a) (x ∷ []) ∙ ap (λ r. x ∷ r) (turned_twice a))

-- names with one key are one
one_key : (a b : Name) → key a ≡ key b → a ≡ b
one_key a b e = let turned : reverse a ≡ reverse b = cc in
    sym (turned_twice a) ∙ (ap reverse turned ∙ turned_twice b)

-- names are the same where their keys are
pub same_keys : (a b : Name) → pointwise nat_eq a b ≡ pointwise nat_eq (key a) (key b)
same_keys a b = by (pointwise nat_eq a b) (pointwise nat_eq (key a) (key b)) refl refl where
  by : (r s : Bool) → pointwise nat_eq a b ≡ r → pointwise nat_eq (key a) (key b) ≡ s
      → pointwise nat_eq a b ≡ pointwise nat_eq (key a) (key b)
  by true true e f = e ∙ sym f
  by false false e f = e ∙ sym f
  by true false e f = absurd (other_text (key a) (key b) (sym f) (ap key (same_text a b (sym e))))
  by false true e f = absurd (other_text a b (sym e) (one_key a b (same_text (key a) (key b) (sym f))))

-- so the order ties where they are
pub keys_tie : (a b : Name) → pointwise nat_eq a b ≡ eq_by_cmp map_order a b
keys_tie a b = same_keys a b ∙ texts_ties (key a) (key b)
