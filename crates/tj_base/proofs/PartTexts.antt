-- The text of a name's numbers, one list of them behind another.
use Rattle.std.proofs.Common.{◌≡◌, ℕ, List, [], ◌∷◌, ◌++◌, refl, ap, sym, ◌∙◌, append_assoc}
use Rattle.tj_base.specs.Texts.{part_text, parts_text}

-- it is the text of the first ones, and then that of the others
pub parts_text-append : (a b : List ℕ) → parts_text (a ++ b) ≡ parts_text a ++ parts_text b
parts_text-append [] b = refl
parts_text-append (x ∷ a) b = ap (λ t. part_text x ++ t) (parts_text-append a b)
    ∙ sym (append_assoc (part_text x) (parts_text a) (parts_text b))
