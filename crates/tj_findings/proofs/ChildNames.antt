-- The text of a child's name.
use Rattle.std.proofs.Common.{◌≡◌, ℕ, List, [], ◌∷◌, ◌++◌, sym, ap, ◌∙◌, append-nil}
use Rattle.std.specs.Prelude.{codes}
use Rattle.std.proofs.lemmas.List.{append_assoc}
use Rattle.tj_base.specs.ForkOrder.{Name, child}
use Rattle.tj_base.specs.Texts.{counted, name_text, part_text, parts_text}
use Rattle.tj_base.proofs.PartTexts.{parts_text-append}

-- the name of a child is its maker's, a dot and a number
child_text : (x : Name) (k : ℕ) → name_text x ++ part_text k ≡ name_text (child x k)
child_text x k = ap (λ l. 48 ∷ l)
    (ap (λ l. parts_text x ++ l) (sym (append-nil (part_text k))) ∙ sym (parts_text-append x (k ∷ [])))

-- the same behind other bytes
pub child_behind : (before : List ℕ) (x : Name) (k : ℕ)
    → (before ++ name_text x) ++ counted (codes ".") k ≡ before ++ name_text (child x k)
child_behind before x k =
    append_assoc before (name_text x) (part_text k) ∙ ap (λ l. before ++ l) (child_text x k)
