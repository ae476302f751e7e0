-- The text of a name goes on from that of its maker.
use Rattle.std.proofs.Common.{ℕ, List, ◌≡◌, [], ◌∷◌, ◌++◌, ap, append-nil, append_assoc, sym, ◌∙◌}
use Rattle.tj_base.proofs.PartTexts.{parts_text-append}
use Rattle.tj_base.specs.ForkOrder.{Name}
use Rattle.tj_base.specs.Texts.{name_text, part_text, parts_text}

-- a number more
pub name_more : (maker name : Name) (k : ℕ) → name ≡ maker ++ k ∷ [] → name_text name ≡ name_text maker ++ part_text k
name_more maker name k e = ap name_text e ∙ ap (λ z. 48 ∷ z) (parts_text-append maker (k ∷ [])
    ∙ ap (λ z. parts_text maker ++ z) (append-nil (part_text k)))

-- behind a text
pub name_more_behind : (before : List ℕ) (maker name : Name) (k : ℕ) → name ≡ maker ++ k ∷ []
    → (before ++ name_text maker) ++ part_text k ≡ before ++ name_text name
name_more_behind before maker name k e = append_assoc before (name_text maker) (part_text k)
    ∙ ap (λ z. before ++ z) (sym (name_more maker name k e))
