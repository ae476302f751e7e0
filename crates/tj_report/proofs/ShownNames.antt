-- A printed name from which the last number is cut, and to which numbers are added.
use Rattle.tj_report.proofs.Prelude.{List, [], ap, arith, suc, sym, ℕ, ◌++◌, ◌+◌, ◌-◌, ◌∙◌, ◌∷◌, ◌≡◌}
use Rattle.std.proofs.Common.{length, take, decimal}
use Rattle.std.proofs.Math.Seq.{take-append_seam}
use Rattle.std.proofs.lemmas.List.{append-nil, length-append}
use Rattle.tj_base.proofs.PartTexts.{parts_text-append}
use Rattle.tj_base.specs.Texts.{name_text, part_text, parts_text}

-- where the last number is cut from a text with its dot, the text before stays
pub cut_part : (t p : List ℕ) (x left : ℕ) → t ≡ p ++ part_text x → left ≡ length t - length (decimal x) - 1
    → take left t ≡ p
cut_part t p x left whole cut =
    let sizes : length t ≡ length p + suc (length (decimal x)) = ap length whole ∙ length-append p (part_text x) in
    let at : left ≡ length p = omega arith in
    ap (λ z. take z t) at ∙ ap (λ z. take (length p) z) whole ∙ take-append_seam p (part_text x)

-- a number more
pub name_more : (name : List ℕ) (x : ℕ) → name_text (name ++ x ∷ []) ≡ name_text name ++ part_text x
name_more name x = ap (λ z. 48 ∷ z) (parts_text-append name (x ∷ [])
    ∙ ap (λ z. parts_text name ++ z) (append-nil (part_text x)))

-- the text of what a task made
pub child_text : (up c : List ℕ) (k : ℕ) (old new : List ℕ) → old ≡ name_text up → new ≡ old ++ parts_text (k ∷ [])
    → c ≡ up ++ k ∷ [] → new ≡ name_text c
child_text up c k old new e f g =
    f ∙ ap (λ z. z ++ parts_text (k ∷ [])) e ∙ ap (λ z. 48 ∷ z) (sym (parts_text-append up (k ∷ []))) ∙ ap name_text (sym g)
