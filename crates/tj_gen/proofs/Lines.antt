-- The script in the pieces in which it is written.
use Rattle.std.proofs.Common.{◌≡◌, ℕ, suc, List, [], ◌∷◌, ◌++◌, codes, refl, sym, ap, ◌∙◌, append_assoc}
use Rattle.std.specs.List.{flat_map}
use Rattle.std.proofs.lemmas.Grind.{flat_map-append}
use Rattle.tj_gen.specs.Script.{head_lines, step_lines, steps_lines, tail_lines, ended, script_text}

-- five pieces, in whatever order they are put together
pieces : (t a n b d e : List ℕ) → ((t ++ a) ++ n) ++ (b ++ (d ++ e)) ≡ t ++ (a ++ (((n ++ b) ++ d) ++ e))
pieces t a n b d e = simp append_assoc refl

-- a step, with its number in between
pub step_pieces : (text number : List ℕ) →
    ((text ++ codes "  q = new;\n  t = fork node(") ++ number) ++ codes ", p, own q);\n  p = q;\n"
    ≡ text ++ flat_map ended (codes "  q = new;"
    ∷ (codes "  t = fork node(" ++ number ++ codes ", p, own q);")
    ∷ codes "  p = q;" ∷ [])
step_pieces text number =
    pieces text (codes "  q = new;\n  t = fork node(") number (codes ", p, own q);") (codes "\n") (codes "  p = q;\n")

-- one step more
pub step_more : (text : List ℕ) (i : ℕ) →
    (text ++ flat_map ended (steps_lines i)) ++ flat_map ended (step_lines (suc i))
    ≡ text ++ flat_map ended (steps_lines (suc i))
step_more text i =
    append_assoc text (flat_map ended (steps_lines i)) (flat_map ended (step_lines (suc i)))
    ∙ ap (λ t. text ++ t) (sym (flat_map-append ended (steps_lines i) (step_lines (suc i))))

-- the three parts of the script
pub script_parts : (size : ℕ) →
    (flat_map ended head_lines ++ flat_map ended (steps_lines size)) ++ flat_map ended tail_lines ≡ script_text size
script_parts size =
    sym (ap (λ t. t ++ flat_map ended tail_lines) (flat_map-append ended head_lines (steps_lines size)))
    ∙ sym (flat_map-append ended (head_lines ++ steps_lines size) tail_lines)

-- the text with its end, where the steps so far are all
pub script_ended : (text : List ℕ) (i size : ℕ)
    → text ≡ flat_map ended head_lines ++ flat_map ended (steps_lines i) → i ≡ size
    → text ++ flat_map ended tail_lines ≡ script_text size
script_ended text i size e same =
    ap (λ t. t ++ flat_map ended tail_lines) e ∙ script_parts i ∙ ap script_text same
