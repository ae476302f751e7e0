-- Two counts, one behind the other.
use Rattle.std.proofs.Common.{◌≡◌, ◌∙◌, ◌++◌, ℕ, List, [], ap, sym}
use Rattle.std.proofs.lemmas.List.{append_assoc}

-- a word and a number behind another word and number are the four, joined
pub both_counted : (start first both word number next more : List ℕ) → start ≡ [] → first ≡ start ++ (word ++ number)
    → both ≡ first ++ (next ++ more) → both ≡ word ++ number ++ next ++ more
both_counted start first both word number next more none one two =
    two ∙ ap (λ z. z ++ (next ++ more)) (one ∙ ap (λ z. z ++ (word ++ number)) none)
    ∙ sym (append_assoc (word ++ number) next more)
