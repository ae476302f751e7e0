-- Texts that are joined are a list made of theirs.
use Rattle.std.proofs.Common.{List, [], append-nil, append_assoc, map, refl, sym, ℕ, ◌++◌, ◌∙◌, ◌∷◌, ◌≡◌}
use Rattle.std.specs.List.{flat_map}
use Rattle.tj_faults.specs.JoinedTexts.{joined, joined_onto}

-- texts behind one
onto : {A : Type 0} (f : A → List ℕ) (text : List ℕ) (parts : List A)
    → text ++ flat_map f parts ≡ joined_onto text (map f parts)
onto f text [] = append-nil text
onto f text (p ∷ ps) = sym (append_assoc text (f p) (flat_map f ps)) ∙ onto f (text ++ f p) ps

-- the texts one after the other
pub texts_are : {A : Type 0} (f : A → List ℕ) (parts : List A) → flat_map f parts ≡ joined (map f parts)
texts_are f [] = refl
texts_are f (p ∷ ps) = onto f (f p) ps
