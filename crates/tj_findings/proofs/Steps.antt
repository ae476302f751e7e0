-- One step of what goes on for all elements of a list.
use Rattle.std.proofs.Common.{◌≡◌, ◌<◌, ◌+◌, ◌∙◌, ℕ, List, [], ◌∷◌, ◌++◌}
use Rattle.std.proofs.Common.{length, map, take, get_or, refl, ap, sym}
use Rattle.std.proofs.lemmas.List.{flat_map_more, map-append, take_more}
use Rattle.std.specs.List.{flat_map}

-- the text of one element more
pub text_more : {A : Type 0} (f : A → List ℕ) (xs : List A) (n : ℕ) (x : A) (old new part added : List ℕ)
    → n < length xs → old ≡ flat_map f (take n xs) → x ≡ get_or xs n x → added ≡ f x → part ≡ added
    → new ≡ old ++ part → new ≡ flat_map f (take (n + 1) xs)
text_more f xs n x old new part added within so_far is told same grown =
    grown ∙ ap (λ z. old ++ z) (same ∙ told) ∙ ap (λ z. z ++ f x) so_far
    ∙ flat_map_more f [] (take n xs) x
    ∙ ap (λ z. flat_map f (take n xs ++ z ∷ [])) is
    ∙ ap (flat_map f) (sym (take_more xs n x within))

-- what is made of one element more, where something of each is seen
pub seen_more : {A B C : Type 0} (seen : B → C) (f : A → C) (xs : List A) (n : ℕ) (x : A) (y : B) (old new : List B)
    → n < length xs → map seen old ≡ map f (take n xs) → x ≡ get_or xs n x → new ≡ old ++ y ∷ [] → seen y ≡ f x
    → map seen new ≡ map f (take (n + 1) xs)
seen_more seen f xs n x y old new within so_far is grown made =
    ap (map seen) grown
    ∙ map-append seen old (y ∷ [])
    ∙ ap (λ z. z ++ seen y ∷ []) so_far
    ∙ ap (λ z. map f (take n xs) ++ z ∷ []) (made ∙ ap f is)
    ∙ sym (map-append f (take n xs) (get_or xs n x ∷ []))
    ∙ ap (map f) (sym (take_more xs n x within))

-- the texts of what is made of elements
pub flat_map_map : {A C : Type 0} (f : C → List ℕ) (g : A → C) (xs : List A)
    → flat_map (λ x. f (g x)) xs ≡ flat_map f (map g xs)
flat_map_map f g [] = refl
flat_map_map f g (x ∷ xs) = ap (λ z. f (g x) ++ z) (flat_map_map f g xs)
