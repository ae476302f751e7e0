-- Tests and parts of what references lead to.
use Rattle.std.proofs.Common.{◌≡◌, Bool, List, [], ◌∷◌, ◌&&◌, map, refl, ap}
use Rattle.std.specs.List.{list_all}

-- all of what is made of elements pass a test
pub list_all_map : {A C : Type 0} (p : C → Bool) (f : A → C) (xs : List A)
    → list_all (λ x. p (f x)) xs ≡ list_all p (map f xs)
list_all_map p f [] = refl
list_all_map p f (x ∷ xs) = ap (λ b. p (f x) && b) (list_all_map p f xs)

-- what is made of what is made of elements
pub map_twice : {A C D : Type 0} (g : C → D) (f : A → C) (xs : List A) → map (λ x. g (f x)) xs ≡ map g (map f xs)
map_twice g f [] = refl
map_twice g f (x ∷ xs) = ap (λ l. g (f x) ∷ l) (map_twice g f xs)
