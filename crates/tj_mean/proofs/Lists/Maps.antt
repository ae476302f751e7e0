-- Two maps after one another.
use Rattle.std.proofs.Common.{◌≡◌, List, [], ◌∷◌, map, refl, ap}

-- two maps after one another are one
pub map_map : {A C D : Type 0} (f : A → C) (h : C → D) (l : List A) → map h (map f l) ≡ map (λ x. h (f x)) l
map_map f h [] = refl
map_map f h (x ∷ xs) = ap (λ l. h (f x) ∷ l) (map_map f h xs)
