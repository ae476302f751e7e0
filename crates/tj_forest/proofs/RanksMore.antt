-- One cause more, as the code holds it: with its rank, and nothing below it.
use Rattle.std.proofs.Common.{◌≡◌, ◌<◌, ◌+◌, ℕ, suc, List, [], ◌∷◌, ◌++◌, get_or, length, map, take, refl, sym, ap, ◌∙◌}
use Rattle.std.proofs.Common.{arith, subst}
use Rattle.std.proofs.lemmas.List.{append_assoc, length-map, length-take-le, take_more}
use Rattle.tj_forest.proofs.Permuted.{map_append}
use Rattle.tj_findings.specs.Forests.{Tree, bare, ranked_from, view_tree}
use Rattle.tj_forest.specs.Inner.Ranks.{bare_ranks, ranks_of}
use Rattle.tj_findings.specs.declared.finding.Finding.{Finding}
use Rattle.tj_findings.specs.declared.forest.Tree as code

-- a cause with this rank and this root
one_ranked : (t : code.Tree) (r : ℕ) (f : Finding) → t.rank ≡ r → t.root ≡ f → t.below.items ≡ []
    → ◌≡◌ {A = ℕ × Tree} (t.rank, view_tree t) (r, bare f)
one_ranked t r f rank root below =
    ap (λ z. (z, view_tree t)) rank
    ∙ ap (λ z. (r, record { root = z; below = t.below.items })) root
    ∙ ap (λ z. (r, record { root = f; below = z })) below

-- one more behind those that were found
pub ranked_more : (xs ys : List code.Tree) (t : code.Tree) (r : ℕ) (f : Finding) (zs : List (ℕ × Tree))
    (fs gs : List (ℕ × Finding)) → ys ≡ xs ++ t ∷ [] → t.rank ≡ r → t.root ≡ f → t.below.items ≡ []
    → ranks_of xs ≡ zs ++ bare_ranks fs → gs ≡ fs ++ (r, f) ∷ [] → ranks_of ys ≡ zs ++ bare_ranks gs
ranked_more xs ys t r f zs fs gs more rank root below are next =
    ap ranks_of more
    ∙ map_append (λ (t : code.Tree). (t.rank, view_tree t)) xs (t ∷ [])
    ∙ ap (λ l. l ++ (t.rank, view_tree t) ∷ []) are
    ∙ ap (λ z. (zs ++ bare_ranks fs) ++ z ∷ []) (one_ranked t r f rank root below)
    ∙ append_assoc zs (bare_ranks fs) ((r, bare f) ∷ [])
    ∙ ap (λ l. zs ++ l) (sym (map_append (λ (f : ℕ × Finding). (f.0, bare f.1)) fs ((r, f) ∷ [])))
    ∙ ap (λ l. zs ++ bare_ranks l) (sym next)

-- what is made of one element more
pub next_of : {A C : Type 0} (f : A → C) (xs : List A) (n : ℕ) (x : A) → n < length xs → x ≡ get_or xs n x
    → map f (take (n + 1) xs) ≡ map f (take n xs) ++ f x ∷ []
next_of f xs n x within is =
    ap (map f) (take_more xs n x within)
    ∙ map_append f (take n xs) (get_or xs n x ∷ [])
    ∙ ap (λ z. map f (take n xs) ++ f z ∷ []) (sym is)

-- the same of what is made of that
pub next_twice : {A C D : Type 0} (g : C → D) (f : A → C) (xs ys : List A) (n : ℕ) (x : A) → ys ≡ xs
    → n < length ys → x ≡ get_or ys n x
    → map g (map f (take (n + 1) xs)) ≡ map g (map f (take n xs)) ++ g (f x) ∷ []
next_twice g f xs ys n x same within is =
    subst (λ z. map g (map f (take (n + 1) z)) ≡ map g (map f (take n z)) ++ g (f x) ∷ []) same
    (ap (map g) (next_of f ys n x within is) ∙ map_append g (map f (take n ys)) (f x ∷ []))

-- one more with the next rank
ranked_more_from : (n : ℕ) (fs : List Finding) (f : Finding) (k : ℕ) → n + length fs ≡ k
    → ranked_from n (fs ++ f ∷ []) ≡ ranked_from n fs ++ (k, f) ∷ []
ranked_more_from n [] f k is = let same : n ≡ k = omega (arith, is) in ap (λ z. (z, f) ∷ []) same
ranked_more_from n (g ∷ fs) f k is =
    let next : suc n + length fs ≡ k = omega (arith, is) in
    ap (λ l. (n, g) ∷ l) (ranked_more_from (suc n) fs f k next)

-- what is made of one element more, with the next rank
pub next_ranked : {A : Type 0} (f : A → Finding) (xs : List A) (n : ℕ) (x : A) → n < length xs → x ≡ get_or xs n x
    → ranked_from 0 (map f (take (n + 1) xs)) ≡ ranked_from 0 (map f (take n xs)) ++ (n, f x) ∷ []
next_ranked f xs n x within is =
    let long : length (map f (take n xs)) ≡ n =
    length-map (take n xs) f ∙ length-take-le n xs (omega (arith, within)) in
    let sum : 0 + length (map f (take n xs)) ≡ n = omega (arith, long) in
    ap (ranked_from 0) (next_of f xs n x within is) ∙ ranked_more_from 0 (map f (take n xs)) (f x) n sum
