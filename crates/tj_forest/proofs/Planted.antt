-- The code's trees by the names of their causes, and what it puts below them.
use Rattle.std.proofs.Common.{◌≡◌, ℕ, ◌+◌, Bool, List, [], ◌∷◌, ◌++◌, map, cond, Option, Some, refl, sym, ap, ◌∙◌}
use Rattle.std.specs.Prelude.{option_and_then}
use Rattle.std.specs.List.{flat_map, position_from}
use Rattle.std.proofs.lemmas.List.{append-nil, append_assoc}
use Rattle.tj_base.specs.ForkOrder.{Name}
use Rattle.tj_body.specs.Names.{has}
use Rattle.tj_mean.specs.declared.name_map.NameMap.{NameMap}
use Rattle.tj_findings.specs.Forests.{Forest, Tree, bare, cause_from, follow, names_of_cause, put, put_all, put_each}
use Rattle.tj_findings.specs.Forests.{put_named, view_tree}
use Rattle.tj_forest.specs.Inner.Numbers.{AreCausesFrom, AreRootsFrom}
use Rattle.tj_findings.specs.declared.finding.Finding.{Finding}
use Rattle.tj_findings.specs.declared.forest.Tree as code

-- the first of what is made of elements is that of the first of these
position_map : {A C : Type 0} (f : A → C) (p : C → Bool) (n : ℕ) (xs : List A)
    → position_from p n (map f xs) ≡ position_from (λ x. p (f x)) n xs
position_map f p n [] = refl
position_map f p n (x ∷ xs) = ap (cond (p (f x)) (Some n)) (position_map f p (n + 1) xs)

-- the roots of what the code holds
roots_seen : (ts : List code.Tree) → map (λ (t : Tree). t.root) (map view_tree ts) ≡ map (λ (t : code.Tree). t.root) ts
roots_seen [] = refl
roots_seen (t ∷ ts) = ap (λ z. t.root ∷ z) (roots_seen ts)

-- the roots of causes alone
roots_bare : (fs : List Finding) → map (λ (t : Tree). t.root) (map bare fs) ≡ fs
roots_bare [] = refl
roots_bare (f ∷ fs) = ap (λ z. f ∷ z) (roots_bare fs)

-- the numbers of trees are those of the causes
pub roots_found : (ts : List code.Tree) (fs : List Finding) (m : NameMap ℕ)
    → map view_tree ts ≡ map bare fs → AreRootsFrom ts 0 m → AreCausesFrom fs 0 m
roots_found ts fs m same found x =
    found x
    ∙ sym (position_map (λ (t : code.Tree). t.root) (λ f. has x (names_of_cause f)) 0 ts)
    ∙ ap (position_from (λ f. has x (names_of_cause f)) 0)
    (sym (roots_seen ts) ∙ ap (map (λ (t : Tree). t.root)) same ∙ roots_bare fs)

-- findings that are put one after the other
pub put_all_append : (fs : List Finding) (forest : Forest) (ks more : List (Option Name × Finding))
    → put_all fs forest (ks ++ more) ≡ put_all fs (put_all fs forest ks) more
put_all_append fs forest [] more = refl
put_all_append fs forest (k ∷ ks) more = put_all_append fs (put_named fs forest k) ks more

-- findings with one cause, by its name and by its number
pub put_follow : (fs : List Finding) (x : Option Name) (gs : List Finding) (forest : Forest)
    → put_all fs forest (follow x gs) ≡ put_each (option_and_then (cause_from 0 fs) x) gs forest
put_follow fs x [] forest = refl
put_follow fs x (g ∷ gs) forest = put_follow fs x gs (put_named fs forest (x, g))

-- one of several findings with one cause more
pub put_each_more : (n : Option ℕ) (gs : List Finding) (g : Finding) (forest : Forest)
    → put_each n (gs ++ g ∷ []) forest ≡ put n g (put_each n gs forest)
put_each_more n [] g forest = refl
put_each_more n (f ∷ gs) g forest = put_each_more n gs g (put n f forest)

-- one finding more of those with one cause
pub one_put_more : (n : Option ℕ) (fs gs : List Finding) (f : Finding) (a b c : Forest) → b ≡ put_each n fs a
    → c ≡ put n f b → gs ≡ fs ++ f ∷ [] → c ≡ put_each n gs a
one_put_more n fs gs f a b c so_far new next =
    new ∙ ap (put n f) so_far ∙ sym (put_each_more n fs f a) ∙ ap (λ l. put_each n l a) (sym next)

-- a part of each element
parts_more : {L K : Type 0} (f : L → List K) (xs : List L) (x : L) → flat_map f (xs ++ x ∷ []) ≡ flat_map f xs ++ f x
parts_more f [] x = append-nil (f x)
parts_more f (y ∷ ys) x =
    ap (λ l. f y ++ l) (parts_more f ys x) ∙ sym (append_assoc (f y) (flat_map f ys) (f x))

-- what follows from one element more
pub parts_put_more : {L : Type 0} (cs : List Finding) (f : L → List (Option Name × Finding)) (xs ys : List L) (x : L)
    (a b c : Forest) → b ≡ put_all cs a (flat_map f xs) → c ≡ put_all cs b (f x) → ys ≡ xs ++ x ∷ []
    → c ≡ put_all cs a (flat_map f ys)
parts_put_more cs f xs ys x a b c so_far new next =
    new ∙ ap (λ z. put_all cs z (f x)) so_far
    ∙ sym (put_all_append cs a (flat_map f xs) (f x))
    ∙ ap (put_all cs a) (sym (parts_more f xs x))
    ∙ ap (λ l. put_all cs a (flat_map f l)) (sym next)
