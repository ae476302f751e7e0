-- What is told together are the findings of the forest: groups of causes hold these with what follows from them, and
-- groups of what follows hold that.
use Rattle.std.proofs.Common.{◌≡◌, ℕ, Bool, true, false, cond, List, [], ◌∷◌, ◌++◌, map, refl, sym, ap, ◌∙◌}
use Rattle.std.specs.List.{flat_map, fold}
use Rattle.std.specs.List.Sorted.{IsPermutation}
use Rattle.std.proofs.lemmas.Grind.{flat_map-append}
use Rattle.std.proofs.lemmas.List.{append-nil}
use Rattle.std.proofs.lemmas.List.Folds.{flat_map-map}
use Rattle.std.proofs.lemmas.List.Sorted.{IsPermutation-append, IsPermutation-refl, IsPermutation-trans}
use Rattle.tj_findings.specs.Forests.{bare, findings_of_tree}
use Rattle.tj_findings.specs.Groups.{Group, belongs, grouped, groups, leaf_groups, with_tree}
use Rattle.tj_findings.specs.declared.finding.Finding.{Finding}
use Rattle.tj_forest.proofs.FindingsGrouped.{groups_hold_each}
use Rattle.tj_forest.proofs.Permuted.{permuted_each, permuted_parts, permuted_same}
use Rattle.tj_forest.specs.Consequences.{findings_of_group}
use Rattle.tj_texts.specs.LineLaws.{group_with_levels}
use Rattle.tj_explain.specs.GroupsTold.{GroupsTellEachFinding}

-- the causes of groups
abbrev roots : List Group → List Finding
roots gs = flat_map (λ g. g.members) gs

-- and what follows from them
abbrev further : List Group → List Finding
further gs = flat_map (λ g. g.below) gs

-- of two lists without elements each is empty
both_empty : (xs ys : List Finding) → xs ++ ys ≡ [] → (xs ≡ []) × (ys ≡ [])
both_empty [] ys e = (refl, e)
both_empty (x ∷ xs) ys e = absurd (cc)

-- a finding more from which nothing follows
one_bare : (gs : List Group) (f : Finding) → further gs ≡ [] → further (grouped gs (bare f)) ≡ []
one_bare [] f e = refl
one_bare (g ∷ gs) f e =
    let k = both_empty g.below (further gs) e in
    by (belongs f g.members) k.0 (one_bare gs f k.1) where
      by : (b : Bool) → g.below ≡ [] → further (grouped gs (bare f)) ≡ []
          → further (cond b (with_tree (bare f) g ∷ gs) (g ∷ grouped gs (bare f))) ≡ []
      by true own rest = ap (λ z. z ++ further gs) (append-nil g.below) ∙ e
      by false own rest = ap (λ z. z ++ further (grouped gs (bare f))) own ∙ rest

-- findings from which nothing follows
all_bare : (fs : List Finding) (gs : List Group) → further gs ≡ [] → further (fold grouped gs (map bare fs)) ≡ []
all_bare [] gs e = e
all_bare (f ∷ fs) gs e = all_bare fs (grouped gs (bare f)) (one_bare gs f e)

-- nothing follows from what follows
none_further : (all : Bool) (fs : List Finding) → further (leaf_groups all fs) ≡ []
none_further true [] = refl
none_further true (f ∷ fs) = none_further true fs
none_further false fs = all_bare fs [] refl

-- the findings of trees of one
of_bare : (fs : List Finding) → fs ≡ flat_map findings_of_tree (map bare fs)
of_bare [] = refl
of_bare (f ∷ fs) = ap (λ z. f ∷ z) (of_bare fs)

-- groups of what follows hold that
leaves_hold_each : (all : Bool) (fs : List Finding) → IsPermutation fs (roots (leaf_groups all fs))
leaves_hold_each all fs =
    let gs = leaf_groups all fs in
    let trees = map bare fs in
    let whole = flat_map findings_of_group gs in
    IsPermutation-trans fs (flat_map findings_of_tree trees) (roots gs)
    (permuted_same fs (flat_map findings_of_tree trees) (of_bare fs))
    (IsPermutation-trans (flat_map findings_of_tree trees) whole (roots gs) (groups_hold_each all trees)
    (IsPermutation-trans whole (roots gs ++ further gs) (roots gs)
    (permuted_parts (λ (g : Group). g.members) (λ (g : Group). g.below) gs)
    (permuted_same (roots gs ++ further gs) (roots gs)
    (ap (λ z. roots gs ++ z) (none_further all fs) ∙ append-nil (roots gs)))))

module _ (all : Bool) where
  -- what is told of a group
  abbrev told_of : Group → List Finding
  told_of g = flat_map (λ h. h.1) (group_with_levels all g)

  -- the findings of a group are told
  group_told : (g : Group) → IsPermutation (findings_of_group g) (told_of g)
  group_told g =
      let below = roots (leaf_groups all g.below) in
      let leveled : List (ℕ × List Finding) = map (λ h. (1, h.members)) (leaf_groups all g.below) in
      IsPermutation-trans (g.members ++ g.below) (g.members ++ below) (told_of g)
      (IsPermutation-append g.members g.members g.below below (IsPermutation-refl g.members)
      (leaves_hold_each all g.below))
      (permuted_same (g.members ++ below) (told_of g)
      (ap (λ z. g.members ++ z)
      (sym (flat_map-map (λ (h : ℕ × List Finding). h.1) (λ (h : Group). (1, h.members)) (leaf_groups all g.below)))))

  -- group by group
  by_groups : (gs : List Group) → flat_map told_of gs ≡ flat_map (λ h. h.1) (flat_map (group_with_levels all) gs)
  by_groups [] = refl
  by_groups (g ∷ gs) =
      ap (λ z. told_of g ++ z) (by_groups gs)
      ∙ sym (flat_map-append (λ (h : ℕ × List Finding). h.1) (group_with_levels all g)
      (flat_map (group_with_levels all) gs))

-- what follows from no cause
strays_told : (fs : List Finding) → fs ≡ flat_map (λ (h : ℕ × List Finding). h.1) (map (λ g. (0, g ∷ [])) fs)
strays_told [] = refl
strays_told (f ∷ fs) = ap (λ z. f ∷ z) (strays_told fs)

-- the law
pub groups_tell_each : GroupsTellEachFinding
groups_tell_each all f =
    let gs = groups all f.trees in
    let causes = flat_map findings_of_tree f.trees in
    let told = flat_map (group_with_levels all) gs in
    let strays : List (ℕ × List Finding) = map (λ g. (0, g ∷ [])) f.strays in
    let tell : List (ℕ × List Finding) → List Finding = flat_map (λ h. h.1) in
    IsPermutation-trans (causes ++ f.strays) (tell told ++ tell strays) (tell (told ++ strays))
    (IsPermutation-append causes (tell told) f.strays (tell strays)
    (IsPermutation-trans causes (flat_map findings_of_group gs) (tell told) (groups_hold_each all f.trees)
    (IsPermutation-trans (flat_map findings_of_group gs) (flat_map (told_of all) gs) (tell told)
    (permuted_each findings_of_group (told_of all) (group_told all) gs)
    (permuted_same (flat_map (told_of all) gs) (tell told) (by_groups all gs))))
    (permuted_same f.strays (tell strays) (strays_told f.strays)))
    (permuted_same (tell told ++ tell strays) (tell (told ++ strays))
    (sym (flat_map-append (λ (h : ℕ × List Finding). h.1) told strays)))
