-- The text of a forest tells the findings of groups one after the other, with a finding in each group.
use Rattle.std.proofs.Common.{◌≡◌, ◌⊎◌, inl, inr, ℕ, Bool, true, false, cond, List, [], ◌∷◌, ◌++◌, map}
use Rattle.std.proofs.Common.{refl, sym, ap, ◌∙◌, arith, length}
use Rattle.std.specs.List.{flat_map, fold}
use Rattle.std.proofs.lemmas.Grind.{flat_map-append}
use Rattle.std.proofs.lemmas.List.Folds.{flat_map-map}
use Rattle.tj_body.specs.Points.{IsIn}
use Rattle.tj_findings.specs.Forests.{Tree, bare}
use Rattle.tj_findings.specs.Groups.{Group, alone, belongs, grouped, groups, leaf_groups, with_tree}
use Rattle.tj_findings.specs.LinesTold.{tree_with_levels}
use Rattle.tj_findings.specs.Scenes.{Told}
use Rattle.tj_findings.specs.declared.finding.Finding.{Finding}
use Rattle.tj_texts.specs.LineLaws.{AllTellEach, NoneTellNothing, TellEach, by_itself, group_with_levels, together_text}
use Rattle.tj_texts.specs.WhyTexts.{group_text, members_text}

module _ (s : Told) (all : Bool) where
  -- the text of groups
  of_groups : (gs : List Group)
      → flat_map (group_text s all) gs ≡ flat_map (together_text s all) (flat_map (group_with_levels all) gs)
  of_groups [] = refl
  of_groups (g ∷ gs) =
      let root = members_text s all g.members in
      let below = leaf_groups all g.below in
      let further = flat_map (together_text s all) (map (λ h. (1, h.members)) below) in
      ap (λ z. (root ++ z) ++ flat_map (group_text s all) gs)
      (sym (flat_map-map (together_text s all) (λ h. (1, h.members)) below))
      ∙ ap (λ z. (root ++ further) ++ z) (of_groups gs)
      ∙ sym (flat_map-append (together_text s all) (group_with_levels all g) (flat_map (group_with_levels all) gs))

-- the text of a forest
pub tell_each : (s : Told) → TellEach s
tell_each s all f =
    let told = flat_map (group_with_levels all) (groups all f.trees) in
    ap (λ z. z ++ flat_map (λ g. members_text s all (g ∷ [])) f.strays) (of_groups s all (groups all f.trees))
    ∙ ap (λ z. flat_map (together_text s all) told ++ z)
    (sym (flat_map-map (together_text s all) (λ g. (0, g ∷ [])) f.strays))
    ∙ sym (flat_map-append (together_text s all) told (map (λ g. (0, g ∷ [])) f.strays))

-- lists that are appended, element by element
map_both : {A B : Type 0} (h : A → B) (xs ys : List A) → map h (xs ++ ys) ≡ map h xs ++ map h ys
map_both h [] ys = refl
map_both h (x ∷ xs) ys = ap (λ z. h x ∷ z) (map_both h xs ys)

-- what follows from a cause, each by itself
below_alone : (fs : List Finding)
    → map (λ h. (1, h.members)) (leaf_groups true fs) ≡ map by_itself (map (λ f. (1, f)) fs)
below_alone [] = refl
below_alone (f ∷ fs) = ap (λ z. (1, f ∷ []) ∷ z) (below_alone fs)

-- trees, each finding by itself
trees_alone : (ts : List Tree)
    → flat_map (group_with_levels true) (groups true ts) ≡ map by_itself (flat_map tree_with_levels ts)
trees_alone [] = refl
trees_alone (t ∷ ts) =
    ap (λ z. ((0, t.root ∷ []) ∷ z) ++ flat_map (group_with_levels true) (groups true ts)) (below_alone t.below)
    ∙ ap (λ z. map by_itself (tree_with_levels t) ++ z) (trees_alone ts)
    ∙ sym (map_both by_itself (tree_with_levels t) (flat_map tree_with_levels ts))

-- strays
strays_alone : (gs : List Finding) → map (λ g. (0, g ∷ [])) gs ≡ map by_itself (map (λ g. (0, g)) gs)
strays_alone [] = refl
strays_alone (g ∷ gs) = ap (λ z. (0, g ∷ []) ∷ z) (strays_alone gs)

-- where all is told
pub all_tell_each : AllTellEach
all_tell_each f =
    ap (λ z. z ++ map (λ g. (0, g ∷ [])) f.strays) (trees_alone f.trees)
    ∙ ap (λ z. map by_itself (flat_map tree_with_levels f.trees) ++ z) (strays_alone f.strays)
    ∙ sym (map_both by_itself (flat_map tree_with_levels f.trees) (map (λ g. (0, g)) f.strays))

-- one of these is one of some
in_append : {A : Type 0} (x : A) (xs ys : List A) → IsIn x (xs ++ ys) → IsIn x xs ⊎ IsIn x ys
in_append x [] ys i = inr i
in_append x (y ∷ xs) ys (inl e) = inl (inl e)
in_append x (y ∷ xs) ys (inr i) = by (in_append x xs ys i) where
  by : IsIn x xs ⊎ IsIn x ys → IsIn x (y ∷ xs) ⊎ IsIn x ys
  by (inl j) = inl (inr j)
  by (inr j) = inr j

-- each group has a finding
abbrev HaveSome : List Group → Type 0
HaveSome gs = (g : Group) → IsIn g gs → g.members ≡ [] → ⊥

-- a finding behind others
some_behind : (fs : List Finding) (f : Finding) → fs ++ f ∷ [] ≡ [] → ⊥
some_behind [] f e = omega (arith, ap length e)
some_behind (g ∷ fs) f e = omega (arith, ap length e)

-- a cause more in groups
one_more : (gs : List Group) (t : Tree) → HaveSome gs → HaveSome (grouped gs t)
one_more [] t have g (inl e) none = some_behind [] t.root (sym (ap (λ h. h.members) e) ∙ none)
one_more [] t have g (inr i) none = i
one_more (h ∷ gs) t have g i none =
    by (belongs t.root h.members) (one_more gs t (λ k j. have k (inr j))) g i none where
      by : (b : Bool) → HaveSome (grouped gs t) → HaveSome (cond b (with_tree t h ∷ gs) (h ∷ grouped gs t))
      by true rest g (inl e) none = some_behind h.members t.root (sym (ap (λ k. k.members) e) ∙ none)
      by true rest g (inr i) none = have g (inr i) none
      by false rest g (inl e) none = have g (inl e) none
      by false rest g (inr i) none = rest g i none

-- all causes in groups
all_more : (ts : List Tree) (gs : List Group) → HaveSome gs → HaveSome (fold grouped gs ts)
all_more [] gs have = have
all_more (t ∷ ts) gs have = all_more ts (grouped gs t) (one_more gs t have)

-- each cause by itself
alone_some : (ts : List Tree) → HaveSome (map alone ts)
alone_some [] g i none = i
alone_some (t ∷ ts) g (inl e) none = some_behind [] t.root (sym (ap (λ h. h.members) e) ∙ none)
alone_some (t ∷ ts) g (inr i) none = alone_some ts g i none

-- groups
groups_some : (all : Bool) (ts : List Tree) → HaveSome (groups all ts)
groups_some true ts = alone_some ts
groups_some false ts = all_more ts [] (λ g i none. i)

-- findings that are told together
abbrev NoneEmpty : List (ℕ × List Finding) → Type 0
NoneEmpty gs = (g : ℕ × List Finding) → IsIn g gs → g.1 ≡ [] → ⊥

-- those of groups with this level
leveled_some : (n : ℕ) (gs : List Group) → HaveSome gs → NoneEmpty (map (λ h. (n, h.members)) gs)
leveled_some n [] have g i none = i
leveled_some n (h ∷ gs) have g (inl e) none = have h (inl refl) (sym (ap (λ k. k.1) e) ∙ none)
leveled_some n (h ∷ gs) have g (inr i) none = leveled_some n gs (λ k j. have k (inr j)) g i none

-- those of two lists
both_some : (xs ys : List (ℕ × List Finding)) → NoneEmpty xs → NoneEmpty ys → NoneEmpty (xs ++ ys)
both_some xs ys p q g i none = by (in_append g xs ys i) where
  by : IsIn g xs ⊎ IsIn g ys → ⊥
  by (inl j) = p g j none
  by (inr j) = q g j none

-- those of causes and what follows from them
causes_some : (all : Bool) (gs : List Group) → HaveSome gs → NoneEmpty (flat_map (group_with_levels all) gs)
causes_some all [] have = λ g i none. i
causes_some all (h ∷ gs) have =
    both_some (group_with_levels all h) (flat_map (group_with_levels all) gs) own
    (causes_some all gs (λ k j. have k (inr j)))
  where
    own : NoneEmpty (group_with_levels all h)
    own g (inl e) none = have h (inl refl) (sym (ap (λ k. k.1) e) ∙ none)
    own g (inr i) none = leveled_some 1 (leaf_groups all h.below) (groups_some all (map bare h.below)) g i none

-- strays
strays_some : (gs : List Finding) → NoneEmpty (map (λ g. (0, g ∷ [])) gs)
strays_some [] g i none = i
strays_some (h ∷ gs) g (inl e) none = some_behind [] h (sym (ap (λ k. k.1) e) ∙ none)
strays_some (h ∷ gs) g (inr i) none = strays_some gs g i none

-- there are findings among those that are told together
pub none_tell_nothing : NoneTellNothing
none_tell_nothing all f =
    both_some (flat_map (group_with_levels all) (groups all f.trees)) (map (λ g. (0, g ∷ [])) f.strays)
    (causes_some all (groups all f.trees) (groups_some all f.trees)) (strays_some f.strays)
