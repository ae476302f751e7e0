-- Groups of trees hold the findings of the trees, each as often as those do.
use Rattle.std.proofs.Common.{◌≡◌, ◌<◌, ◌≤◌, ◌+◌, ℕ, suc, Bool, true, false, not, cond, List, [], ◌∷◌, ◌++◌, length, map}
use Rattle.std.proofs.Common.{refl, sym, ap, ◌∙◌, arith}
use Rattle.std.specs.List.{flat_map, fold, prefix_len, slice_index_or, slice_set}
use Rattle.std.specs.List.Sorted.{IsPermutation}
use Rattle.std.proofs.lemmas.List.{append_assoc, append-nil}
use Rattle.std.proofs.lemmas.List.Sorted.{IsPermutation-append, IsPermutation-refl, IsPermutation-sym}
use Rattle.std.proofs.lemmas.List.Sorted.{IsPermutation-trans}
use Rattle.tj_forest.proofs.Permuted.{permuted_ends, permuted_middles, permuted_same}
use Rattle.tj_forest.specs.Consequences.{GroupsHoldEachFinding, findings_of_group}
use Rattle.tj_findings.specs.Forests.{Tree, findings_of_tree}
use Rattle.tj_findings.specs.Groups.{Group, alone, belongs, grouped, groups, with_tree}
use Rattle.tj_findings.specs.declared.finding.Finding.{Finding}

abbrev held : List Group → List Finding
held gs = flat_map findings_of_group gs

-- a cause more in the groups
one_grouped : (gs : List Group) (t : Tree) → IsPermutation (held (grouped gs t)) (held gs ++ findings_of_tree t)
one_grouped [] t = permuted_same (findings_of_group (alone t) ++ []) (findings_of_tree t)
    (append-nil (findings_of_tree t))
one_grouped (g ∷ gs) t = by (belongs t.root g.members) (one_grouped gs t) where
  own : List Finding
  own = findings_of_group g

  by : (b : Bool) → IsPermutation (held (grouped gs t)) (held gs ++ findings_of_tree t)
      → IsPermutation (held (cond b (with_tree t g ∷ gs) (g ∷ grouped gs t))) ((own ++ held gs) ++ findings_of_tree t)
  by true rest =
      let more = findings_of_group (with_tree t g) in
      IsPermutation-trans (more ++ held gs) ((own ++ findings_of_tree t) ++ held gs)
      ((own ++ held gs) ++ findings_of_tree t)
      (IsPermutation-append more (own ++ findings_of_tree t) (held gs) (held gs)
      (permuted_middles g.members (t.root ∷ []) g.below t.below) (IsPermutation-refl (held gs)))
      (permuted_ends own (findings_of_tree t) (held gs))
  by false rest =
      IsPermutation-trans (own ++ held (grouped gs t)) (own ++ (held gs ++ findings_of_tree t))
      ((own ++ held gs) ++ findings_of_tree t)
      (IsPermutation-append own own (held (grouped gs t)) (held gs ++ findings_of_tree t) (IsPermutation-refl own)
      rest)
      (permuted_same (own ++ (held gs ++ findings_of_tree t)) ((own ++ held gs) ++ findings_of_tree t)
      (sym (append_assoc own (held gs) (findings_of_tree t))))

-- all causes in groups
all_grouped : (ts : List Tree) (gs : List Group)
    → IsPermutation (held (fold grouped gs ts)) (held gs ++ flat_map findings_of_tree ts)
all_grouped [] gs = permuted_same (held gs) (held gs ++ []) (sym (append-nil (held gs)))
all_grouped (t ∷ ts) gs =
    let own = findings_of_tree t in
    let rest = flat_map findings_of_tree ts in
    IsPermutation-trans (held (fold grouped (grouped gs t) ts)) (held (grouped gs t) ++ rest) (held gs ++ (own ++ rest))
    (all_grouped ts (grouped gs t))
    (IsPermutation-trans (held (grouped gs t) ++ rest) ((held gs ++ own) ++ rest) (held gs ++ (own ++ rest))
    (IsPermutation-append (held (grouped gs t)) (held gs ++ own) rest rest (one_grouped gs t) (IsPermutation-refl rest))
    (permuted_same ((held gs ++ own) ++ rest) (held gs ++ (own ++ rest)) (append_assoc (held gs) own rest)))

-- each cause by itself
each_alone : (ts : List Tree) → flat_map findings_of_tree ts ≡ held (map alone ts)
each_alone [] = refl
each_alone (t ∷ ts) = ap (λ z. findings_of_tree t ++ z) (each_alone ts)

-- the law
pub groups_hold_each : GroupsHoldEachFinding
groups_hold_each true ts = permuted_same (flat_map findings_of_tree ts) (held (map alone ts)) (each_alone ts)
groups_hold_each false ts = IsPermutation-sym (held (fold grouped [] ts)) (flat_map findings_of_tree ts)
    (all_grouped ts [])

-- where a cause is put: into the first group to which it belongs, and else behind all
pub grouped_place : (t : Tree) (gs : List Group)
    → (prefix_len (λ g. not (belongs t.root g.members)) gs < length gs → grouped gs t
    ≡ slice_set gs (prefix_len (λ g. not (belongs t.root g.members)) gs)
    (with_tree t (slice_index_or gs (prefix_len (λ g. not (belongs t.root g.members)) gs) (alone t))))
    × (length gs ≤ prefix_len (λ g. not (belongs t.root g.members)) gs → grouped gs t ≡ gs ++ alone t ∷ [])
grouped_place t [] = ((λ less. absurd (omega arith)), (λ past. refl))
grouped_place t (g ∷ gs) = by (belongs t.root g.members) (grouped_place t gs) where
  before : ℕ
  before = prefix_len (λ g. not (belongs t.root g.members)) gs

  place : Bool → ℕ
  place b = cond (not b) (1 + before) 0

  by : (b : Bool)
      → (before < length gs → grouped gs t ≡ slice_set gs before (with_tree t (slice_index_or gs before (alone t))))
      × (length gs ≤ before → grouped gs t ≡ gs ++ alone t ∷ [])
      → (place b < length (g ∷ gs) → cond b (with_tree t g ∷ gs) (g ∷ grouped gs t)
      ≡ slice_set (g ∷ gs) (place b) (with_tree t (slice_index_or (g ∷ gs) (place b) (alone t))))
      × (length (g ∷ gs) ≤ place b → cond b (with_tree t g ∷ gs) (g ∷ grouped gs t) ≡ (g ∷ gs) ++ alone t ∷ [])
  by true h = ((λ less. refl), (λ past. absurd (omega arith)))
  by false h =
      let next : suc before ≡ 1 + before = omega arith in (
        (λ less. ap (λ z. g ∷ z) (h.0 (omega arith))
            ∙ ap (λ n. slice_set (g ∷ gs) n (with_tree t (slice_index_or (g ∷ gs) n (alone t)))) next),
        (λ past. ap (λ z. g ∷ z) (h.1 (omega arith))),
      )
