-- Groups are of parts of the trees: a cause that is put into a group stands last in its part, with what follows from it.
use Rattle.std.proofs.Common.{◌≡◌, inl, inr, ⊎_elim, Bool, true, false, cond, List, [], ◌∷◌, ◌++◌, map, refl, sym, ap}
use Rattle.std.proofs.Common.{subst, take, ◌∙◌}
use Rattle.std.specs.List.{flat_map, fold}
use Rattle.std.specs.List.Sorted.{IsPermutation}
use Rattle.std.proofs.lemmas.Grind.{flat_map-append}
use Rattle.std.proofs.lemmas.List.{append_assoc, append-nil}
use Rattle.std.proofs.lemmas.List.Sorted.{IsPermutation-append, IsPermutation-refl, IsPermutation-sym}
use Rattle.std.proofs.lemmas.List.Sorted.{IsPermutation-trans}
use Rattle.tj_body.specs.Points.{IsIn}
use Rattle.tj_body.proofs.Lists.{Sub, sub_append, sub_cons, sub_nil, sub_self}
use Rattle.tj_findings.specs.Forests.{Tree}
use Rattle.tj_findings.specs.Groups.{Group, alone, belongs, grouped, with_tree}
use Rattle.tj_findings.specs.declared.finding.Finding.{Finding}
use Rattle.tj_forest.proofs.Permuted.{map_append, permuted_last, permuted_same}
use Rattle.tj_explain.specs.GroupTrees.{AreSomeOf, GroupsAreOfTrees, LeavesAreGrouped, group_of}

-- the causes of trees
abbrev roots : List Tree → List Finding
roots ts = map (λ t. t.root) ts

-- what follows from them
abbrev followers : List Tree → List Finding
followers ts = flat_map (λ t. t.below) ts

-- a group by its two parts
abbrev made : List Finding → List Finding → Group
made ms bs = record { members = ms; below = bs }

-- the trees of all parts
abbrev whole : List (List Tree) → List Tree
whole ps = flat_map (λ us. us) ps

-- a tree is put into the first part to whose group it belongs, and else it begins one
abbrev parted : List (List Tree) → Tree → List (List Tree)
parted [] t = (t ∷ []) ∷ []
parted (us ∷ ps) t = cond (belongs t.root (roots us)) ((us ++ t ∷ []) ∷ ps) (us ∷ parted ps t)

-- a tree by itself
one_alone : (t : Tree) → alone t ≡ group_of (t ∷ [])
one_alone t = ap (λ z. made (t.root ∷ []) z) (sym (append-nil t.below))

-- a tree more in a group
one_more : (t : Tree) (us : List Tree) → with_tree t (group_of us) ≡ group_of (us ++ t ∷ [])
one_more t us =
    ap (λ z. made z (followers us ++ t.below)) (sym (map_append (λ (u : Tree). u.root) us (t ∷ [])))
    ∙ ap (λ z. made (roots (us ++ t ∷ [])) z)
    (ap (λ z. followers us ++ z) (sym (append-nil t.below))
    ∙ sym (flat_map-append (λ (u : Tree). u.below) us (t ∷ [])))

-- groups are of the parts, with one tree more
one_parted : (ps : List (List Tree)) (t : Tree) → grouped (map group_of ps) t ≡ map group_of (parted ps t)
one_parted [] t = ap (λ z. z ∷ []) (one_alone t)
one_parted (us ∷ ps) t = by (belongs t.root (roots us)) (one_parted ps t) where
  by : (b : Bool) → grouped (map group_of ps) t ≡ map group_of (parted ps t)
      → cond b (with_tree t (group_of us) ∷ map group_of ps) (group_of us ∷ grouped (map group_of ps) t)
      ≡ map group_of (cond b ((us ++ t ∷ []) ∷ ps) (us ∷ parted ps t))
  by true rest = ap (λ z. z ∷ map group_of ps) (one_more t us)
  by false rest = ap (λ z. group_of us ∷ z) rest

-- and with all
all_parted : (ts : List Tree) (ps : List (List Tree))
    → fold grouped (map group_of ps) ts ≡ map group_of (fold parted ps ts)
all_parted [] ps = refl
all_parted (t ∷ ts) ps = ap (λ z. fold grouped z ts) (one_parted ps t) ∙ all_parted ts (parted ps t)

-- the parts have one tree more
one_held : (ps : List (List Tree)) (t : Tree) → IsPermutation (whole (parted ps t)) (whole ps ++ t ∷ [])
one_held [] t = IsPermutation-refl (t ∷ [])
one_held (us ∷ ps) t = by (belongs t.root (roots us)) (one_held ps t) where
  by : (b : Bool) → IsPermutation (whole (parted ps t)) (whole ps ++ t ∷ [])
      → IsPermutation (whole (cond b ((us ++ t ∷ []) ∷ ps) (us ∷ parted ps t))) ((us ++ whole ps) ++ t ∷ [])
  by true rest = permuted_last us (whole ps) t
  by false rest =
      IsPermutation-trans (us ++ whole (parted ps t)) (us ++ (whole ps ++ t ∷ [])) ((us ++ whole ps) ++ t ∷ [])
      (IsPermutation-append us us (whole (parted ps t)) (whole ps ++ t ∷ []) (IsPermutation-refl us) rest)
      (permuted_same (us ++ (whole ps ++ t ∷ [])) ((us ++ whole ps) ++ t ∷ [])
      (sym (append_assoc us (whole ps) (t ∷ []))))

-- and all
all_held : (ts : List Tree) (ps : List (List Tree)) → IsPermutation (whole (fold parted ps ts)) (whole ps ++ ts)
all_held [] ps = permuted_same (whole ps) (whole ps ++ []) (sym (append-nil (whole ps)))
all_held (t ∷ ts) ps =
    IsPermutation-trans (whole (fold parted (parted ps t) ts)) (whole (parted ps t) ++ ts) (whole ps ++ t ∷ ts)
    (all_held ts (parted ps t))
    (IsPermutation-trans (whole (parted ps t) ++ ts) ((whole ps ++ t ∷ []) ++ ts) (whole ps ++ t ∷ ts)
    (IsPermutation-append (whole (parted ps t)) (whole ps ++ t ∷ []) ts ts (one_held ps t) (IsPermutation-refl ts))
    (permuted_same ((whole ps ++ t ∷ []) ++ ts) (whole ps ++ t ∷ ts) (append_assoc (whole ps) (t ∷ []) ts)))

-- in each part some of these trees stand, in their order
abbrev AreSubs : List (List Tree) → List Tree → Type 0
AreSubs ps ts = (us : List Tree) → IsIn us ps → Sub us ts

-- so it is with a tree more
one_sub : (ps : List (List Tree)) (t : Tree) (ts : List Tree) → AreSubs ps ts → AreSubs (parted ps t) (ts ++ t ∷ [])
one_sub [] t ts h =
    λ us i. ⊎_elim (λ e. subst (λ z. Sub z (ts ++ t ∷ [])) (sym e)
    (sub_append [] ts (t ∷ []) (t ∷ []) (sub_nil ts) (sub_self (t ∷ [])))) (λ j. absurd j) i
one_sub (vs ∷ ps) t ts h =
    by (belongs t.root (roots vs)) (one_sub ps t ts (λ us i. h us (inr i))) where
      longer : (us : List Tree) → Sub us ts → Sub us (ts ++ t ∷ [])
      longer us s =
          subst (λ z. Sub z (ts ++ t ∷ [])) (append-nil us) (sub_append us ts [] (t ∷ []) s (sub_nil (t ∷ [])))

      by : (b : Bool) → AreSubs (parted ps t) (ts ++ t ∷ [])
          → AreSubs (cond b ((vs ++ t ∷ []) ∷ ps) (vs ∷ parted ps t)) (ts ++ t ∷ [])
      by true rest us (inl e) =
          subst (λ z. Sub z (ts ++ t ∷ [])) (sym e)
          (sub_append vs ts (t ∷ []) (t ∷ []) (h vs (inl refl)) (sub_self (t ∷ [])))
      by true rest us (inr i) = longer us (h us (inr i))
      by false rest us (inl e) = longer us (h us (inl e))
      by false rest us (inr i) = rest us i

-- and with all
all_sub : (ts : List Tree) (ps : List (List Tree)) (done : List Tree) → AreSubs ps done
    → AreSubs (fold parted ps ts) (done ++ ts)
all_sub [] ps done h = subst (AreSubs ps) (sym (append-nil done)) h
all_sub (t ∷ ts) ps done h =
    subst (AreSubs (fold parted (parted ps t) ts)) (append_assoc done (t ∷ []) ts)
    (all_sub ts (parted ps t) (done ++ t ∷ []) (one_sub ps t done h))

-- the first tree of each part
abbrev firsts : List (List Tree) → List Tree
firsts ps = flat_map (λ us. take 1 us) ps

-- a tree more among these, or none
one_first : (ps : List (List Tree)) (t : Tree) → Sub (firsts (parted ps t)) (firsts ps ++ t ∷ [])
one_first [] t = sub_self (t ∷ [])
one_first ([] ∷ ps) t = one_first ps t
one_first ((u ∷ us) ∷ ps) t = by (belongs t.root (roots (u ∷ us))) (one_first ps t) where
  by : (b : Bool) → Sub (firsts (parted ps t)) (firsts ps ++ t ∷ [])
      → Sub (firsts (cond b (((u ∷ us) ++ t ∷ []) ∷ ps) ((u ∷ us) ∷ parted ps t))) (u ∷ (firsts ps ++ t ∷ []))
  by true rest =
      sub_cons u (firsts ps) (firsts ps ++ t ∷ [])
      (subst (λ z. Sub z (firsts ps ++ t ∷ [])) (append-nil (firsts ps))
      (sub_append (firsts ps) (firsts ps) [] (t ∷ []) (sub_self (firsts ps)) (sub_nil (t ∷ []))))
  by false rest = sub_cons u (firsts (parted ps t)) (firsts ps ++ t ∷ []) rest

-- what leaves out some of such as leave out some does so
sub_trans : (us vs ts : List Tree) → Sub us vs → Sub vs ts → Sub us ts
sub_trans us vs [] p q = subst (Sub us) q p
sub_trans us vs (t ∷ ts) p (inl q) = inl (sub_trans us vs ts p q)
sub_trans us vs (t ∷ ts) p (inr q) =
    ⊎_elim (λ (l : Sub us q.0). inl (sub_trans us q.0 ts l q.2))
    (λ (k : (ws : List Tree) × (us ≡ t ∷ ws) × Sub ws q.0). inr (k.0, k.1, sub_trans k.0 q.0 ts k.2 q.2))
    (subst (Sub us) q.1 p)

-- and so with all
all_firsts : (ts : List Tree) (ps : List (List Tree)) → Sub (firsts (fold parted ps ts)) (firsts ps ++ ts)
all_firsts [] ps = subst (Sub (firsts ps)) (sym (append-nil (firsts ps))) (sub_self (firsts ps))
all_firsts (t ∷ ts) ps =
    sub_trans (firsts (fold parted (parted ps t) ts)) (firsts (parted ps t) ++ ts) (firsts ps ++ t ∷ ts)
    (all_firsts ts (parted ps t))
    (subst (Sub (firsts (parted ps t) ++ ts)) (append_assoc (firsts ps) (t ∷ []) ts)
    (sub_append (firsts (parted ps t)) (firsts ps ++ t ∷ []) ts ts (one_first ps t) (sub_self ts)))

-- which trees are left in
marked : (us ts : List Tree) → Sub us ts → AreSomeOf us ts
marked us [] p = ([], p)
marked us (t ∷ ts) (inl p) = let m = marked us ts p in (false ∷ m.0, m.1)
marked us (t ∷ ts) (inr p) = let m = marked p.0 ts p.2 in (true ∷ m.0, p.1 ∙ ap (λ z. t ∷ z) m.1)

-- each tree is a part by itself
abbrev single : Tree → List Tree
single t = t ∷ []

-- each group is of one
each_alone : (ts : List Tree) → map alone ts ≡ map group_of (map single ts)
each_alone [] = refl
each_alone (t ∷ ts) =
    ap (λ z. z ∷ map alone ts) (one_alone t) ∙ ap (λ z. group_of (single t) ∷ z) (each_alone ts)

-- these parts have the trees
each_held : (ts : List Tree) → ts ≡ whole (map single ts)
each_held [] = refl
each_held (t ∷ ts) = ap (λ z. t ∷ z) (each_held ts)

-- in each of them stands one
each_sub : (ts : List Tree) → AreSubs (map single ts) ts
each_sub [] us i = absurd i
each_sub (t ∷ ts) us (inl e) = inr ([], e, sub_nil ts)
each_sub (t ∷ ts) us (inr i) = inl (each_sub ts us i)

-- their first trees are all
each_first : (ts : List Tree) → Sub (firsts (map single ts)) ts
each_first [] = refl
each_first (t ∷ ts) = sub_cons t (firsts (map single ts)) ts (each_first ts)

-- the law of causes
pub groups_are_of_trees : GroupsAreOfTrees
groups_are_of_trees true ts = (
  map single ts,
  each_alone ts,
  permuted_same ts (whole (map single ts)) (each_held ts),
  (λ us i. marked us ts (each_sub ts us i)),
  marked (firsts (map single ts)) ts (each_first ts),
)
groups_are_of_trees false ts = (
  fold parted [] ts,
  all_parted ts [],
  IsPermutation-sym (whole (fold parted [] ts)) ts (all_held ts []),
  (λ us i. marked us ts (all_sub ts [] [] (λ vs j. absurd j) us i)),
  marked (firsts (fold parted [] ts)) ts (all_firsts ts []),
)

-- and of what follows from them
pub leaves_are_grouped : LeavesAreGrouped
leaves_are_grouped all fs = refl
