-- Tasks depth by depth: what those of some depths make, and which tasks a family has.
use Rattle.std.proofs.Common.{◌≡◌, ℕ, zero, suc, ◌+◌, ◌≤◌, ◌⊎◌, inl, inr, List, [], ◌∷◌, ◌++◌, length}
use Rattle.std.proofs.Common.{refl, sym, ap, ◌∙◌, subst, arith, append-nil, append_assoc}
use Rattle.std.proofs.lemmas.List.{length-append}
use Rattle.std.specs.List.{flat_map}
use Rattle.tj_base.specs.ForkOrder.{Name}
use Rattle.tj_body.specs.History.{history}
use Rattle.tj_body.specs.Points.{IsIn}
use Rattle.tj_body.specs.Programs.{Rules}
use Rattle.tj_body.specs.Rounds.{cells_by, family}
use Rattle.tj_body.specs.declared.point.Task.{Task}
use Rattle.tj_body.proofs.Lists.{from_flat_map, in_flat_map, in_left}
use Rattle.tj_trace.specs.Inner.TaskDepths.{below, made_of, nothing}

pub flat_map_append : {A C : Type 0} (f : A → List C) (xs ys : List A)
    → flat_map f (xs ++ ys) ≡ flat_map f xs ++ flat_map f ys
flat_map_append f [] ys = refl
flat_map_append f (x ∷ xs) ys =
    ap (λ l. f x ++ l) (flat_map_append f xs ys) ∙ sym (append_assoc (f x) (flat_map f xs) (flat_map f ys))

module _ {B : Type 0} (rules : Rules B) where
  abbrev cells_of : Task B → List Name
  cells_of t = cells_by rules nothing t

  abbrev of_depth : ℕ → Task B → List (Task B)
  of_depth d t = family rules nothing d t

  abbrev children_of : Task B → List (Task B)
  children_of t = (history rules nothing t).children

  -- what two lists make
  pub made_append : (xs ys : List (Task B)) → made_of rules (xs ++ ys) ≡ made_of rules xs + made_of rules ys
  made_append xs ys = ap (λ (l : List Name). length l) (flat_map_append cells_of xs ys)
      ∙ length-append (flat_map cells_of xs) (flat_map cells_of ys)

  -- what a task and others make
  pub made_first : (t : Task B) (ts : List (Task B)) → made_of rules (t ∷ ts) ≡ length (cells_of t) + made_of rules ts
  made_first t ts = length-append (cells_of t) (flat_map cells_of ts)

  -- the tasks that come from these by d forks after one another
  abbrev pub depth : List (Task B) → ℕ → List (Task B)
  depth ts zero = ts
  depth ts (suc d) = below rules (depth ts d)

  -- what those make that come from these by fewer than d forks
  abbrev pub made_above : List (Task B) → ℕ → ℕ
  made_above ts zero = 0
  made_above ts (suc d) = made_above ts d + made_of rules (depth ts d)

  depth_below : (ts : List (Task B)) (d : ℕ) → depth (below rules ts) d ≡ depth ts (suc d)
  depth_below ts zero = refl
  depth_below ts (suc d) = ap (below rules) (depth_below ts d)

  made_below : (ts : List (Task B)) (d : ℕ) → made_above ts (suc d) ≡ made_of rules ts + made_above (below rules ts) d
  made_below ts zero = omega arith
  made_below ts (suc d) =
      let h = made_below ts d in
      let s = ap (made_of rules) (depth_below ts d) in
      omega arith

  -- more depths make no less
  pub made_more : (ts : List (Task B)) (m j : ℕ) → made_above ts m ≤ made_above ts (j + m)
  made_more ts m zero =
      subst (λ x. made_above ts m ≤ made_above ts x) (let z : m ≡ 0 + m = omega arith in z) (omega arith)
  made_more ts m (suc j) =
      subst (λ x. made_above ts m ≤ made_above ts x) (let z : suc (j + m) ≡ suc j + m = omega arith in z)
      (let h = made_more ts m j in omega arith)

  -- families make what their first tasks make, and what the families of the children make
  family_first : (d : ℕ) (ts : List (Task B)) → made_of rules (flat_map (of_depth (suc d)) ts)
      ≡ made_of rules ts + made_of rules (flat_map (of_depth d) (below rules ts))
  family_first d [] = refl
  family_first d (t ∷ ts) =
      let cs = children_of t in
      let a = made_append (t ∷ flat_map (of_depth d) cs) (flat_map (of_depth (suc d)) ts) in
      let b = made_first t (flat_map (of_depth d) cs) in
      let c = made_first t ts in
      let e = ap (made_of rules) (flat_map_append (of_depth d) cs (below rules ts)) in
      let f = made_append (flat_map (of_depth d) cs) (flat_map (of_depth d) (below rules ts)) in
      let h = family_first d ts in
      omega arith

  singles : (ts : List (Task B)) → flat_map (of_depth 0) ts ≡ ts
  singles [] = refl
  singles (t ∷ ts) = ap (λ l. t ∷ l) (singles ts)

  families_made : (d : ℕ) (ts : List (Task B))
      → made_of rules (flat_map (of_depth d) ts) ≡ made_above ts (suc d)
  families_made zero ts = let e = ap (made_of rules) (singles ts) in omega arith
  families_made (suc d) ts =
      let a = family_first d ts in
      let b = families_made d (below rules ts) in
      let c = made_below ts (suc d) in
      omega arith

  -- a family makes what its depths make
  pub family_made : (d : ℕ) (t : Task B) → made_of rules (of_depth d t) ≡ made_above (t ∷ []) (suc d)
  family_made d t = ap (made_of rules) (sym (append-nil (of_depth d t))) ∙ families_made d (t ∷ [])

  -- a task of a family is of some depth
  families_in : (d : ℕ) (ts : List (Task B)) (t : Task B) → IsIn t (flat_map (of_depth d) ts)
      → (e : ℕ) × (e ≤ d) × IsIn t (depth ts e)
  families_in zero ts t i = (0, omega arith, subst (IsIn t) (singles ts) i)
  families_in (suc d) ts t i =
      let f = from_flat_map (of_depth (suc d)) t ts i in by (λ j. families_in d (below rules ts) t j) f.0 f.1 f.2 where
        by : (IsIn t (flat_map (of_depth d) (below rules ts))
            → (e : ℕ) × (e ≤ d) × IsIn t (depth (below rules ts) e))
            → (x : Task B) → IsIn x ts → IsIn t (x ∷ flat_map (of_depth d) (children_of x))
            → (e : ℕ) × (e ≤ suc d) × IsIn t (depth ts e)
        by rec x j (inl e) = (0, omega arith, subst (λ y. IsIn y ts) (sym e) j)
        by rec x j (inr k) =
            let g = from_flat_map (of_depth d) t (children_of x) k in
            let c = in_flat_map children_of x g.0 ts j g.1 in
            let r = rec (in_flat_map (of_depth d) g.0 t (below rules ts) c g.2) in
            let l = r.1 in
            (suc r.0, omega arith, subst (IsIn t) (depth_below ts r.0) r.2)

  pub family_in : (d : ℕ) (t x : Task B) → IsIn x (of_depth d t) → (e : ℕ) × (e ≤ d) × IsIn x (depth (t ∷ []) e)
  family_in d t x i = families_in d (t ∷ []) x (in_left x (of_depth d t) [] i)
