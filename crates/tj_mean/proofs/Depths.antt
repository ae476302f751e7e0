-- How deep tasks stand: the name of a child has one number more than that of its task.
use Rattle.std.proofs.Common.{◌≡◌, ℕ, zero, suc, ◌+◌, ◌*◌, ◌≤◌, inl, inr, [], ◌∷◌, length}
use Rattle.std.proofs.Common.{refl, sym, ap, subst, arith, length-append}
use Rattle.tj_base.specs.ForkOrder.{Name, child}
use Rattle.tj_body.specs.Programs.{Rules}
use Rattle.tj_body.specs.History.{Assignment, history, point_after}
use Rattle.tj_body.specs.Rounds.{family}
use Rattle.tj_body.specs.Points.{IsIn}
use Rattle.tj_body.specs.declared.point.Task.{Task}
use Rattle.tj_body.proofs.Counts.{is, is_one, total_in, in_of_times}
use Rattle.tj_body.proofs.Histories.Accounts.{numbered, fair}
use Rattle.tj_body.proofs.Histories.Grows.{from_start}
use Rattle.tj_body.proofs.Lists.{from_flat_map, in_flat_map}

child_length : (x : Name) (k : ℕ) → length (child x k) ≡ suc (length x)
child_length x k = let a = length-append x (k ∷ []) in omega arith

numbered_depth : (x : Name) (m : ℕ) (q : Name) → IsIn q (numbered x m) → length q ≡ suc (length x)
numbered_depth x zero q i = absurd i
numbered_depth x (suc m) q (inl e) =
    let l = ap (λ (z : Name). length z) e in let a = child_length x (suc m) in omega arith
numbered_depth x (suc m) q (inr i) = numbered_depth x m q i

module _ {B : Type 0} (rules : Rules B) (V : Assignment) where
  -- a child's name has one number more
  pub child_depth : (k : ℕ) (t c : Task B) → IsIn c (point_after rules V k t).children
      → length c.name ≡ suc (length t.name)
  child_depth k t c i =
      let p = point_after rules V k t in
      let a = (fair c.name (is c.name) rules V k t).1 in
      let b = total_in (λ (x : Task B). is c.name x.name) c p.children i in
      let o = is_one c.name c.name refl in
      let n = numbered_depth p.name p.made c.name (in_of_times c.name (numbered p.name p.made) (omega arith)) in
      let s = ap (λ (z : Name). length z) (from_start rules V k t).5 in
      omega arith

  -- the same of a history
  pub history_depth : (t c : Task B) → IsIn c (history rules V t).children → length c.name ≡ suc (length t.name)
  history_depth t c i = child_depth (2 * suc (rules.left t.body)) t c i

  family_self : (d : ℕ) (t : Task B) → IsIn t (family rules V d t)
  family_self zero t = inl refl
  family_self (suc d) t = inl refl

  -- a task of a family of d generations is at most so much deeper
  pub family_depth : (d : ℕ) (r t : Task B) → IsIn t (family rules V d r) → length t.name ≤ d + length r.name
  family_depth zero r t (inl e) = let l = ap (λ (z : Task B). length z.name) e in omega arith
  family_depth zero r t (inr i) = absurd i
  family_depth (suc d) r t (inl e) = let l = ap (λ (z : Task B). length z.name) e in omega arith
  family_depth (suc d) r t (inr i) =
      let x = from_flat_map (family rules V d) t (history rules V r).children i in
      let a = history_depth r x.0 x.1 in
      let b = family_depth d x.0 t x.2 in
      omega arith

  -- a child that isn't deeper is of the family
  pub near_child : (d : ℕ) (r t c : Task B) → IsIn t (family rules V d r) → IsIn c (history rules V t).children
      → length c.name ≤ d + length r.name → IsIn c (family rules V d r)
  near_child zero r t c (inl e) i l =
      let a = history_depth t c i in
      let m = ap (λ (z : Task B). length z.name) e in
      absurd (omega arith)
  near_child zero r t c (inr j) i l = absurd j
  near_child (suc d) r t c (inl e) i l =
      inr (in_flat_map (family rules V d) c c (history rules V r).children
      (subst (λ z. IsIn c (history rules V z).children) e i) (family_self d c))
  near_child (suc d) r t c (inr j) i l =
      let x = from_flat_map (family rules V d) t (history rules V r).children j in
      let a = history_depth r x.0 x.1 in
      inr (in_flat_map (family rules V d) x.0 c (history rules V r).children x.1
      (near_child d x.0 t c x.2 i (omega arith)))

  -- what holds of the first task, and with a task of each of its children that isn't too deep, holds of a family
  pub family_there : (S : Task B → Type 0) (n : ℕ)
      → ((t c : Task B) → S t → IsIn c (history rules V t).children → length c.name ≤ n → S c)
      → (d : ℕ) (r : Task B) → S r → d + length r.name ≤ n → (t : Task B) → IsIn t (family rules V d r) → S t
  family_there S n on zero r h l t (inl e) = subst S (sym e) h
  family_there S n on zero r h l t (inr i) = absurd i
  family_there S n on (suc d) r h l t (inl e) = subst S (sym e) h
  family_there S n on (suc d) r h l t (inr i) =
      let x = from_flat_map (family rules V d) t (history rules V r).children i in
      let a = history_depth r x.0 x.1 in
      family_there S n on d x.0 (on r x.0 h x.1 (omega arith)) (omega arith) t x.2
