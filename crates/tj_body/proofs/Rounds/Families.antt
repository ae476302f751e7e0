-- In a family each name is owned or written at most once, and no cell has another's name.
use Rattle.std.proofs.Common.{◌≡◌, ℕ, zero, suc, ◌+◌, ◌*◌, ◌≤◌, Bool, true, false, inl, inr, List, [], ◌∷◌, Some}
use Rattle.std.proofs.Common.{cond, refl, sym, ap, ◌∙◌, arith}
use Rattle.tj_base.specs.ForkOrder.{Name}
use Rattle.tj_body.specs.Names.{same}
use Rattle.tj_body.specs.Programs.{Rules}
use Rattle.tj_body.specs.History.{Assignment, owned, history}
use Rattle.tj_body.specs.Rounds.{entry_in, family, writes_by, cells_by}
use Rattle.tj_body.specs.Points.{IsIn}
use Rattle.tj_body.specs.declared.point.Entry.{Entry}
use Rattle.tj_body.specs.declared.point.Task.{Task}
use Rattle.tj_body.specs.declared.point.Point.{Point}
use Rattle.tj_body.proofs.Histories.Grows.{from_start}
use Rattle.tj_body.proofs.Counts.{one_if, is, is_one, total, times, wrote, same_self, same_is, total_le, total_add}
use Rattle.tj_body.proofs.Counts.{total_same}
use Rattle.tj_body.proofs.Counts.{total_flat_map}
use Rattle.tj_body.proofs.Histories.Prefixes.{under, below, under_is, numbered_once}
use Rattle.tj_body.proofs.Histories.Accounts.{fair}

module _ {B : Type 0} (rules : Rules B) where
  -- a history has the name of its task
  pub same_name : (V : Assignment) (t : Task B) → (history rules V t).name ≡ t.name
  same_name V t = (from_start rules V (2 * suc (rules.left t.body)) t).5

  module _ (V : Assignment) (q : Name) where
    abbrev history_of : Task B → Point B
    history_of t = history rules V t

    abbrev family_of : ℕ → Task B → List (Task B)
    family_of d t = family rules V d t

    -- how often t owns or writes q
    abbrev pub uses : Task B → ℕ
    uses t = times q (owned (history_of t)) + wrote q (writes_by rules V t)

    -- how often q is a cell of t
    abbrev pub makes : Task B → ℕ
    makes t = times q (cells_by rules V t)

    used_of : (t : Task B)
        → uses t + total (λ (c : Task B). times q c.handed) (history_of t).children ≡ times q t.handed + makes t
    used_of t =
        let a = (fair q (under q) rules V (2 * suc (rules.left t.body)) t).0 in
        let n : is q (history_of t).name ≡ is q t.name = ap (is q) (same_name V t) in
        omega arith

    made_of : (t : Task B)
        → total (λ (c : Task B). under q c.name) (history_of t).children + total (under q) (history_of t).promises
        ≤ below q t.name
    made_of t =
        let b = (fair q (under q) rules V (2 * suc (rules.left t.body)) t).1 in
        let n = numbered_once q (history_of t).name (history_of t).made in
        let k : below q (history_of t).name ≡ below q t.name = ap (below q) (same_name V t) in
        omega arith

    makes_of : (t : Task B) → makes t + total (λ (c : Task B). under q c.name) (history_of t).children ≤ under q t.name
    makes_of t =
        let a = made_of t in
        let b = total_le (is q) (under q) (λ x. let h = under_is q x in omega arith) (history_of t).promises in
        let c = under_is q t.name in
        omega arith

    -- each name is a cell of at most one task of a family, and only below the name of its first
    pub once_cell : (d : ℕ) (t : Task B) → total makes (family_of d t) ≤ under q t.name
    once_cell zero t = let a = makes_of t in omega arith
    once_cell (suc d) t =
        let a = makes_of t in
        let g = total_flat_map makes (family_of d) (history_of t).children in
        let r = total_le (λ x. total makes (family_of d x)) (λ (x : Task B). under q x.name)
        (once_cell d) (history_of t).children in
        omega arith

    -- what is handed to the children of the tasks that come last
    abbrev pub beyond : ℕ → Task B → ℕ
    beyond zero t = total (λ (c : Task B). times q c.handed) (history_of t).children
    beyond (suc d) t = total (beyond d) (history_of t).children

    -- what is owned or written, or handed on to tasks beyond the family, are its cells and what was handed to it
    pub used_exactly : (d : ℕ) (t : Task B)
        → total uses (family_of d t) + beyond d t ≡ times q t.handed + total makes (family_of d t)
    used_exactly zero t = let a = used_of t in omega arith
    used_exactly (suc d) t =
        let cs = (history_of t).children in
        let a = used_of t in
        let g = total_flat_map uses (family_of d) cs in
        let h = total_flat_map makes (family_of d) cs in
        let r = total_same (λ x. total uses (family_of d x) + beyond d x)
        (λ (x : Task B). times q x.handed + total makes (family_of d x)) (used_exactly d) cs in
        let s = total_add (λ x. total uses (family_of d x)) (beyond d) cs in
        let u = total_add (λ (x : Task B). times q x.handed) (λ x. total makes (family_of d x)) cs in
        omega arith

    -- what is owned or written is a cell, or was handed
    pub used_cells : (d : ℕ) (t : Task B) → total uses (family_of d t) ≤ times q t.handed + total makes (family_of d t)
    used_cells d t = let a = used_exactly d t in omega arith

    -- each name is owned or written at most once
    pub once_used : (d : ℕ) (t : Task B) → total uses (family_of d t) ≤ times q t.handed + under q t.name
    once_used d t = let a = used_cells d t in let b = once_cell d t in omega arith

-- lookups in a list where each name stands once
pub from_entry : (l : List (Name × Entry)) (q : Name) (e : Entry) → entry_in l q ≡ Some e → IsIn (q, e) l
from_entry [] q e h = cc
from_entry (w ∷ ws) q e h = by_same (from_entry ws q e) (same q w.0) refl h where
  by_same : (entry_in ws q ≡ Some e → IsIn (q, e) ws) → (b : Bool) → same q w.0 ≡ b
      → cond b (Some w.1) (entry_in ws q) ≡ Some e → IsIn (q, e) (w ∷ ws)
  by_same rec true s g = let x : w.1 ≡ e = cc in let y = same_is q w.0 s in inl (λ i. (y i, sym x i))
  by_same rec false s g = inr (rec g)

absent : (l : List (Name × Entry)) (q : Name) (e : Entry) → wrote q l ≡ 0 → IsIn (q, e) l → ⊥
absent [] q e h i = i
absent (w ∷ ws) q e h (inl i) = let z = is_one q w.0 (ap (λ (y : Name × Entry). y.0) i) in omega arith
absent (w ∷ ws) q e h (inr i) = absent ws q e (omega arith) i

-- and the other way round
pub to_entry : (l : List (Name × Entry)) (q : Name) (e : Entry) → wrote q l ≤ 1 → IsIn (q, e) l
    → entry_in l q ≡ Some e
to_entry [] q e h i = absurd i
to_entry (w ∷ ws) q e h i = by_same (to_entry ws q e) (same q w.0) refl h i where
  by_same : (wrote q ws ≤ 1 → IsIn (q, e) ws → entry_in ws q ≡ Some e) → (b : Bool) → same q w.0 ≡ b
      → one_if b + wrote q ws ≤ 1 → IsIn (q, e) (w ∷ ws) → cond b (Some w.1) (entry_in ws q) ≡ Some e
  by_same rec true s g (inl x) = ap (λ (z : Name × Entry). Some z.1) (sym x)
  by_same rec true s g (inr x) = absurd (absent ws q e (omega arith) x)
  by_same rec false s g (inl x) =
      let y : true ≡ false = sym (same_self q) ∙ (ap (λ (z : Name × Entry). same q z.0) x ∙ s) in absurd (cc)
  by_same rec false s g (inr x) = rec (omega arith) x
