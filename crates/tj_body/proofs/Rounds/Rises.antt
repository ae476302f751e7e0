-- Rounds only grow.
use Rattle.std.proofs.Common.{◌≡◌, ℕ, zero, suc, ◌+◌, ◌*◌, ◌-◌, ◌≤◌, List, [], map}
use Rattle.std.proofs.Common.{Option, Some, None, refl, sym, subst, arith}
use Rattle.std.specs.List.{flat_map}
use Rattle.tj_base.specs.ForkOrder.{Name}
use Rattle.tj_body.specs.Programs.{Rules, Program, root_task}
use Rattle.tj_body.specs.History.{Assignment, owned, history}
use Rattle.tj_body.specs.Rounds.{entry_in, family, writes_by, cells_by, given, tasks, entries, cells}
use Rattle.tj_body.specs.Points.{IsIn, IsWithin}
use Rattle.tj_body.specs.Laws.{AreDistinct, Grows, IsApart, OwnsApart}
use Rattle.tj_body.specs.declared.point.Entry.{Entry}
use Rattle.tj_body.specs.declared.point.Task.{Task}
use Rattle.tj_body.specs.declared.point.Point.{Point}
use Rattle.tj_body.proofs.Lists.{Sub, sub_nil, sub_cons, sub_begins, sub_in, flat_map_sub, from_flat_map}
use Rattle.tj_body.proofs.Histories.Grows.{GoesOn, more}
use Rattle.tj_body.proofs.Counts.{is, is_one, total, total_in, total_one, total_le, total_flat_map, times}
use Rattle.tj_body.proofs.Counts.{times_map, times_of_in}
use Rattle.tj_body.proofs.Counts.{wrote, in_of_times, at_most_one, distinct_of_times}
use Rattle.tj_body.proofs.Histories.Prefixes.{begins}
use Rattle.tj_body.proofs.Rounds.Families.{uses, once_used, once_cell, used_cells, from_entry, to_entry}

-- a name is written as often as it stands among the names of the entries
pub names_wrote : (q : Name) (l : List (Name × Entry)) → times q (map (λ (w : Name × Entry). w.0) l) ≡ wrote q l
names_wrote = times_map (λ (w : Name × Entry). w.0)

-- what has an entry is written
pub wrote_of_in : (q : Name) (e : Entry) (l : List (Name × Entry)) → IsIn (q, e) l → 1 ≤ wrote q l
wrote_of_in q e l i =
    let a = total_in (λ (w : Name × Entry). is q w.0) (q, e) l i in let b = is_one q q refl in omega arith

-- steps of one make any number of steps
pub climbs : (F : ℕ → Type 0) → ((n : ℕ) → F n → F (suc n)) → (n m : ℕ) → n ≤ m → F n → F m
climbs F up n m l h = subst F (let z : (m - n) + n ≡ m = omega arith in z) (by (m - n)) where
  by : (k : ℕ) → F (k + n)
  by zero = subst F (let z : n ≡ 0 + n = omega arith in z) h
  by (suc k) = subst F (let z : suc (k + n) ≡ suc k + n = omega arith in z) (up (k + n) (by k))

module _ {B : Type 0} (rules : Rules B) where
  abbrev family_of : Assignment → ℕ → Task B → List (Task B)
  family_of V d t = family rules V d t

  -- a history under a larger assignment goes on from it
  pub grown : (V W : Assignment) → IsWithin V W → (t : Task B) → GoesOn (history rules V t) (history rules W t)
  grown V W h t = more rules V W h t (2 * suc (rules.left t.body))

  -- under a larger assignment, or with more generations, a family has more tasks
  pub family_sub : (V W : Assignment) → IsWithin V W → (d e : ℕ) → d ≤ e → (t : Task B)
      → Sub (family_of V d t) (family_of W e t)
  family_sub V W h zero zero l t = sub_cons t [] [] (sub_nil [])
  family_sub V W h zero (suc e) l t =
      let others = flat_map (family_of W e) (history rules W t).children in sub_cons t [] others (sub_nil others)
  family_sub V W h (suc d) zero l t = absurd (omega arith)
  family_sub V W h (suc d) (suc e) l t =
      let a = (history rules V t).children in
      let b = (history rules W t).children in
      sub_cons t (flat_map (family_of V d) a) (flat_map (family_of W e) b)
      (flat_map_sub (family_of V d) (family_of W e) (family_sub V W h d e (omega arith)) a b
      (sub_begins a b (grown V W h t).0))

module _ {B : Type 0} (program : Program B) where
  abbrev root : Task B
  root = root_task program.root

  abbrev history_of : Assignment → Task B → Point B
  history_of V t = history program.rules V t

  abbrev V : ℕ → Assignment
  V n = given program n

  abbrev writes : ℕ → Task B → List (Name × Entry)
  writes n t = writes_by program.rules (V n) t

  abbrev made : ℕ → Task B → List Name
  made n t = cells_by program.rules (V n) t

  -- in a round each name is owned or written at most once
  pub once_in_round : (n : ℕ) (q : Name) → total (uses program.rules (V n) q) (tasks program (suc n)) ≤ 1
  once_in_round n q =
      let a = once_used program.rules (V n) q (suc n) root in
      let b = at_most_one (begins root.name q) in
      let c : times q root.handed ≡ 0 = refl in
      omega arith

  -- in a round each name has at most one entry
  pub once_entry : (n : ℕ) (q : Name) → wrote q (entries program n) ≤ 1
  once_entry zero q = omega arith
  once_entry (suc n) q =
      let a = once_in_round n q in
      let b = total_flat_map (λ (w : Name × Entry). is q w.0) (writes n) (tasks program (suc n)) in
      let c = total_le (λ t. wrote q (writes n t)) (uses program.rules (V n) q) (λ t. omega arith)
      (tasks program (suc n)) in
      omega arith

  -- and is at most once a cell
  pub once_name : (n : ℕ) (q : Name) → times q (cells program n) ≤ 1
  once_name zero q = omega arith
  once_name (suc n) q =
      let a = once_cell program.rules (V n) q (suc n) root in
      let b = total_flat_map (is q) (made n) (tasks program (suc n)) in
      let c = at_most_one (begins root.name q) in
      omega arith

  -- no cell stands twice
  pub distinct_cells : (n : ℕ) → AreDistinct (cells program n)
  distinct_cells n = distinct_of_times (cells program n) (once_name n)

  -- no cell has two entries
  pub distinct_entries : (n : ℕ) → AreDistinct (map (λ (w : Name × Entry). w.0) (entries program n))
  distinct_entries n =
      distinct_of_times (map (λ (w : Name × Entry). w.0) (entries program n))
      (λ q. let a = names_wrote q (entries program n) in let b = once_entry n q in omega arith)

  -- the assignment of a round is what its entries say
  pub given_entries : (n : ℕ) → V n ≡ entry_in (entries program n)
  given_entries zero = refl
  given_entries (suc n) = refl

  -- what it gives is an entry
  pub in_entries : (n : ℕ) (q : Name) (e : Entry) → V n q ≡ Some e → IsIn (q, e) (entries program n)
  in_entries n q e h = from_entry (entries program n) q e (subst (λ f. f q ≡ Some e) (given_entries n) h)

  -- and an entry is what it gives
  pub of_entries : (n : ℕ) (q : Name) (e : Entry) → IsIn (q, e) (entries program n) → V n q ≡ Some e
  of_entries n q e h =
      subst (λ f. f q ≡ Some e) (sym (given_entries n)) (to_entry (entries program n) q e (once_entry n q) h)

  -- a name is written no more often than it is a cell
  pub written_cells : (n : ℕ) (q : Name) → wrote q (entries program n) ≤ times q (cells program n)
  written_cells zero q = omega arith
  written_cells (suc n) q =
      let a = used_cells program.rules (V n) q (suc n) root in
      let b = total_flat_map (λ (w : Name × Entry). is q w.0) (writes n) (tasks program (suc n)) in
      let c = total_le (λ t. wrote q (writes n t)) (uses program.rules (V n) q) (λ t. omega arith)
      (tasks program (suc n)) in
      let d = total_flat_map (is q) (made n) (tasks program (suc n)) in
      let e : times q root.handed ≡ 0 = refl in
      omega arith

  -- what has an entry is a cell
  pub entry_cell : (n : ℕ) (q : Name) (e : Entry) → V n q ≡ Some e → IsIn q (cells program n)
  entry_cell n q e h =
      let a = wrote_of_in q e (entries program n) (in_entries n q e h) in
      let b = written_cells n q in
      in_of_times q (cells program n) (omega arith)

  tasks_sub_if : (n : ℕ) → IsWithin (V n) (V (suc n)) → Sub (tasks program (suc n)) (tasks program (suc (suc n)))
  tasks_sub_if n h = family_sub program.rules (V n) (V (suc n)) h (suc n) (suc (suc n)) (omega arith) root

  entries_sub_if : (n : ℕ) → IsWithin (V n) (V (suc n)) → Sub (entries program (suc n)) (entries program (suc (suc n)))
  entries_sub_if n h =
      flat_map_sub (writes n) (writes (suc n)) (λ x. sub_begins _ _ (grown program.rules (V n) (V (suc n)) h x).1)
      (tasks program (suc n)) (tasks program (suc (suc n))) (tasks_sub_if n h)

  -- a round lies within the next
  pub up : (n : ℕ) → IsWithin (V n) (V (suc n))
  up zero q e h = cc
  up (suc n) q e h =
      of_entries (suc (suc n)) q e
      (sub_in (q, e) (entries program (suc n)) (entries program (suc (suc n))) (entries_sub_if n (up n))
      (in_entries (suc n) q e h))

  -- the next round has the tasks of a round
  pub tasks_sub : (n : ℕ) → Sub (tasks program n) (tasks program (suc n))
  tasks_sub zero = sub_nil (tasks program (suc zero))
  tasks_sub (suc n) = tasks_sub_if n (up n)

  -- and its entries
  pub entries_sub : (n : ℕ) → Sub (entries program n) (entries program (suc n))
  entries_sub zero = sub_nil (entries program (suc zero))
  entries_sub (suc n) = entries_sub_if n (up n)

  -- and its cells
  pub cells_sub : (n : ℕ) → Sub (cells program n) (cells program (suc n))
  cells_sub zero = sub_nil (cells program (suc zero))
  cells_sub (suc n) =
      flat_map_sub (made n) (made (suc n))
      (λ x. sub_cons x.name _ _ (sub_begins _ _ (grown program.rules (V n) (V (suc n)) (up n) x).2))
      (tasks program (suc n)) (tasks program (suc (suc n))) (tasks_sub_if n (up n))

  -- a later round has what an earlier one has
  pub within : (n m : ℕ) → n ≤ m → IsWithin (V n) (V m)
  within n m l q e h = climbs (λ k. V k q ≡ Some e) (λ k. up k q e) n m l h

  -- also its tasks
  pub tasks_within : (n m : ℕ) → n ≤ m → (t : Task B) → IsIn t (tasks program n) → IsIn t (tasks program m)
  tasks_within n m l t h =
      climbs (λ k. IsIn t (tasks program k)) (λ k. sub_in t (tasks program k) (tasks program (suc k)) (tasks_sub k)) n m
      l h

  -- and its cells
  pub cells_within : (n m : ℕ) → n ≤ m → (q : Name) → IsIn q (cells program n) → IsIn q (cells program m)
  cells_within n m l q h =
      climbs (λ k. IsIn q (cells program k)) (λ k. sub_in q (cells program k) (cells program (suc k)) (cells_sub k)) n m
      l h

  -- a name has one task
  one_task : (n : ℕ) (t u : Task B) → IsIn t (tasks program n) → IsIn u (tasks program n) → t.name ≡ u.name → t ≡ u
  one_task zero t u i j e = absurd i
  one_task (suc n) t u i j e =
      let a = once_name (suc n) t.name in
      let b = total_flat_map (is t.name) (made n) (tasks program (suc n)) in
      let c = is_one t.name t.name refl in
      let d = is_one t.name u.name e in
      total_one (λ c. times t.name (made n c)) (tasks program (suc n)) (omega arith) t u i j (omega arith) (omega arith)

  -- in all rounds a name has one task
  pub one_of_all : (n m : ℕ) (t u : Task B) → IsIn t (tasks program n) → IsIn u (tasks program m) → t.name ≡ u.name → t
      ≡ u
  one_of_all n m t u i j e =
      one_task (n + m) t u (tasks_within n (n + m) (omega arith) t i) (tasks_within m (n + m) (omega arith) u j) e

  -- a cell has one owner
  pub one_owner : (m : ℕ) (t u : Task B) (q : Name) → IsIn t (tasks program (suc m)) → IsIn u (tasks program (suc m))
      → IsIn q (owned (history_of (V m) t)) → IsIn q (owned (history_of (V m) u)) → t ≡ u
  one_owner m t u q i j a b =
      let x = times_of_in q (owned (history_of (V m) t)) a in
      let y = times_of_in q (owned (history_of (V m) u)) b in
      total_one (uses program.rules (V m) q) (tasks program (suc m)) (once_in_round m q) t u i j
      (omega arith) (omega arith)

  -- and what is owned isn't written
  pub owned_open : (m : ℕ) (t : Task B) (q : Name) → IsIn t (tasks program (suc m)) → IsIn q
      (owned (history_of (V m) t))
      → V (suc m) q ≡ None
  owned_open m t q i a = by_entry (V (suc m) q) refl where
    written : (e : Entry) → IsIn (q, e) (entries program (suc m)) → ⊥
    written e j =
        let f = from_flat_map (writes m) (q, e) (tasks program (suc m)) j in
        let x = times_of_in q (owned (history_of (V m) t)) a in
        let y = wrote_of_in q e (writes m f.0) f.2 in
        let s = total_one (uses program.rules (V m) q) (tasks program (suc m)) (once_in_round m q) t f.0 i f.1
        (omega arith) (omega arith) in
        let z : 1 ≤ wrote q (writes m t) = subst (λ u. 1 ≤ wrote q (writes m u)) (sym s) y in
        let l = total_in (uses program.rules (V m) q) t (tasks program (suc m)) i in
        let o = once_in_round m q in
        omega arith

    by_entry : (o : Option Entry) → V (suc m) q ≡ o → V (suc m) q ≡ None
    by_entry None e = e
    by_entry (Some x) e = absurd (written x (in_entries (suc m) q x e))

  -- the law of growing rounds
  pub grow : Grows program
  grow n m l = (tasks_within n m l, within n m l, cells_within n m l)

  -- the law of distinct cells
  pub apart : IsApart program
  apart n =
      (distinct_cells n, distinct_entries n, (λ q e. (of_entries n q e, in_entries n q e)), entry_cell n)

  -- the law of owners
  pub owners_apart : OwnsApart program
  owners_apart n m t u q l i j a b =
      let later = tasks_within n (suc m) l in
      (one_owner m t u q (later t i) (later u j) a b, owned_open m t q (later t i) a)
