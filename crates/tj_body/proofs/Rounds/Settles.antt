-- A round that adds nothing is the last, and 2 N + 1 rounds are enough.
use Rattle.std.proofs.Common.{◌≡◌, ℕ, zero, suc, ◌+◌, ◌*◌, ◌-◌, ◌<◌, ◌≤◌, ◌⊎◌, inl, inr, ⊎_elim, List, [], ◌∷◌, map}
use Rattle.std.proofs.Common.{Some, length, refl, sym, ap, ◌∙◌, subst, arith, length-append}
use native.Mathlib.Decide.{dec_le}
use mathlib.Core.Logic.{dite}
use Rattle.std.specs.List.{flat_map}
use Rattle.std.proofs.lemmas.List.{length-map}
use Rattle.tj_base.specs.ForkOrder.{Name}
use Rattle.tj_body.specs.Programs.{Rules, Program, root_task}
use Rattle.tj_body.specs.History.{Assignment, history}
use Rattle.tj_body.specs.Rounds.{entry_in, family, writes_by, cells_by, given, tasks, entries, cells, last_round}
use Rattle.tj_body.specs.Rounds.{IsFull}
use Rattle.tj_body.specs.Points.{IsIn, IsWithin}
use Rattle.tj_body.specs.Laws.{AreDistinct, IsLast}
use Rattle.tj_body.specs.declared.point.Entry.{Entry}
use Rattle.tj_body.specs.declared.point.Task.{Task}
use Rattle.tj_body.proofs.Lists.{sub_length, sub_whole, flat_map_still, in_map, to_map}
use Rattle.tj_body.proofs.Counts.{is, times, times_map, entry_of_wrote, times_of_distinct, total_le}
use Rattle.tj_body.proofs.Counts.{total_flat_map, fewer, at_least, wrote}
use Rattle.tj_body.proofs.Rounds.Rises.{names_wrote, wrote_of_in, family_sub, once_name, once_entry, in_entries, of_entries}
use Rattle.tj_body.proofs.Rounds.Rises.{written_cells, up, tasks_sub, entries_sub, within, tasks_within, cells_within}

abbrev task_names : {B : Type 0} → List (Task B) → List Name
task_names l = map (λ t. t.name) l

abbrev entry_names : List (Name × Entry) → List Name
entry_names l = map (λ w. w.0) l

module _ {B : Type 0} (rules : Rules B) where
  -- an assignment lies within itself
  pub within_self : (V : Assignment) → IsWithin V V
  within_self V q e h = h

  -- a family that adds no task with one generation more adds none with the next
  family_still : (V : Assignment) (d : ℕ) (t : Task B) → length (family rules V (suc d) t) ≤ length (family rules V d t)
      → family rules V (suc (suc d)) t ≡ family rules V (suc d) t
  family_still V zero t e = ap (λ z. t ∷ z) (none (history rules V t).children (omega arith)) where
    none : (l : List (Task B)) → length (flat_map (family rules V zero) l) ≤ 0
        → flat_map (family rules V (suc zero)) l ≡ flat_map (family rules V zero) l
    none [] e = refl
    none (x ∷ xs) e = absurd (omega arith)
  family_still V (suc d) t e =
      ap (λ z. t ∷ z)
      (flat_map_still (family rules V d) (family rules V (suc d)) (family rules V (suc (suc d)))
      (family_sub rules V V (within_self V) d (suc d) (omega arith)) (family_still V d)
      (history rules V t).children (omega arith))

module _ {B : Type 0} (program : Program B) where
  abbrev root : Task B
  root = root_task program.root

  abbrev family_of : Assignment → ℕ → Task B → List (Task B)
  family_of V d t = family program.rules V d t

  abbrev V : ℕ → Assignment
  V n = given program n

  abbrev tasks_of : ℕ → List (Task B)
  tasks_of n = tasks program n

  abbrev entries_of : ℕ → List (Name × Entry)
  entries_of n = entries program n

  abbrev cells_of : ℕ → List Name
  cells_of n = cells program n

  -- nothing is added by round n + 1, nor by a generation more
  abbrev Still : ℕ → Type 0
  Still n = (V (suc n) ≡ V n) × (family_of (V n) (suc (suc n)) root ≡ family_of (V n) (suc n) root)

  tasks_on : (n : ℕ) → Still n → tasks_of (suc (suc n)) ≡ tasks_of (suc n)
  tasks_on n s = ap (λ z. family_of z (suc (suc n)) root) s.0 ∙ s.1

  cells_on : (n : ℕ) → Still n → cells_of (suc (suc n)) ≡ cells_of (suc n)
  cells_on n s = let p = tasks_on n s in λ i. flat_map (cells_by program.rules (s.0 i)) (p i)

  entries_on : (n : ℕ) → Still n → entries_of (suc (suc n)) ≡ entries_of (suc n)
  entries_on n s = let p = tasks_on n s in λ i. flat_map (writes_by program.rules (s.0 i)) (p i)

  still_on : (n : ℕ) → Still n → Still (suc n)
  still_on n s =
      let a = ap length s.1 in
      let f = family_still program.rules (V n) (suc n) root (omega arith) in (
        ap entry_in (entries_on n s),
        subst (λ z. family_of z (suc (suc (suc n))) root ≡ family_of z (suc (suc n)) root) (sym s.0) f,
      )

  -- how many tasks and entries a round has
  abbrev size : ℕ → ℕ
  size n = length (tasks_of n) + length (entries_of n)

  stops_if : (n : ℕ) → size (suc (suc n)) ≤ size (suc n)
      → Still (suc n)
  stops_if n h =
      let T = tasks_sub program (suc n) in
      let E = entries_sub program (suc n) in
      let a = sub_length (tasks_of (suc n)) (tasks_of (suc (suc n))) T in
      let b = sub_length (entries_of (suc n)) (entries_of (suc (suc n))) E in
      let e : entries_of (suc n) ≡ entries_of (suc (suc n)) =
      sub_whole (entries_of (suc n)) (entries_of (suc (suc n))) E (omega arith) in
      let u = up program n in
      let x = sub_length (tasks_of (suc n)) (family_of (V (suc n)) (suc n) root)
      (family_sub program.rules (V n) (V (suc n)) u (suc n) (suc n) (omega arith) root) in
      (ap entry_in (sym e), family_still program.rules (V (suc n)) (suc n) root (omega arith))

  settled : (k : ℕ) → ((j : ℕ) × (j < k) × Still j) ⊎ (k ≤ size k)
  settled zero = inr (omega arith)
  settled (suc zero) = inr (omega arith)
  settled (suc (suc n)) =
      ⊎_elim (λ s. inl (s.0, omega arith, s.2))
      (λ h. dite (dec_le (size (suc (suc n))) (size (suc n)))
      (λ l. inl (suc n, omega arith, stops_if n l)) (λ l. inr (omega arith)))
      (settled (suc n))

  entries_cells : (n : ℕ) → length (entries_of n) ≤ length (cells_of n)
  entries_cells n =
      let l = length-map (entries_of n) (λ (w : Name × Entry). w.0) in
      let f = fewer (entry_names (entries_of n)) (cells_of n)
      (λ q. let a = names_wrote q (entries_of n) in let b = written_cells program n q in
      omega arith) in
      omega arith

  tasks_cells : (n : ℕ) → length (tasks_of n) ≤ length (cells_of n)
  tasks_cells zero = omega arith
  tasks_cells (suc n) = each (tasks_of (suc n)) where
    each : (l : List (Task B)) → length l ≤ length (flat_map (cells_by program.rules (V n)) l)
    each [] = omega arith
    each (x ∷ xs) =
        let h = each xs in
        let a = length-append (history program.rules (V n) x).promises
        (flat_map (cells_by program.rules (V n)) xs) in
        omega arith

  abbrev SameFrom : ℕ → ℕ → Type 0
  SameFrom j m = (V m ≡ V j) × (tasks_of (suc m) ≡ tasks_of (suc j))
      × (entries_of (suc m) ≡ entries_of (suc j)) × (cells_of (suc m) ≡ cells_of (suc j))

  same_after : (j k : ℕ) → Still j → Still (k + j) × SameFrom j (k + j)
  same_after j zero s =
      subst (λ m. Still m × SameFrom j m) (let z : j ≡ 0 + j = omega arith in z) (s, (refl, refl, refl, refl))
  same_after j (suc k) s =
      let r = same_after j k s in
      subst (λ m. Still m × SameFrom j m) (let z : suc (k + j) ≡ suc k + j = omega arith in z) (
        still_on (k + j) r.0,
        (
          r.0.0 ∙ r.1.0,
          tasks_on (k + j) r.0 ∙ r.1.1,
          entries_on (k + j) r.0 ∙ r.1.2,
          cells_on (k + j) r.0 ∙ r.1.3,
        ),
      )

  same_from : (j m : ℕ) → j ≤ m → Still j → SameFrom j m
  same_from j m l s =
      subst (SameFrom j) (let z : (m - j) + j ≡ m = omega arith in z) (same_after j (m - j) s).1

  -- a round with no more tasks and no more entries than the one before is the last
  pub settles_by_size : (n : ℕ) → length (tasks_of (suc n)) ≤ length (tasks_of n)
      → length (entries_of (suc n)) ≤ length (entries_of n) → (m : ℕ) → n ≤ m → SameFrom n m
  settles_by_size zero h g m l = absurd (omega arith)
  settles_by_size (suc n) h g m l = same_from (suc n) m l (stops_if n (omega arith))

  task_once : (n : ℕ) (q : Name) → times q (task_names (tasks_of n)) ≤ 1
  task_once zero q = omega arith
  task_once (suc n) q =
      let a = once_name program (suc n) q in
      let b = total_flat_map (is q) (cells_by program.rules (V n)) (tasks_of (suc n)) in
      let c = total_le (λ (t : Task B). is q t.name) (λ t. times q (cells_by program.rules (V n) t))
      (λ t. omega arith) (tasks_of (suc n)) in
      let d = times_map (λ (t : Task B). t.name) q (tasks_of (suc n)) in
      omega arith

  -- a round with the tasks and the entries of the one before is the last
  pub settles_by_members : (n : ℕ) → ((t : Task B) → IsIn t (tasks_of (suc n)) → IsIn t (tasks_of n))
      → IsWithin (V (suc n)) (V n) → (m : ℕ) → n ≤ m → SameFrom n m
  settles_by_members n h g = settles_by_size n fewer_tasks fewer_entries where
    fewer_tasks : length (tasks_of (suc n)) ≤ length (tasks_of n)
    fewer_tasks =
        let a = length-map (tasks_of n) (λ (t : Task B). t.name) in
        let b = length-map (tasks_of (suc n)) (λ (t : Task B). t.name) in
        let f = fewer (task_names (tasks_of (suc n))) (task_names (tasks_of n))
        (λ q. at_least q (task_names (tasks_of (suc n))) (task_names (tasks_of n)) (task_once (suc n) q)
        (λ i. let r = in_map (λ (t : Task B). t.name) q (tasks_of (suc n)) i in
        subst (λ z. IsIn z (task_names (tasks_of n))) (sym r.2)
        (to_map (λ (t : Task B). t.name) r.0 (tasks_of n) (h r.0 r.1)))) in
        omega arith

    entry_there : (q : Name) → wrote q (entries_of (suc n)) ≤ wrote q (entries_of n)
    entry_there q =
        let a = names_wrote q (entries_of (suc n)) in
        let o = once_entry program (suc n) q in
        dite (dec_le 1 (wrote q (entries_of (suc n))))
        (λ l. let r = entry_of_wrote q (entries_of (suc n)) l in
        let w = wrote_of_in q r.0 (entries_of n)
        (in_entries program n q r.0
        (g q r.0 (of_entries program (suc n) q r.0 r.1))) in
        omega arith)
        (λ l. omega arith)

    fewer_entries : length (entries_of (suc n)) ≤ length (entries_of n)
    fewer_entries =
        let a = length-map (entries_of n) (λ (w : Name × Entry). w.0) in
        let b = length-map (entries_of (suc n)) (λ (w : Name × Entry). w.0) in
        let f = fewer (entry_names (entries_of (suc n))) (entry_names (entries_of n))
        (λ q. let x = names_wrote q (entries_of n) in
        let y = names_wrote q (entries_of (suc n)) in
        let z = entry_there q in
        omega arith) in
        omega arith

  -- a round with at most N cells comes no earlier than some round that adds nothing
  settles : (N : ℕ) → length (cells_of (last_round N)) ≤ N → (j : ℕ) × (j ≤ 2 * N) × Still j
  settles N h =
      ⊎_elim (λ s. (s.0, omega arith, s.2))
      (λ l. let a = tasks_cells (2 * N + 1) in let b = entries_cells (2 * N + 1) in absurd (omega arith))
      (settled (2 * N + 1))

  cells_le : (n m : ℕ) → n ≤ m → length (cells_of n) ≤ length (cells_of m)
  cells_le n m l =
      fewer (cells_of n) (cells_of m)
      (λ q. at_least q (cells_of n) (cells_of m) (once_name program n q)
      (cells_within program n m l q))

  -- from round 2 N on the assignment is that of round 2 N + 1
  pub last_given : (N : ℕ) → length (cells_of (last_round N)) ≤ N → (n : ℕ) → 2 * N ≤ n → V n ≡ V (2 * N)
  last_given N h n l =
      let s = settles N h in
      (same_from s.0 n (omega arith) s.2).0 ∙ sym (same_from s.0 (2 * N) s.1 s.2).0

  -- and so do the tasks, from the next round on
  pub last_tasks : (N : ℕ) → length (cells_of (last_round N)) ≤ N → (n : ℕ) → 2 * N ≤ n
      → tasks_of (suc n) ≡ tasks_of (suc (2 * N))
  last_tasks N h n l =
      let s = settles N h in
      (same_from s.0 n (omega arith) s.2).1 ∙ sym (same_from s.0 (2 * N) s.1 s.2).1

  last_cells : (N : ℕ) → length (cells_of (last_round N)) ≤ N → (n : ℕ) → 2 * N ≤ n
      → cells_of (suc n) ≡ cells_of (suc (2 * N))
  last_cells N h n l =
      let s = settles N h in
      (same_from s.0 n (omega arith) s.2).3 ∙ sym (same_from s.0 (2 * N) s.1 s.2).3

  -- what is kept by later rounds and holds of some round holds of round 2 N + 1
  last_of : (F : ℕ → Type 0) → ((n m : ℕ) → n ≤ m → F n → F m) → (N : ℕ)
      → ((n : ℕ) → 2 * N ≤ n → F (suc n) → F (suc (2 * N))) → (n : ℕ) → F n → F (last_round N)
  last_of F kept N same n h =
      dite (dec_le n (2 * N + 1)) (λ l. kept n (2 * N + 1) l h)
      (λ l. subst F (let z : suc (2 * N) ≡ 2 * N + 1 = omega arith in z)
      (same (n - 1) (omega arith) (subst F (let z : n ≡ suc (n - 1) = omega arith in z) h)))

  -- round 2 N + 1 has all that any round has
  pub last : (N : ℕ) → length (cells_of (last_round N)) ≤ N → (n : ℕ) → IsWithin (V n) (V (last_round N))
  last N h n q e a =
      last_of (λ k. V k q ≡ Some e) (λ n m l g. within program n m l q e g) N
      (λ k l g. let x = last_given N h (suc k) (omega arith) in let y = last_given N h (suc (2 * N)) (omega arith) in
      subst (λ U. U q ≡ Some e) (x ∙ sym y) g) n a

  -- and all tasks
  pub last_task : (N : ℕ) → length (cells_of (last_round N)) ≤ N → (n : ℕ) (t : Task B) → IsIn t (tasks_of n)
      → IsIn t (tasks_of (last_round N))
  last_task N h n t i =
      last_of (λ k. IsIn t (tasks_of k)) (λ n m l. tasks_within program n m l t) N
      (λ k l g. subst (IsIn t) (last_tasks N h k l) g) n i

  -- and all cells
  pub last_cell : (N : ℕ) → length (cells_of (last_round N)) ≤ N → (n : ℕ) (q : Name) → IsIn q (cells_of n)
      → IsIn q (cells_of (last_round N))
  last_cell N h n q i =
      last_of (λ k. IsIn q (cells_of k)) (λ n m l. cells_within program n m l q) N
      (λ k l g. subst (IsIn q) (last_cells N h k l) g) n i

  -- where round 2 N + 1 has at most N cells, each round has
  pub enough : (N n : ℕ) → length (cells_of (last_round N)) ≤ N → length (cells_of n) ≤ N
  enough N n h =
      let a = fewer (cells_of n) (cells_of (last_round N))
      (λ q. at_least q (cells_of n) (cells_of (last_round N)) (once_name program n q)
      (last_cell N h n q)) in
      omega arith

  -- some round has more than N cells exactly where round 2 N + 1 has
  pub full_somewhere : (N : ℕ) → (n : ℕ) × (N < length (cells_of n)) → IsFull program N
  full_somewhere N h =
      dite (dec_le (length (cells_of (2 * N + 1))) N)
      (λ d. let e = enough N h.0 d in let b = h.1 in absurd (omega arith))
      (λ d. omega arith)

  -- a meaning that isn't full has at most N cells
  pub at_most_limit : (N : ℕ) → ¬ IsFull program N → length (cells_of (last_round N)) ≤ N
  at_most_limit N h =
      dite (dec_le (length (cells_of (2 * N + 1))) N) (λ d. d)
      (λ d. let z : N < length (cells_of (2 * N + 1)) = omega arith in absurd (h z))

  -- where the meaning isn't full, its round has all that any round has
  pub is_last : IsLast program
  is_last N h =
      let few = at_most_limit N h in
      ((λ n. (last_task N few n, last N few n, last_cell N few n)), last_given N few (last_round N) (omega arith))

  -- names of cells of some rounds are together in one round
  together : (l : List Name) → ((q : Name) → IsIn q l → (n : ℕ) × IsIn q (cells_of n))
      → (m : ℕ) × ((q : Name) → IsIn q l → IsIn q (cells_of m))
  together [] h = (0, λ q i. absurd i)
  together (x ∷ xs) h =
      let r = together xs (λ q i. h q (inr i)) in
      let y = h x (inl refl) in
      let n = y.0 + r.0 in (
        n,
        λ q i. ⊎_elim
            (λ e. subst (λ z. IsIn z (cells_of n)) (sym e)
            (cells_within program y.0 n (omega arith) x y.1))
            (λ j. cells_within program r.0 n (omega arith) q (r.1 q j)) i,
      )

  -- more than N names, each once, each of some round: the meaning is full
  pub full_where : (N : ℕ) (l : List Name) → AreDistinct l → ((q : Name) → IsIn q l → (n : ℕ) × IsIn q (cells_of n))
      → N < length l → IsFull program N
  full_where N l once h big =
      let r = together l h in
      let f = fewer l (cells_of r.0) (λ q. at_least q l (cells_of r.0) (times_of_distinct q l once) (r.1 q)) in
      full_somewhere N (r.0, omega arith)
