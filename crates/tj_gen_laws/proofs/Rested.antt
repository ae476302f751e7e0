-- The generated script's run at rest: each of its nodes and `main` have stopped. So this is its meaning, where that
-- fits, and it takes two cells for `main` and two for each node.
use Rattle.std.proofs.Common.{ℕ, zero, suc, ◌≡◌, ◌≤◌, ◌<◌, ◌⊎◌, inl, inr, ⊎_elim, pos, Bool, true, false, cond, List}
use Rattle.std.proofs.Common.{[], ◌∷◌}
use Rattle.std.proofs.Common.{length, Some, refl, sym, ap, ◌∙◌, subst, arith}
use Rattle.std.specs.Prelude.{◌+◌, ◌*◌, slice_get}
use Rattle.std.specs.List.{flat_map}
use Rattle.tj_base.specs.ForkOrder.{Name, child}
use Rattle.tj_body.specs.Names.{same}
use Rattle.tj_body.specs.Programs.{Program}
use Rattle.tj_body.specs.History.{Assignment, start, history}
use Rattle.tj_body.specs.Rounds.{given, tasks, last_round, meaning, entry_in, IsFull}
use Rattle.tj_body.specs.Points.{IsIn, IsAtRest, HasStopped}
use Rattle.tj_body.specs.Laws.{RestsAtMeaning, IsFullExactly, Grows, CountsMade}
use Rattle.tj_body.specs.RoundPoints.{HasMade, PointsStay, TasksStart, PointsAsk, PointsRead, WritesBecome}
use Rattle.tj_body.specs.RoundPoints.{ThingsInRounds, ThingsAreMade, Becomes}
use Rattle.tj_body.specs.declared.point.Close.{Close}
use Rattle.tj_body.specs.declared.point.Close.TheVariants as close
use Rattle.tj_body.specs.declared.point.Entry.{Entry}
use Rattle.tj_body.specs.declared.point.Entry.TheVariants as entry
use Rattle.tj_body.specs.declared.point.Value.TheVariants as value
use Rattle.tj_body.specs.declared.point.Task.{Task}
use Rattle.tj_body.specs.declared.point.Point.{Point}
use Rattle.tj_body.proofs.Lists.{in_flat_map, from_flat_map, in_map, to_map}
use Rattle.tj_body.proofs.Counts.{same_self}
use Rattle.tj_body.proofs.Rounds.Families.{from_entry}
use Rattle.tj_mean.proofs.Lists.Elements.{get_in, in_get, in_left, in_right, in_snoc}
use Rattle.tj_eval.specs.Statements.{TaskState}
use Rattle.tj_gen_laws.proofs.MainPoints.{double, first, forked, last_promise, left, main_stopped, node, node_stopped}
use Rattle.tj_gen_laws.proofs.MainPoints.{nodes, promised, sum_to}
use Rattle.tj_gen_laws.proofs.MainSteps.{HasSet, IsPoint, program, setting}
use Rattle.tj_gen_laws.proofs.NodeSteps.{node_stops}

-- what the laws of rounds say of a program
pub record AreRounds (program : Program TaskState) : Type 0 where
  pub stays : PointsStay program
  pub start : TasksStart program
  pub ask : PointsAsk program
  pub read : PointsRead program
  pub written : WritesBecome program
  pub things : ThingsInRounds program
  pub made : ThingsAreMade program
  pub rest : RestsAtMeaning program
  pub full : IsFullExactly program
  pub grows : Grows program
  pub counts : CountsMade program

-- a number below the next one is below this one, or is it
split : (i k : ℕ) → i < suc k → (i < k) ⊎ (i ≡ k)
split zero zero l = inr refl
split zero (suc k) l = inl (omega arith)
split (suc i) zero l = absurd (omega arith)
split (suc i) (suc k) l = ⊎_elim (λ h. inl (omega arith)) (λ e. inr (ap suc e)) (split i k (omega arith))

double_is : (k : ℕ) → double k ≡ 2 * k
double_is zero = omega arith
double_is (suc k) = let r = double_is k in omega arith

-- an entry of a list is found
found : (l : List (Name × Entry)) (q : Name) (e : Entry) → IsIn (q, e) l → (x : Entry) × (entry_in l q ≡ Some x)
found [] q e i = absurd i
found (w ∷ ws) q e (inl j) = (w.1, ap (λ b. cond b (Some w.1) (entry_in ws q)) same_name) where
  same_name : same q w.0 ≡ true
  same_name = ap (same q) (sym (ap (λ (z : Name × Entry). z.0) j)) ∙ same_self q
found (w ∷ ws) q e (inr j) = by (same q w.0) (found ws q e j) where
  by : (b : Bool) → (x : Entry) × (entry_in ws q ≡ Some x)
      → (x : Entry) × (cond b (Some w.1) (entry_in ws q) ≡ Some x)
  by true r = (w.1, refl)
  by false r = r

-- the names of the first things that main makes
abbrev pub names_to : ℕ → List Name
names_to zero = []
names_to (suc n) = child [] (suc n) ∷ names_to n

in_names : (m n : ℕ) → m < n → IsIn (child [] (suc m)) (names_to n)
in_names m zero l = absurd (omega arith)
in_names m (suc n) l =
    ⊎_elim (λ h. inr (in_names m n h)) (λ e. inl (ap (λ k. child [] (suc k)) e)) (split m n l)

names_count : (n : ℕ) → length (names_to n) ≡ n
names_count zero = refl
names_count (suc n) = ap suc (names_count n)

module _ (size limit : ℕ) where
  -- each node that is forked in k steps is one of these
  in_nodes : (i k : ℕ) → i < k → IsIn (node size limit i) (nodes size limit k)
  in_nodes i zero l = absurd (omega arith)
  in_nodes i (suc k) l =
      ⊎_elim (λ h. in_left (nodes size limit k) (node size limit i) (node size limit k) (in_nodes i k h))
      (λ e. in_right (nodes size limit k) (node size limit i) (node size limit k) (ap (node size limit) e))
      (split i k l)

  -- the nodes of k steps where they have stopped
  abbrev pub stopped : (left k : ℕ) → List (Point TaskState)
  stopped left zero = []
  stopped left (suc k) = node_stopped size limit k left 3 ∷ stopped left k

  -- each node has stopped so
  node_there : (left k : ℕ) (c : Task TaskState) → IsIn c (nodes size limit k)
      → (r : Point TaskState) × IsIn r (stopped left k) × (r.name ≡ c.name)
  node_there left zero c i = absurd i
  node_there left (suc k) c i =
      ⊎_elim (λ j. let r = node_there left k c j in (r.0, inr r.1, r.2))
      (λ e. (node_stopped size limit k left 3, inl refl, ap (λ (t : Task TaskState). t.name) (sym e)))
      (in_snoc (nodes size limit k) c (node size limit k) i)

  -- which of them one is
  pub which : (left k : ℕ) (p : Point TaskState) → IsIn p (stopped left k)
      → (i : ℕ) × (i < k) × (p ≡ node_stopped size limit i left 3)
  which left zero p i = absurd i
  which left (suc k) p (inl e) = (k, omega arith, e)
  which left (suc k) p (inr i) = let r = which left k p i in let l = r.1 in (r.0, omega arith, r.2)

-- ---- the run, in which main may begin n statements after its print, and each node has so many left

module _ (size limit : ℕ) (strict : Bool) (root : TaskState) (rounds : AreRounds (program strict root)) (n l : ℕ)
    (set : HasSet size limit strict root size n) (small : size ≤ 4000) (enough : limit ≡ suc (suc (suc l))) where
  -- main where it has set its first promise, from which its nodes are known
  abbrev here : Point TaskState
  here = setting size limit strict root size n set.t set.places

  -- each node is a task of some round, and its start is a point
  node_starts : (i : ℕ) → i < size → IsPoint strict root (start (node size limit i))
  node_starts i h =
      let is = (rounds.things here set.is).1 (node size limit i) (in_nodes size limit i size h) in
      (rounds.start.1 (node size limit i) is).1

  -- what each promise becomes, from the one before the chain on
  pub chain : (i : ℕ) → i ≤ size
      → Becomes (program strict root) (last_promise i) (entry.Value (value.Num (pos (sum_to i))))
  chain zero h = rounds.written here first (entry.Value (value.Num (pos 0))) set.is (inl refl)
  chain (suc i) h =
      rounds.written (node_stopped size limit i l 3) (promised i) (entry.Value (value.Num (pos (sum_to (suc i)))))
      (node_stops size limit strict root rounds.ask rounds.read i l (omega arith) enough
      (node_starts i (omega arith)) (chain i (omega arith))) (inl refl)

  node_point : (i : ℕ) → i < size → IsPoint strict root (node_stopped size limit i l 3)
  node_point i h =
      node_stops size limit strict root rounds.ask rounds.read i l (omega arith) enough (node_starts i h)
      (chain i (omega arith))

  -- main where it has stopped
  module _ (left places : ℕ) (end : Close) (result : Entry)
      (ends : IsPoint strict root (main_stopped size limit size set.t [] left places end result)) where
    abbrev main : Point TaskState
    main = main_stopped size limit size set.t [] left places end result

    -- all tasks
    abbrev all : List (Point TaskState)
    all = main ∷ stopped size limit l size

    each_point : (p : Point TaskState) → IsIn p all → IsPoint strict root p
    each_point p (inl e) = subst (IsPoint strict root) (sym e) ends
    each_point p (inr i) =
        let r = which size limit l size p i in subst (IsPoint strict root) (sym r.2) (node_point r.0 r.1)

    each_stopped : (E : Assignment) (p : Point TaskState) → IsIn p all → HasStopped E p
    each_stopped E p (inl e) = inl (end, ap (λ (z : Point TaskState). z.stage) e)
    each_stopped E p (inr i) =
        let r = which size limit l size p i in
        inl (close.Done (value.Num (pos (suc r.0))), ap (λ (z : Point TaskState). z.stage) r.2)

    each_child : (p : Point TaskState) (c : Task TaskState) → IsIn p all → IsIn c p.children
        → (d : ℕ) × (r : Point TaskState) × (slice_get all d ≡ Some r) × (r.name ≡ c.name)
    each_child p c (inl e) i =
        let j : IsIn c (nodes size limit size) = subst (λ (z : Point TaskState). IsIn c z.children) e i in
        let r = node_there size limit l size c j in
        let d = get_in all r.0 (inr r.1) in
        (d.0, r.0, d.1, r.2)
    each_child p c (inr k) i =
        let r = which size limit l size p k in
        absurd (subst (λ (z : Point TaskState). IsIn c z.children) r.2 i)

    -- what has become of each cell
    abbrev entries : List (Name × Entry)
    entries = flat_map (λ (p : Point TaskState). p.writes) all

    at_rest : IsAtRest (program strict root) (entry_in entries) (slice_get all)
    at_rest = record {
      root_there = (0, main, refl, refl);
      meant = λ c p e. each_point p (in_get all c p e);
      stopped = λ c p e. each_stopped (entry_in entries) p (in_get all c p e);
      forked = λ c p k e i. each_child p k (in_get all c p e) i;
      written = λ c p q x e i. found entries q x
          (in_flat_map (λ (z : Point TaskState). z.writes) p (q, x) all (in_get all c p e) i);
      entered = λ q x e.
          let r = from_flat_map (λ (z : Point TaskState). z.writes) (q, x) all (from_entry entries q x e) in
          rounds.written r.0 q x (each_point r.0 r.1) r.2;
    }

    -- the names of all cells
    abbrev names : List Name
    names = [] ∷ names_to (suc (double size))

    made_named : (q : Name) → HasMade main q → IsIn q names
    made_named q h =
        let r = ((rounds.made main ends).0 q).0 h in
        inr (subst (λ z. IsIn z (names_to (suc (double size)))) (sym r.2) (in_names r.0 (suc (double size)) r.1))

    each_named : (p : Point TaskState) → IsIn p all → IsIn p.name names
    each_named p (inl e) = inl (ap (λ (z : Point TaskState). z.name) e)
    each_named p (inr i) =
        let r = which size limit l size p i in
        subst (λ (z : Point TaskState). IsIn z.name names) (sym r.2)
        (made_named (forked r.0) (inr (node size limit r.0, in_nodes size limit r.0 size r.1, refl)))

    each_promise : (p : Point TaskState) (q : Name) → IsIn p all → IsIn q p.promises → IsIn q names
    each_promise p q (inl e) i = made_named q (inl (subst (λ (z : Point TaskState). IsIn q z.promises) e i))
    each_promise p q (inr k) i =
        let r = which size limit l size p k in
        absurd (subst (λ (z : Point TaskState). IsIn q z.promises) r.2 i)

    -- so where that fits, this is the meaning
    pub rests : (N : ℕ) → 2 * size + 2 ≤ N → (¬ IsFull (program strict root) N)
        × IsIn main (meaning (program strict root) N)
        × ((p : Point TaskState) → IsIn p (meaning (program strict root) N) → IsIn p all)
    rests N room =
        let e = entry_in entries in
        let a = names_count (suc (double size)) in
        let b = double_is size in
        let r = rounds.rest e (slice_get all) at_rest names (λ c p e. each_named p (in_get all c p e))
        (λ c p q e i. each_promise p q (in_get all c p e) i) N (omega arith) in
        let become = history (program strict root).rules (given (program strict root) (last_round N)) in
        let some = tasks (program strict root) (last_round N) in
        let main_is = r.2 0 main refl in (
          r.0,
          subst (λ p. IsIn p (meaning (program strict root) N)) (sym main_is.2)
              (to_map become main_is.0 some main_is.1),
          λ p i.
              let t = in_map become p some i in
              let c = r.3 t.0 t.1 in
              subst (λ z. IsIn z all) (sym t.2) (in_get all c.0 (become t.0) c.1),
        )

  -- with fewer cells it is full
  pub overflows : (N : ℕ) → N < 2 * size + 2 → IsFull (program strict root) N
  overflows N h =
      let t = set.is.0 in
      let n = set.is.1.0 in
      let m = set.is.2.0 in
      let there = (rounds.grows n (suc (n + m)) (omega arith)).0 t set.is.1.1 in
      let point = rounds.stays m (n + m) t here (omega arith) set.is.2.1 in
      let count = rounds.counts (n + m) t here there point in
      let twice = double_is size in
      (rounds.full N).0 (suc (suc (n + m)), omega arith)
