-- The cells of tasks with points in rounds: each once, as long as each child of a point is one of the tasks.
use Rattle.std.proofs.Common.{◌≡◌, ℕ, zero, suc, ◌+◌, ◌<◌, ◌≤◌, ◌⊎◌, inl, inr, List, [], ◌∷◌, ◌++◌, map, length}
use Rattle.std.proofs.Common.{get_or, drop, refl, sym, ap, subst, arith, length-append}
use Rattle.std.specs.List.{flat_map}
use native.Mathlib.Decide.{dec_le}
use mathlib.Core.Logic.{dite}
use Rattle.tj_base.specs.ForkOrder.{Name, child}
use Rattle.tj_body.specs.Laws.{AreDistinct}
use Rattle.tj_body.specs.Points.{IsIn, IsProper}
use Rattle.tj_body.specs.Programs.{Program, AreLawful, root_task}
use Rattle.tj_body.specs.RoundPoints.{HasMade, InRounds, IsOfRounds}
use Rattle.tj_body.specs.Rounds.{given, IsFull}
use Rattle.tj_body.specs.declared.point.Task.{Task}
use Rattle.tj_body.specs.declared.point.Point.{Point}
use Rattle.tj_body.proofs.Histories.Accounts.{numbered, fair}
use Rattle.tj_body.proofs.Counts.{is, times, times_map, total, total_append, total_in, total_flat_map, fewer}
use Rattle.tj_body.proofs.Counts.{in_of_times, times_of_in, is_one, distinct_of_times, times_of_distinct}
use Rattle.tj_body.proofs.Lists.{in_either, in_map, to_map, in_right, in_flat_map, from_flat_map}
use Rattle.tj_body.proofs.RoundPoints.{name_in_rounds, tasks_start, things_in_rounds, things_are_made}
use Rattle.tj_body.proofs.Rounds.Settles.{full_where}

module _ {A : Type 0} where
  -- a sum over a list of what is smaller at each element
  pub total_le_in : (f g : A → ℕ) (l : List A) → ((x : A) → IsIn x l → f x ≤ g x) → total f l ≤ total g l
  total_le_in f g [] h = omega arith
  total_le_in f g (x ∷ xs) h =
      let a = h x (inl refl) in let b = total_le_in f g xs (λ y i. h y (inr i)) in omega arith

  total_zero : (l : List A) → total (λ x. 0) l ≡ 0
  total_zero [] = refl
  total_zero (x ∷ xs) = let h = total_zero xs in omega arith

-- a name that isn't the root's is that of a thing
last_of : (x : ℕ) (xs : Name) → (y : Name) × (k : ℕ) × (x ∷ xs ≡ child y k) × (length y ≡ length xs)
last_of x [] = ([], x, refl, refl)
last_of x (z ∷ zs) = let r = last_of z zs in (x ∷ r.0, r.1, ap (λ l. x ∷ l) r.2, ap suc r.3)

child_length : (x : Name) (k : ℕ) → length (child x k) ≡ suc (length x)
child_length x k = let a = length-append x (k ∷ []) in omega arith

-- things with one name have one maker
pub same_maker : (x y : Name) (j k : ℕ) → child x j ≡ child y k → x ≡ y
same_maker [] [] j k e = refl
same_maker [] (y ∷ ys) j k e =
    let l = ap (λ (z : Name). length z) e in let a = child_length ys k in absurd (omega arith)
same_maker (x ∷ xs) [] j k e =
    let l = ap (λ (z : Name). length z) e in let a = child_length xs j in absurd (omega arith)
same_maker (x ∷ xs) (y ∷ ys) j k e =
    let h : x ≡ y = ap (λ (z : Name). get_or z 0 0) e in
    let t = same_maker xs ys j k (ap (λ (z : Name). drop 1 z) e) in λ i. h i ∷ t i

not_root : (y : Name) (k : ℕ) → is (child y k) [] ≡ 0
not_root [] k = refl
not_root (y ∷ ys) k = refl

numbered_length : (x : Name) (m : ℕ) → length (numbered x m) ≡ m
numbered_length x zero = refl
numbered_length x (suc m) = ap suc (numbered_length x m)

module _ {B : Type 0} where
  -- the names of the tasks
  abbrev pub names_of : List (Task B) → List Name
  names_of cs = map (λ c. c.name) cs

  -- the names of the points' tasks
  abbrev pub names_at : List (Point B) → List Name
  names_at ps = map (λ p. p.name) ps

  -- the names of all that the point has made
  abbrev pub things : Point B → List Name
  things p = names_of p.children ++ p.promises

  -- how often a name is that of a child of the points
  abbrev pub forked : Name → List (Point B) → ℕ
  forked q ps = total (λ p. times q (names_of p.children)) ps

  -- how many things the points have made
  abbrev pub made_by : List (Point B) → ℕ
  made_by ps = total (λ p. p.made) ps

  -- the cells of the tasks: the root's, and all that they have made
  abbrev pub cells_at : List (Point B) → List Name
  cells_at ps = [] ∷ flat_map things ps

  -- each task is the root or the child of one of them, and each child is a task or pending, as often
  abbrev pub AreNamed : List (Point B) → List Name → Type 0
  AreNamed ps pending = (q : Name) → times q (names_at ps) + times q pending ≡ is q [] + forked q ps

  forked_things : (q : Name) (p : Point B) → times q (names_of p.children) ≤ times q (things p)
  forked_things q p = let a = total_append (is q) (names_of p.children) p.promises in omega arith

module _ {B : Type 0} (program : Program B) (obeys : AreLawful program.rules)
    (proper : IsProper program.rules (root_task program.root)) where
  module _ (p : Point B) (h : IsOfRounds program p) where
    once_in : (q : Name) → times q (things p) ≤ 1
    once_in q = times_of_distinct q (things p) (things_are_made program obeys proper p h).1

    thing_of : (q : Name) → 1 ≤ times q (things p) → (k : ℕ) × (q ≡ child p.name (suc k))
    thing_of q l = by (in_either q (names_of p.children) p.promises (in_of_times q (things p) l)) where
      made : HasMade p q → (k : ℕ) × (q ≡ child p.name (suc k))
      made m = let r = ((things_are_made program obeys proper p h).0 q).0 m in (r.0, r.2)

      by : IsIn q (names_of p.children) ⊎ IsIn q p.promises → (k : ℕ) × (q ≡ child p.name (suc k))
      by (inl i) = let r = in_map (λ (c : Task B). c.name) q p.children i in made (inr (r.0, r.1, sym r.2))
      by (inr i) = made (inl i)

    root_made : times [] (things p) ≤ 0
    root_made =
        dite (dec_le 1 (times [] (things p)))
        (λ l. let m = thing_of [] l in let a = ap (λ (z : Name). length z) m.1 in
        let b = child_length p.name (suc m.0) in absurd (omega arith))
        (λ n. omega arith)

    child_made : (y : Name) (j : ℕ) → times (child y j) (things p) ≤ is y p.name
    child_made y j =
        dite (dec_le 1 (times (child y j) (things p)))
        (λ l. let m = thing_of (child y j) l in
        let s = is_one y p.name (same_maker y p.name j (suc m.0) m.1) in
        let o = once_in (child y j) in omega arith)
        (λ n. omega arith)

    made_as : (q : Name) → times q (things p) ≡ times q (numbered p.name p.made)
    made_as q =
        let a = total_append (is q) (names_of p.children) p.promises in
        let b = times_map (λ (c : Task B). c.name) q p.children in
        let c = subst (λ (z : Point B). total (λ (c : Task B). is q c.name) z.children + times q z.promises
        ≡ times q (numbered z.name z.made)) (sym h.2.1.1)
        (fair q (is q) program.rules (given program h.2.0) h.2.1.0 h.0).1 in
        omega arith

    things_length : length (things p) ≡ p.made
    things_length =
        let a = fewer (things p) (numbered p.name p.made) (λ q. let e = made_as q in omega arith) in
        let b = fewer (numbered p.name p.made) (things p) (λ q. let e = made_as q in omega arith) in
        let c = numbered_length p.name p.made in
        omega arith

    thing_in_rounds : (q : Name) → IsIn q (things p) → InRounds program q
    thing_in_rounds q i = by (in_either q (names_of p.children) p.promises i) where
      by : IsIn q (names_of p.children) ⊎ IsIn q p.promises → InRounds program q
      by (inl j) =
          let r = in_map (λ (c : Task B). c.name) q p.children j in
          let s = (things_in_rounds program obeys proper p h).1 r.0 r.1 in
          subst (InRounds program) (sym r.2) (name_in_rounds program r.0 s)
      by (inr j) = (things_in_rounds program obeys proper p h).0 q j

  flat_length : (ps : List (Point B)) → ((p : Point B) → IsIn p ps → IsOfRounds program p)
      → length (flat_map things ps) ≡ made_by ps
  flat_length [] h = refl
  flat_length (p ∷ ps) h =
      let a = length-append (things p) (flat_map things ps) in
      let b = things_length p (h p (inl refl)) in
      let c = flat_length ps (λ q i. h q (inr i)) in
      omega arith

  module _ (ps : List (Point B)) (pending : List Name) (of_rounds : (p : Point B) → IsIn p ps → IsOfRounds program p)
      (named : AreNamed ps pending) where
    abbrev made_times : Name → ℕ
    made_times q = total (λ (p : Point B). times q (things p)) ps

    forked_made : (q : Name) → forked q ps ≤ made_times q
    forked_made q = total_le_in (λ (p : Point B). times q (names_of p.children)) (λ p. times q (things p)) ps
        (λ p i. forked_things q p)

    names_times : (q : Name) → times q (names_at ps) ≤ is q [] + made_times q
    names_times q = let a = named q in let b = forked_made q in omega arith

    pub once : (n : ℕ) (q : Name) → length q ≤ n → is q [] + made_times q ≤ 1
    once n [] l =
        let a = total_le_in (λ (p : Point B). times [] (things p)) (λ p. 0) ps
        (λ p i. root_made p (of_rounds p i)) in
        let b = total_zero ps in
        let c = is_one [] [] refl in
        omega arith
    once zero (x ∷ xs) l = absurd (omega arith)
    once (suc n) (x ∷ xs) l =
        let r = last_of x xs in
        subst (λ z. is z [] + made_times z ≤ 1) (sym r.2) (by r.0 r.1 (once n r.0 (let e = r.3 in omega arith))) where
          by : (y : Name) (k : ℕ) → is y [] + made_times y ≤ 1 → is (child y k) [] + made_times (child y k) ≤ 1
          by y k h =
              let a = total_le_in (λ (p : Point B). times (child y k) (things p)) (λ p. is y p.name) ps
              (λ p i. child_made p (of_rounds p i) y k) in
              let b = times_map (λ (p : Point B). p.name) y ps in
              let c = names_times y in
              let d = not_root y k in
              omega arith

    -- no two tasks have one name
    pub names_distinct : AreDistinct (names_at ps)
    names_distinct = distinct_of_times (names_at ps)
        (λ q. let a = names_times q in let b = once (length q) q (omega arith) in omega arith)

    times_cells : (q : Name) → times q (cells_at ps) ≡ is q [] + made_times q
    times_cells q = let a = total_flat_map (is q) (λ (p : Point B). things p) ps in omega arith

    -- no cell stands twice
    cells_distinct : AreDistinct (cells_at ps)
    cells_distinct = distinct_of_times (cells_at ps)
        (λ q. let a = times_cells q in let b = once (length q) q (omega arith) in omega arith)

    cells_in_rounds : (q : Name) → IsIn q (cells_at ps) → InRounds program q
    cells_in_rounds q (inl e) =
        subst (InRounds program) (sym e)
        (name_in_rounds program (root_task program.root) (tasks_start program).0)
    cells_in_rounds q (inr i) =
        let r = from_flat_map (λ (p : Point B). things p) q ps i in
        thing_in_rounds r.0 (of_rounds r.0 r.1) q r.2

    -- there is one for the root, and one for each thing made
    pub cells_length : length (cells_at ps) ≡ suc (made_by ps)
    cells_length = ap suc (flat_length ps of_rounds)

    -- more than N of them: the meaning is full
    pub full_at : (N : ℕ) → N < suc (made_by ps) → IsFull program N
    full_at N l =
        let a = cells_length in
        full_where program N (cells_at ps) cells_distinct cells_in_rounds (omega arith)

    -- the tasks and their promises are among them
    pub name_there : (p : Point B) → IsIn p ps → IsIn p.name (cells_at ps)
    name_there p i =
        let a = times_of_in p.name (names_at ps) (to_map (λ (x : Point B). x.name) p ps i) in
        let b = names_times p.name in
        let c = times_cells p.name in
        in_of_times p.name (cells_at ps) (omega arith)

    pub promise_there : (p : Point B) (q : Name) → IsIn p ps → IsIn q p.promises → IsIn q (cells_at ps)
    promise_there p q i j =
        inr (in_flat_map (λ (x : Point B). things x) p q ps i (in_right q (names_of p.children) p.promises j))

  -- where nothing is pending, the root and each child are there
  module _ (ps : List (Point B)) (named : AreNamed ps []) where
    named_there : (q : Name) → 1 ≤ is q [] + forked q ps → (p : Point B) × IsIn p ps × (p.name ≡ q)
    named_there q l =
        let a = named q in
        let r = in_map (λ (p : Point B). p.name) q ps (in_of_times q (names_at ps) (omega arith)) in
        (r.0, r.1, sym r.2)

    pub root_there : (p : Point B) × IsIn p ps × (p.name ≡ [])
    root_there = named_there [] (let a = is_one [] [] refl in omega arith)

    pub child_there : (p : Point B) (c : Task B) → IsIn p ps → IsIn c p.children
        → (r : Point B) × IsIn r ps × (r.name ≡ c.name)
    child_there p c i j =
        let a = times_of_in c.name (names_of p.children) (to_map (λ (x : Task B). x.name) c p.children j) in
        let b = total_in (λ (x : Point B). times c.name (names_of x.children)) p ps i in
        named_there c.name (omega arith)
