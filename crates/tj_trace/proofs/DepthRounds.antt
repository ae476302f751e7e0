-- Rounds whose tasks all end without an entry.
use Rattle.std.proofs.Common.{◌≡◌, ℕ, zero, suc, ◌+◌, ◌-◌, ◌*◌, ◌<◌, ◌≤◌, ◌⊎◌, inl, inr, List, [], ◌∷◌, ◌++◌, length}
use Rattle.std.proofs.Common.{refl, sym, ap, ◌∙◌, subst, arith, append-nil}
use Rattle.std.specs.List.{flat_map}
use Rattle.tj_base.specs.ForkOrder.{Name}
use Rattle.tj_body.specs.History.{Assignment, history}
use Rattle.tj_body.specs.Points.{HasEnded, IsIn, IsProper, IsWithin}
use Rattle.tj_body.specs.Programs.{AreLawful, Program, Rules, root_task}
use Rattle.tj_body.specs.Rounds.{cells, cells_by, family, given, tasks}
use Rattle.tj_body.specs.declared.point.Task.{Task}
use Rattle.tj_body.specs.declared.point.Point.{Point}
use Rattle.tj_body.proofs.Histories.Good.{good}
use Rattle.tj_body.proofs.Histories.Grows.{ended_same}
use Rattle.tj_body.proofs.Lists.{from_flat_map, in_flat_map}
use Rattle.tj_mean.specs.FirstFull.{IsFirstFull}
use Rattle.tj_trace.specs.Inner.TaskDepths.{AreAsInRound, IsDepthTaken, IsFullDepth, below, made_of, nothing}
use Rattle.tj_trace.proofs.DepthLists.{depth, family_in, family_made, made_above, made_first, made_more}

-- what two functions make of a list on which they agree
flat_map_same : {A C : Type 0} (f g : A → List C) (xs : List A) → ((x : A) → IsIn x xs → f x ≡ g x)
    → flat_map f xs ≡ flat_map g xs
flat_map_same f g [] h = refl
flat_map_same f g (x ∷ xs) h =
    ap (λ l. l ++ flat_map f xs) (h x (inl refl)) ∙ ap (λ l. g x ++ l) (flat_map_same f g xs (λ y i. h y (inr i)))

module _ {B : Type 0} (rules : Rules B) (W : Assignment) where
  nothing_within : IsWithin nothing W
  nothing_within q e h = absurd (cc)

  -- a history that has ended without an entry is the same under each assignment
  pub ended_alike : (t : Task B) → HasEnded (history rules nothing t) → history rules nothing t ≡ history rules W t
  ended_alike t e = ended_same rules nothing W nothing_within t (2 * suc (rules.left t.body)) e.0 e.1

  -- a family whose histories are the same is the same
  pub family_alike : (d : ℕ) (t : Task B)
      → ((x : Task B) → IsIn x (family rules nothing d t) → history rules nothing x ≡ history rules W x)
      → family rules nothing d t ≡ family rules W d t
  family_alike zero t h = refl
  family_alike (suc d) t h =
      let cs = (history rules nothing t).children in
      ap (λ l. t ∷ l)
      (flat_map_same (family rules nothing d) (family rules W d) cs
      (λ c i. family_alike d c (λ x j. h x (inr (in_flat_map (family rules nothing d) c x cs i j))))
      ∙ ap (λ (p : Point B). flat_map (family rules W d) p.children) (h t (inl refl)))

module _ {B : Type 0} (program : Program B) where
  abbrev root : List (Task B)
  root = root_task program.root ∷ []

  abbrev of_depth : ℕ → List (Task B)
  of_depth d = depth program.rules root d

  abbrev above : ℕ → ℕ
  above d = made_above program.rules root d

  -- the tasks of all depths before this one have ended, and so much room is left of what is one more than N
  pub record AreReached (N : ℕ) (ts : List (Task B)) (room d : ℕ) : Type 0 where
    pub tasks_are : ts ≡ of_depth d
    pub room_is : room ≡ suc N - above d
    pub some_room : 0 < room
    pub no_deeper : d ≤ above d
    pub ended : (e : ℕ) → e < d → (t : Task B) → IsIn t (of_depth e) → HasEnded (history program.rules nothing t)

  -- at first the root is there
  pub root_reached : (N : ℕ) (ts : List (Task B)) → ts ≡ root → AreReached N ts (suc N) 0
  root_reached N ts e = record {
    tasks_are = e;
    room_is = omega arith;
    some_room = omega arith;
    no_deeper = omega arith;
    ended = λ e l t i. absurd (omega arith);
  }

  -- tasks of each depth are as forks make them
  pub depth_proper : AreLawful program.rules → IsProper program.rules (root_task program.root) → (d : ℕ) (t : Task B)
      → IsIn t (of_depth d) → IsProper program.rules t
  depth_proper obeys proper zero t (inl e) = subst (IsProper program.rules) (sym e) proper
  depth_proper obeys proper zero t (inr i) = absurd i
  depth_proper obeys proper (suc d) t i =
      let f = from_flat_map (λ x. (history program.rules nothing x).children) t (of_depth d) i in
      (good program.rules obeys nothing f.0 (depth_proper obeys proper d f.0 f.1)
      (2 * suc (program.rules.left f.0.body))).children t f.2

  some_made : (ts : List (Task B)) → 0 < length ts → 0 < made_of program.rules ts
  some_made [] l = absurd (omega arith)
  some_made (t ∷ ts) l = omega arith

  module _ (N : ℕ) (ts : List (Task B)) (room d : ℕ) (h : AreReached N ts room d) (left : ℕ) (children : List (Task B))
      (k : IsDepthTaken program.rules ts room left children) where
    made_now : made_of program.rules ts ≡ made_of program.rules (of_depth d)
    made_now = ap (made_of program.rules) h.tasks_are

    ended_too : (e : ℕ) → e < suc d → (t : Task B) → IsIn t (of_depth e) → HasEnded (history program.rules nothing t)
    ended_too e l t i = by (before e d l) where
      before : (e d : ℕ) → e < suc d → (e < d) ⊎ (e ≡ d)
      before zero zero l = inr refl
      before zero (suc d) l = inl (omega arith)
      before (suc e) zero l = absurd (omega arith)
      before (suc e) (suc d) l = next (before e d (omega arith)) where
        next : (e < d) ⊎ (e ≡ d) → (suc e < suc d) ⊎ (suc e ≡ suc d)
        next (inl m) = inl (omega arith)
        next (inr m) = inr (ap suc m)

      by : (e < d) ⊎ (e ≡ d) → HasEnded (history program.rules nothing t)
      by (inl m) = h.ended e m t i
      by (inr m) = k.ended t (subst (IsIn t) (ap of_depth m ∙ sym h.tasks_are) i)

    -- the tasks of the next depth are there
    pub next_reached : 0 < length ts → ¬ (left ≡ 0) → AreReached N children left (suc d)
    next_reached some more = record {
      tasks_are = k.children_are (omega arith) ∙ ap (below program.rules) h.tasks_are;
      room_is = let a = k.left_is in let b = h.room_is in let c = made_now in omega arith;
      some_room = omega arith;
      no_deeper = let a = some_made ts some in let b = h.no_deeper in let c = made_now in omega arith;
      ended = ended_too;
    }

    -- there is less room
    pub less_room : 0 < length ts → left < room
    less_room some = let a = some_made ts some in let b = k.left_is in let c = h.some_room in omega arith

    -- a depth isn't more than the limit
    pub few_depths : d ≤ N
    few_depths = let a = h.no_deeper in let b = h.room_is in let c = h.some_room in omega arith

    module _ (n : ℕ) where
      abbrev W : Assignment
      W = given program n

      -- a task of so many depths does the same in round n + 1
      same_there : (m : ℕ) → m ≤ d → (t : Task B) → IsIn t (family program.rules nothing m (root_task program.root))
          → history program.rules nothing t ≡ history program.rules W t
      same_there m l t i =
          let f = family_in program.rules m (root_task program.root) t i in
          let g = f.1 in
          ended_alike program.rules W t (ended_too f.0 (omega arith) t f.2)

      same_tasks : suc n ≤ d → family program.rules nothing (suc n) (root_task program.root) ≡ tasks program (suc n)
      same_tasks l = family_alike program.rules W (suc n) (root_task program.root) (same_there (suc n) l)

      -- so many cells has round n + 1
      cells_length : suc n ≤ d → length (cells program (suc n)) ≡ above (suc (suc n))
      cells_length l =
          let fs = family program.rules nothing (suc n) (root_task program.root) in
          ap (λ (ts : List (Task B)). length (flat_map (cells_by program.rules W) ts)) (sym (same_tasks l))
          ∙ ap (λ (qs : List Name). length qs)
          (sym (flat_map_same (cells_by program.rules nothing) (cells_by program.rules W) fs
          (λ t i. ap (λ (p : Point B). t.name ∷ p.promises) (same_there (suc n) l t i))))
          ∙ family_made program.rules (suc n) (root_task program.root)

    above_le : (m j : ℕ) → m ≤ j → above m ≤ above j
    above_le m j l =
        subst (λ x. above m ≤ above x) (let z : (j - m) + m ≡ j = omega arith in z)
        (made_more program.rules root m (j - m))

    module _ (none_left : left ≡ 0) where
      many : N < above (suc d)
      many = let a = k.left_is in let b = h.room_is in let c = made_now in let e = h.some_room in omega arith

      first_before : (m : ℕ) → m < d → length (cells program m) ≤ N
      first_before zero l = omega arith
      first_before (suc m) l =
          let a = cells_length m (omega arith) in
          let b = above_le (suc (suc m)) d (omega arith) in
          let c = h.room_is in
          let e = h.some_room in
          omega arith

      -- the round is full that follows so many forks
      full_after : (n : ℕ) → d ≡ suc n → IsFullDepth program N (suc n)
      full_after n e = record {
        first = record {
          full = let a = cells_length n (omega arith) in let b = many in
              let c = ap (λ x. above (suc x)) e in omega arith;
          first = λ m l. first_before m (omega arith);
        };
        entries = record {
          before = n;
          number_is = refl;
          alike = λ t i. same_there n (suc n) (omega arith) t (subst (IsIn t) (sym (same_tasks n (omega arith))) i);
        };
      }

      pub full_at : ¬ (d ≡ 0) → IsFullDepth program N d
      full_at some = subst (IsFullDepth program N) (let z : suc (d - 1) ≡ d = omega arith in z)
          (full_after (d - 1) (omega arith))

      -- the root alone fills the first one
      pub full_at_root : d ≡ 0 → IsFullDepth program N 1
      full_at_root e = record {
        first = record {
          full = let a = family_made program.rules 1 (root_task program.root) in
              let b = above_le 1 2 (omega arith) in let c = many in let g = ap (λ x. above (suc x)) e in omega arith;
          first = none_before;
        };
        entries = record { before = 0; number_is = refl; alike = λ t i. refl };
      }
        where
          none_before : (m : ℕ) → m < 1 → length (cells program m) ≤ N
          none_before zero l = omega arith
          none_before (suc m) l = absurd (omega arith)

module _ {B : Type 0} (program : Program B) where
  -- each task makes a cell or more
  as_many : (ts : List (Task B)) → length ts ≤ made_of program.rules ts
  as_many [] = omega arith
  as_many (t ∷ ts) =
      let a = as_many ts in
      let b = made_first program.rules t ts in
      omega arith

  -- where the root forks more tasks than the limit, the first round is full
  pub full_of_children : (N : ℕ)
      → N < length (history program.rules nothing (root_task program.root)).children → IsFullDepth program N 1
  full_of_children N many =
      let cs = (history program.rules nothing (root_task program.root)).children in
      record {
        first = record {
          full = let a = family_made program.rules 1 (root_task program.root) in
              let b = as_many (depth program.rules (root_task program.root ∷ []) 1) in
              let c = ap (λ (l : List (Task B)). length l) (append-nil cs) in omega arith;
          first = none_before;
        };
        entries = record { before = 0; number_is = refl; alike = λ t i. refl };
      }
    where
      none_before : (m : ℕ) → m < 1 → length (cells program m) ≤ N
      none_before zero l = omega arith
      none_before (suc m) l = absurd (omega arith)

  -- so it is where the root's history has them, under a map without entries
  pub full_by_children : (N : ℕ) (p : Point B) (V : Assignment) → V ≡ nothing
      → p ≡ history program.rules V (root_task program.root) → N < length p.children → IsFullDepth program N 1
  full_by_children N p V none is many = full_of_children N (subst (λ (q : Point B). N < length q.children)
      (is ∙ ap (λ W. history program.rules W (root_task program.root)) none) many)

  -- under the entries of the round before each task does what it does in the round
  pub as_in_round : (number : ℕ) (V : Assignment) → (n : ℕ) × (number ≡ suc n) × (V ≡ given program n)
      → AreAsInRound program number V
  as_in_round number V h =
      record { before = h.0; number_is = h.1; alike = λ t i. ap (λ W. history program.rules W t) h.2 }
