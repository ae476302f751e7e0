-- Tasks of a round that are taken one by one.
use Rattle.std.proofs.Common.{◌≡◌, ℕ, zero, suc, ◌≤◌, ◌⊎◌, List, [], ◌∷◌, ◌++◌, length, take, inl, inr}
use Rattle.std.proofs.Common.{refl, sym, ap, ◌∙◌}
use Rattle.std.proofs.Common.{subst, append_assoc, append-nil, arith, length-append}
use Rattle.std.proofs.lemmas.List.{nil_from_length}
use Rattle.std.specs.List.{flat_map}
use Rattle.tj_base.specs.declared.cell.Sort.TheVariants as sort
use Rattle.tj_body.specs.History.{Assignment, history}
use Rattle.tj_body.specs.Points.{IsIn}
use Rattle.tj_body.specs.Programs.{Program, root_task}
use Rattle.tj_body.specs.Rounds.{family, given, tasks}
use Rattle.tj_body.specs.declared.point.Task.{Task}
use Rattle.tj_body.proofs.Lists.{in_either, in_left, in_right, in_flat_map}
use Rattle.tj_trace.specs.Inner.RoundMakers.{IsTaken, forked_makers, made_below, made_by, still_makers, with_below}
use Rattle.tj_trace.specs.declared.found.Found.{Found}
use Rattle.tj_trace.specs.declared.line.Maker.{Maker}
use Rattle.tj_trace.specs.Logs.{Logged}

take_front : {A : Type 0} (xs ys : List A) (n : ℕ) → n ≤ length xs → take n (xs ++ ys) ≡ take n xs
take_front [] [] zero l = refl
take_front [] (y ∷ ys) zero l = refl
take_front [] ys (suc n) l = absurd (omega arith)
take_front (x ∷ xs) ys zero l = refl
take_front (x ∷ xs) ys (suc n) l = ap (λ z. x ∷ z) (take_front xs ys n (omega arith))

module _ {B : Type 0} (below : ℕ → Task B → List Maker) where
  -- what is below the last pending task comes first
  pub still_last : (ws : List (Found B)) (w : Found B)
      → still_makers below (ws ++ w ∷ []) ≡ w.maker ∷ below w.depth w.task ++ still_makers below ws
  still_last [] w = sym (append-nil (w.maker ∷ below w.depth w.task))
  still_last (x ∷ ws) w =
      ap (λ z. z ++ x.maker ∷ below x.depth x.task) (still_last ws w)
      ∙ append_assoc (w.maker ∷ below w.depth w.task) (still_makers below ws) (x.maker ∷ below x.depth x.task)

module _ (program : Program Logged) (n : ℕ) where
  abbrev V : Assignment
  V = given program n

  abbrev of_round : ℕ → Task Logged → List (Task Logged)
  of_round d t = family program.rules V d t

  abbrev below : ℕ → Task Logged → List Maker
  below d t = made_below program.rules V d t

  abbrev promises_by : Task Logged → List Maker
  promises_by t = made_by program.rules V sort.Promise t

  abbrev forked : ℕ → Task Logged → List Maker
  forked d t = forked_makers below d (made_by program.rules V sort.Task t) (history program.rules V t).children

  -- what made the cells below a task, its promises first
  below_begins : (d : ℕ) (t : Task Logged) → below d t ≡ promises_by t ++ forked d t
  below_begins zero t = sym (append-nil (promises_by t))
  below_begins (suc d) t = refl

  -- what was gathered, and what made the cells of the pending tasks and below them, are together the round's; and the
  -- pending tasks with those below them are of the round
  pub record IsGathered (pending : List (Found Logged)) (makers : List Maker) : Type 0 where
    pub whole : makers ++ still_makers below pending ≡ below (suc n) (root_task program.root)
    pub of_round : (w : Found Logged) → IsIn w pending → (t : Task Logged)
        → IsIn t (family program.rules V w.depth w.task) → IsIn t (tasks program (suc n))

  -- it is a child of the task
  abbrev IsFrom : ℕ → Task Logged → Found Logged → Type 0
  IsFrom d t w = (suc w.depth ≡ d) × IsIn w.task (history program.rules V t).children

  child_family : (d : ℕ) (t : Task Logged) (w : Found Logged) → IsFrom d t w → (x : Task Logged)
      → IsIn x (of_round w.depth w.task) → IsIn x (of_round d t)
  child_family zero t w f x i = absurd (omega (arith, f.0))
  child_family (suc d) t w f x i =
      inr (in_flat_map (of_round d) w.task x (history program.rules V t).children f.1
      (subst (λ k. IsIn x (of_round k w.task)) (let e = f.0 in omega arith) i))

  -- at first the root is taken
  pub begins_gathered : (pending : List (Found Logged)) (makers : List Maker)
      → IsTaken (history program.rules V (root_task program.root)) (suc n) [] pending [] makers
      → IsGathered pending makers
  begins_gathered pending makers h = record {
    whole = ap (λ l. l ++ still_makers below pending) h.made
        ∙ ap (λ l. promises_by (root_task program.root) ++ l)
        (h.still below ∙ append-nil (forked (suc n) (root_task program.root)))
        ∙ sym (below_begins (suc n) (root_task program.root));
    of_round = λ w i t j. by w (h.from w i) t j;
  }
    where
      by : (w : Found Logged) → IsIn w [] ⊎ IsFrom (suc n) (root_task program.root) w → (t : Task Logged)
          → IsIn t (of_round w.depth w.task) → IsIn t (tasks program (suc n))
      by w (inl i) t j = absurd i
      by w (inr f) t j = child_family (suc n) (root_task program.root) w f t j

  module _ (pending : List (Found Logged)) (makers : List Maker) (u : IsGathered pending makers) where
    -- where there are enough, they are the first ones
    pub enough_gathered : (N : ℕ) → N ≤ length makers → take N makers ≡ take N (below (suc n) (root_task program.root))
    enough_gathered N l =
        sym (ap (λ z. take N z) (sym u.whole) ∙ take_front makers (still_makers below pending) N l)

    -- where nothing is pending, they are all
    pub all_gathered : pending ≡ [] → makers ≡ below (suc n) (root_task program.root)
    all_gathered e =
        sym (sym u.whole ∙ ap (λ l. makers ++ still_makers below l) e ∙ append-nil makers)

    module _ (ws : List (Found Logged)) (w : Found Logged) (stack : pending ≡ ws ++ w ∷ []) where
      last_there : IsIn w pending
      last_there = subst (IsIn w) (sym stack) (in_right w ws (w ∷ []) (inl refl))

      family_self : (d : ℕ) (t : Task Logged) → IsIn t (of_round d t)
      family_self zero t = inl refl
      family_self (suc d) t = inl refl

      -- the task that is taken next is one of the round
      pub next_gathered : IsIn w.task (tasks program (suc n))
      next_gathered = u.of_round w last_there w.task (family_self w.depth w.task)

      -- what is still to come, the last task first
      still_there : makers ++ (w.maker ∷ (below w.depth w.task ++ still_makers below ws))
          ≡ makers ++ still_makers below pending
      still_there = sym (ap (λ l. makers ++ still_makers below l) stack ∙ ap (λ l. makers ++ l) (still_last below ws w))

      module _ (pending' : List (Found Logged)) (makers' : List Maker)
          (h : IsTaken (history program.rules V w.task) w.depth ws pending' (makers ++ w.maker ∷ []) makers') where
        front : makers' ++ still_makers below pending'
            ≡ (makers ++ w.maker ∷ []) ++ (promises_by w.task ++ (forked w.depth w.task ++ still_makers below ws))
        front = ap (λ l. l ++ still_makers below pending') h.made
            ∙ ap (λ l. ((makers ++ w.maker ∷ []) ++ promises_by w.task) ++ l) (h.still below)
            ∙ append_assoc (makers ++ w.maker ∷ []) (promises_by w.task)
            (forked w.depth w.task ++ still_makers below ws)

        one_task : promises_by w.task ++ (forked w.depth w.task ++ still_makers below ws)
            ≡ below w.depth w.task ++ still_makers below ws
        one_task = sym (ap (λ l. l ++ still_makers below ws) (below_begins w.depth w.task)
            ∙ append_assoc (promises_by w.task) (forked w.depth w.task) (still_makers below ws))

        all_there : makers' ++ still_makers below pending' ≡ makers ++ still_makers below pending
        all_there = front
            ∙ append_assoc makers (w.maker ∷ [])
            (promises_by w.task ++ (forked w.depth w.task ++ still_makers below ws))
            ∙ ap (λ l. makers ++ (w.maker ∷ l)) one_task
            ∙ still_there

        -- what stands when it was taken
        pub takes_gathered : IsGathered pending' makers'
        takes_gathered = record { whole = all_there ∙ u.whole; of_round = λ x i. by x (h.from x i) } where
          by : (x : Found Logged) → IsIn x ws ⊎ IsFrom w.depth w.task x → (t : Task Logged)
              → IsIn t (of_round x.depth x.task) → IsIn t (tasks program (suc n))
          by x (inl i) t j = u.of_round x (subst (IsIn x) (sym stack) (in_left x ws (w ∷ []) i)) t j
          by x (inr g) t j = u.of_round w last_there t (child_family w.depth w.task x g t j)

module _ {B : Type 0} where
  -- children that were taken from the end are pending, the first of them last
  pub record IsPushed (d : ℕ) (all_makers ms : List Maker) (all_children cs : List (Task B))
      (before pending : List (Found B)) : Type 0 where
    pub forks : List Maker
    pub taken : List (Task B)
    pub all_forks : all_makers ≡ ms ++ forks
    pub all_taken : all_children ≡ cs ++ taken
    pub as_many : length ms ≡ length cs
    pub made : (below : ℕ → Task B → List Maker)
        → still_makers below pending ≡ with_below (below d) forks taken ++ still_makers below before
    pub from : (w : Found B) → IsIn w pending → IsIn w before ⊎ ((w.depth ≡ d) × IsIn w.task taken)

  -- at first none is
  pub none_pushed : (d : ℕ) (ms : List Maker) (cs : List (Task B)) (before : List (Found B)) → length ms ≡ length cs
      → IsPushed d ms ms cs cs before before
  none_pushed d ms cs before e = record {
    forks = [];
    taken = [];
    all_forks = sym (append-nil ms);
    all_taken = sym (append-nil cs);
    as_many = e;
    made = λ below. refl;
    from = λ w i. inl i;
  }

  module _ (d : ℕ) (all_makers ms : List Maker) (all_children cs : List (Task B)) (before pending : List (Found B))
      (h : IsPushed d all_makers ms all_children cs before pending) where
    -- the last child is pushed with what forked it
    pub pushes_one : (ms' : List Maker) (cs' : List (Task B)) (m : Maker) (c : Task B) → ms ≡ ms' ++ m ∷ []
        → cs ≡ cs' ++ c ∷ [] → (pending' : List (Found B))
        → pending' ≡ pending ++ record { task = c; maker = m; depth = d } ∷ []
        → IsPushed d all_makers ms' all_children cs' before pending'
    pushes_one ms' cs' m c e f pending' g = record {
      forks = m ∷ h.forks;
      taken = c ∷ h.taken;
      all_forks = h.all_forks ∙ ap (λ l. l ++ h.forks) e ∙ append_assoc ms' (m ∷ []) h.forks;
      all_taken = h.all_taken ∙ ap (λ l. l ++ h.taken) f ∙ append_assoc cs' (c ∷ []) h.taken;
      as_many =
          let a = ap (λ (l : List Maker). length l) e in
          let b = ap (λ (l : List (Task B)). length l) f in
          let k = length-append ms' (m ∷ []) in
          let j = length-append cs' (c ∷ []) in
          let o = h.as_many in
          omega arith;
      made = λ below. ap (λ l. still_makers below l) g
          ∙ still_last below pending (record { task = c; maker = m; depth = d })
          ∙ ap (λ l. m ∷ below d c ++ l) (h.made below)
          ∙ ap (λ l. m ∷ l)
          (sym (append_assoc (below d c) (with_below (below d) h.forks h.taken) (still_makers below before)));
      from = λ x i. by x (in_either x pending (record { task = c; maker = m; depth = d } ∷ []) (subst (IsIn x) g i));
    }
      where
        by : (x : Found B) → IsIn x pending ⊎ IsIn x (record { task = c; maker = m; depth = d } ∷ [])
            → IsIn x before ⊎ ((x.depth ≡ d) × IsIn x.task (c ∷ h.taken))
        by x (inl i) = old (h.from x i) where
          old : IsIn x before ⊎ ((x.depth ≡ d) × IsIn x.task h.taken)
              → IsIn x before ⊎ ((x.depth ≡ d) × IsIn x.task (c ∷ h.taken))
          old (inl j) = inl j
          old (inr j) = inr (j.0, inr j.1)
        by x (inr (inl q)) = inr (ap (λ (y : Found B). y.depth) q, inl (ap (λ (y : Found B). y.task) q))
        by x (inr (inr i)) = absurd i

    -- where a child is left, so is what forked it
    pub some_left : (cs' : List (Task B)) (c : Task B) → cs ≡ cs' ++ c ∷ [] → length ms ≡ 0 → ⊥
    some_left cs' c f e =
        let b = ap (λ (l : List (Task B)). length l) f in
        let j = length-append cs' (c ∷ []) in
        let o = h.as_many in
        omega arith

    -- where no child is left, all are pushed
    module _ (none : cs ≡ []) where
      no_makers : ms ≡ []
      no_makers = nil_from_length ms
          (let a = h.as_many in let b = ap (λ (l : List (Task B)). length l) none in omega arith)

      forks_are : h.forks ≡ all_makers
      forks_are = sym (h.all_forks ∙ ap (λ l. l ++ h.forks) no_makers)

      taken_are : h.taken ≡ all_children
      taken_are = sym (h.all_taken ∙ ap (λ l. l ++ h.taken) none)

      pub all_made : (below : ℕ → Task B → List Maker)
          → still_makers below pending ≡ with_below (below d) all_makers all_children ++ still_makers below before
      all_made below = h.made below
          ∙ ap (λ l. with_below (below d) l h.taken ++ still_makers below before) forks_are
          ∙ ap (λ l. with_below (below d) all_makers l ++ still_makers below before) taken_are

      pub all_from : (w : Found B) → IsIn w pending
          → IsIn w before ⊎ ((w.depth ≡ d) × IsIn w.task all_children)
      all_from w i = by (h.from w i) where
        by : IsIn w before ⊎ ((w.depth ≡ d) × IsIn w.task h.taken)
            → IsIn w before ⊎ ((w.depth ≡ d) × IsIn w.task all_children)
        by (inl j) = inl j
        by (inr j) = inr (j.0, subst (IsIn w.task) taken_are j.1)
