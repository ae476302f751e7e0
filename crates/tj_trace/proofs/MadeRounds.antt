-- The cells of a round, each with what made it.
use Rattle.std.proofs.Common.{◌≡◌, ℕ, zero, suc, ◌+◌, ◌≤◌, List, [], ◌∷◌, ◌++◌, map, length, take, cond}
use Rattle.std.proofs.Common.{Bool, true, false}
use Rattle.std.proofs.Common.{Some, inl, inr, refl, sym, ap, ◌∙◌, subst, append_assoc, append-nil, arith}
use Rattle.std.specs.Prelude.{filter, slice_get}
use Rattle.std.specs.List.{flat_map}
use Rattle.tj_base.specs.ForkOrder.{Name, child}
use Rattle.tj_base.specs.declared.cell.Sort.{Sort}
use Rattle.tj_base.specs.declared.cell.Sort.TheVariants as sort
use Rattle.tj_body.specs.History.{Assignment, history}
use Rattle.tj_body.specs.Points.{IsIn}
use Rattle.tj_body.specs.Programs.{Program, Rules, root_task}
use Rattle.tj_body.specs.Rounds.{cells, cells_by, family, given, tasks}
use Rattle.tj_body.specs.declared.point.Task.{Task}
use Rattle.tj_body.proofs.Lists.{in_left, in_right, in_flat_map}
use Rattle.tj_trace.specs.Inner.RoundMakers.{is_of, made_below, made_by, with_below}
use Rattle.tj_trace.specs.MadeCells.{AreMadeBy, IsMadeBy}
use Rattle.tj_trace.specs.NoteLaws.{AreNoted, is_sort, things}
use Rattle.tj_trace.specs.declared.line.Maker.{Maker}
use Rattle.tj_trace.specs.Logs.{Logged}

flat_map_append : {A C : Type 0} (f : A → List C) (xs ys : List A)
    → flat_map f (xs ++ ys) ≡ flat_map f xs ++ flat_map f ys
flat_map_append f [] ys = refl
flat_map_append f (x ∷ xs) ys =
    ap (λ l. f x ++ l) (flat_map_append f xs ys) ∙ sym (append_assoc (f x) (flat_map f xs) (flat_map f ys))

module _ (program : Program Logged) (n : ℕ) where
  abbrev V : Assignment
  V = given program n

  abbrev of_round : ℕ → Task Logged → List (Task Logged)
  of_round d t = family program.rules V d t

  abbrev cells_of : Task Logged → List Name
  cells_of t = cells_by program.rules V t

  abbrev notes : Task Logged → List Maker
  notes t = (history program.rules V t).body.makers

  abbrev children_of : Task Logged → List (Task Logged)
  children_of t = (history program.rules V t).children

  abbrev below : ℕ → Task Logged → List Maker
  below d t = made_below program.rules V d t

  -- the cells of two lists
  made_append : (qs : List Name) (ms : List Maker) (rs : List Name) (ks : List Maker) → AreMadeBy program n qs ms
      → AreMadeBy program n rs ks → AreMadeBy program n (qs ++ rs) (ms ++ ks)
  made_append [] [] rs ks a b = b
  made_append [] (m ∷ ms) rs ks a b = absurd a
  made_append (q ∷ qs) [] rs ks a b = absurd a
  made_append (q ∷ qs) (m ∷ ms) rs ks a b = (a.0, made_append qs ms rs ks a.1 b)

  -- the first cells of these
  pub made_take : (N : ℕ) (qs : List Name) (ms : List Maker) → AreMadeBy program n qs ms
      → AreMadeBy program n (take N qs) (take N ms)
  made_take zero qs ms a = tt
  made_take (suc N) [] [] a = tt
  made_take (suc N) [] (m ∷ ms) a = absurd a
  made_take (suc N) (q ∷ qs) [] a = absurd a
  made_take (suc N) (q ∷ qs) (m ∷ ms) a = (a.0, made_take N qs ms a.1)

  -- as many
  pub made_length : (qs : List Name) (ms : List Maker) → AreMadeBy program n qs ms → length qs ≡ length ms
  made_length [] [] a = refl
  made_length [] (m ∷ ms) a = absurd a
  made_length (q ∷ qs) [] a = absurd a
  made_length (q ∷ qs) (m ∷ ms) a = ap suc (made_length qs ms a.1)

  module _ (t : Task Logged) (there : IsIn t (tasks program (suc n))) where
    -- what made the things of one sort is what the notes say of them
    things_made : (s : Sort) (k : ℕ) (ms : List Maker)
        → ((j : ℕ) (m : Maker) → slice_get ms j ≡ Some m → slice_get (notes t) (k + j) ≡ Some m)
        → AreMadeBy program n (things s t.name k ms) (filter (is_of s) ms)
    things_made s k [] h = tt
    things_made s k (m ∷ ms) h = by (is_sort s m.sort)
        (things_made s (suc k) ms (λ j x e. subst (λ i. slice_get (notes t) i ≡ Some x) (more k j) (h (suc j) x e)))
      where
        more : (k j : ℕ) → k + suc j ≡ suc k + j
        more k j = omega arith

        none : (k : ℕ) → k + 0 ≡ k
        none k = omega arith

        by : (b : Bool) → AreMadeBy program n (things s t.name (suc k) ms) (filter (is_of s) ms)
            → AreMadeBy program n
            (cond b (child t.name (suc k) ∷ things s t.name (suc k) ms) (things s t.name (suc k) ms))
            (cond b (m ∷ filter (is_of s) ms) (filter (is_of s) ms))
        by true rest = (
          record {
            task = t;
            of_round = there;
            thing = k;
            named = refl;
            noted = subst (λ i. slice_get (notes t) i ≡ Some m) (none k) (h 0 m refl);
          },
          rest,
        )
        by false rest = rest

    all_made : (s : Sort) → AreMadeBy program n (things s t.name 0 (notes t)) (filter (is_of s) (notes t))
    all_made s = things_made s 0 (notes t) (λ j m e. subst (λ i. slice_get (notes t) i ≡ Some m) (sym (none j)) e)
      where
        none : (j : ℕ) → 0 + j ≡ j
        none j = omega arith

  -- the tasks of the round have noted what they made
  module _ (noted : (t : Task Logged) → IsIn t (tasks program (suc n))
      → let p = history program.rules V t in AreNoted t.name p.body.makers p.made p.promises p.children) where
    promises_made : (t : Task Logged) → IsIn t (tasks program (suc n))
        → AreMadeBy program n (history program.rules V t).promises (made_by program.rules V sort.Promise t)
    promises_made t i = subst (λ l. AreMadeBy program n l (made_by program.rules V sort.Promise t))
        (noted t i).all_promises (all_made t i sort.Promise)

    children_made : (t : Task Logged) → IsIn t (tasks program (suc n))
        → AreMadeBy program n (map (λ c. c.name) (children_of t)) (made_by program.rules V sort.Task t)
    children_made t i = subst (λ l. AreMadeBy program n l (made_by program.rules V sort.Task t))
        (noted t i).all_children (all_made t i sort.Task)

    -- as many statements forked a task's children
    pub forks_length : (t : Task Logged) → IsIn t (tasks program (suc n))
        → length (made_by program.rules V sort.Task t) ≡ length (children_of t)
    forks_length t i =
        let a = made_length (map (λ c. c.name) (children_of t)) (made_by program.rules V sort.Task t)
        (children_made t i) in
        let b = map_length (children_of t) in
        omega arith
      where
        map_length : (cs : List (Task Logged)) → length (map (λ (c : Task Logged). c.name) cs) ≡ length cs
        map_length [] = refl
        map_length (c ∷ cs) = ap suc (map_length cs)

    -- the cells below the tasks of a list
    each_made : (d : ℕ)
        → ((t : Task Logged) → ((x : Task Logged) → IsIn x (of_round d t) → IsIn x (tasks program (suc n)))
        → (rest : List Name) × (flat_map cells_of (of_round d t) ≡ t.name ∷ rest)
        × AreMadeBy program n rest (below d t))
        → (cs : List (Task Logged)) (ms : List Maker) → AreMadeBy program n (map (λ c. c.name) cs) ms
        → ((c x : Task Logged) → IsIn c cs → IsIn x (of_round d c) → IsIn x (tasks program (suc n)))
        → AreMadeBy program n (flat_map cells_of (flat_map (of_round d) cs)) (with_below (below d) ms cs)
    each_made d go [] [] a h = tt
    each_made d go [] (m ∷ ms) a h = absurd a
    each_made d go (c ∷ cs) [] a h = absurd a
    each_made d go (c ∷ cs) (m ∷ ms) a h =
        let g = go c (λ x i. h c x (inl refl) i) in
        let e = flat_map_append cells_of (of_round d c) (flat_map (of_round d) cs)
        ∙ ap (λ l. l ++ flat_map cells_of (flat_map (of_round d) cs)) g.1 in
        subst (λ l. AreMadeBy program n l (m ∷ below d c ++ with_below (below d) ms cs)) (sym e) (
          a.0,
          made_append g.0 (below d c) (flat_map cells_of (flat_map (of_round d) cs))
              (with_below (below d) ms cs) g.2
              (each_made d go cs ms a.1 (λ k x i j. h k x (inr i) j)),
        )

    family_self : (d : ℕ) (t : Task Logged) → IsIn t (of_round d t)
    family_self zero t = inl refl
    family_self (suc d) t = inl refl

    -- the cells of a family but the first task's result
    family_made : (d : ℕ) (t : Task Logged)
        → ((x : Task Logged) → IsIn x (of_round d t) → IsIn x (tasks program (suc n)))
        → (rest : List Name) × (flat_map cells_of (of_round d t) ≡ t.name ∷ rest) × AreMadeBy program n rest (below d t)
    family_made zero t h = (
      (history program.rules V t).promises,
      ap (λ l. t.name ∷ l) (append-nil (history program.rules V t).promises),
      promises_made t (h t (inl refl)),
    )
    family_made (suc d) t h =
        let p = history program.rules V t in (
          p.promises ++ flat_map cells_of (flat_map (of_round d) p.children),
          refl,
          made_append p.promises (made_by program.rules V sort.Promise t)
              (flat_map cells_of (flat_map (of_round d) p.children))
              (with_below (below d) (made_by program.rules V sort.Task t) p.children)
              (promises_made t (h t (inl refl)))
              (each_made d (family_made d) p.children (made_by program.rules V sort.Task t)
              (children_made t (h t (inl refl)))
              (λ c x i j. h x (inr (in_flat_map (of_round d) c x p.children i j)))),
        )

    -- the cells of the round but the root's result
    pub round_made : (rest : List Name) × (cells program (suc n) ≡ (root_task program.root).name ∷ rest)
        × AreMadeBy program n rest (below (suc n) (root_task program.root))
    round_made = family_made (suc n) (root_task program.root) (λ x i. i)
