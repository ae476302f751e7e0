-- What stands at rest is the meaning.
use Rattle.std.proofs.Common.{◌≡◌, ℕ, zero, suc, ◌+◌, ◌*◌, ◌-◌, ◌<◌, ◌≤◌, inl, inr, ⊎_elim, List, Option}
use Rattle.std.proofs.Common.{Some, None}
use Rattle.std.proofs.Common.{length, refl, sym, ap, ◌∙◌, subst, arith}
use native.Mathlib.Decide.{dec_le, ℕ_discrete}
use mathlib.Core.Logic.{dite}
use Rattle.tj_base.specs.ForkOrder.{Name}
use Rattle.tj_body.specs.Programs.{Program, AreLawful, root_task}
use Rattle.tj_body.specs.History.{Assignment, after_step, point_after, history}
use Rattle.tj_body.specs.Rounds.{family, writes_by, cells_by, given, tasks, cells, last_round}
use Rattle.tj_body.specs.Points.{IsIn, IsWithin, IsProper, HasStopped, IsAtRest, IsPointOf, IsSomePoint, IsSomeTask}
use Rattle.tj_body.specs.Laws.{RestsAtMeaning}
use Rattle.tj_body.specs.declared.point.Entry.{Entry}
use Rattle.tj_body.specs.declared.point.Task.{Task}
use Rattle.tj_body.specs.declared.point.Point.{Point}
use Rattle.tj_body.proofs.Lists.{in_begins, from_flat_map}
use Rattle.tj_body.proofs.Histories.Grows.{GoesOn, from_start, waiting_stays, same_or_waiting}
use Rattle.tj_body.proofs.Counts.{fewer, at_least}
use Rattle.tj_body.proofs.Histories.Good.{task_proper}
use Rattle.tj_body.proofs.Histories.Points.{point_up, stopped_stays, later_point, stays, halt}
use Rattle.tj_body.proofs.Rounds.Rises.{tasks_within, one_of_all, within, in_entries, once_name}
use Rattle.tj_body.proofs.Rounds.Settles.{last, last_task}
use Rattle.tj_body.proofs.Rounds.Keeps.{written, forked}

module _ {B : Type 0} (program : Program B) (obeys : AreLawful program.rules)
    (proper : IsProper program.rules (root_task program.root)) where
  abbrev root : Task B
  root = root_task program.root

  abbrev V : ℕ → Assignment
  V n = given program n

  abbrev tasks_of : ℕ → List (Task B)
  tasks_of n = tasks program n

  abbrev cells_of : ℕ → List Name
  cells_of n = cells program n

  abbrev history_of : ℕ → Task B → Point B
  history_of n t = history program.rules (V n) t

  abbrev point_of : ℕ → ℕ → Task B → Point B
  point_of n k t = point_after program.rules (V n) k t

  abbrev step : ℕ → Point B → Point B
  step n p = after_step program.rules (V n) p

  rises : (n m : ℕ) → n ≤ m → IsWithin (V n) (V m)
  rises n m l = within program n m l

  -- S t p says that p is what task t has come to
  pub record Shows (E : Assignment) (S : Task B → Point B → Type 0) : Type 0 where
    pub root_there : (p : Point B) × S root p
    pub points : (t : Task B) (p : Point B) → S t p → (m : ℕ) × IsPointOf program.rules (V m) t p
    pub tasks_of : (t : Task B) (p : Point B) → S t p → (m : ℕ) × IsIn t (tasks_of m)
    pub stopped : (t : Task B) (p : Point B) → S t p → HasStopped E p
    pub forked : (t c : Task B) (p : Point B) → S t p → IsIn c p.children → (r : Point B) × S c r
    pub written : (t : Task B) (p : Point B) (q : Name) (e : Entry) → S t p → IsIn (q, e) p.writes → E q ≡ Some e
    pub entered : (q : Name) (e : Entry) → E q ≡ Some e → (m : ℕ) × (V m q ≡ Some e)

  -- p is what stands there for task t
  abbrev pub Is : (ℕ → Option (Point B)) → Task B → Point B → Type 0
  Is at t p = (c : ℕ) × (at c ≡ Some p) × IsSomeTask program t
      × IsSomePoint program t p

  -- a point has the name of its task
  pub point_name : (m : ℕ) (t : Task B) (p : Point B) → IsPointOf program.rules (V m) t p → p.name ≡ t.name
  point_name m t p h = ap (λ (z : Point B). z.name) h.1 ∙ (from_start program.rules (V m) h.0 t).5

  module _ (E : Assignment) (at : ℕ → Option (Point B)) (x : IsAtRest program E at) where
    -- what has the name of a task of some round is what that task has come to
    is_of : (c : ℕ) (p : Point B) (t : Task B) → at c ≡ Some p → IsSomeTask program t
        → p.name ≡ t.name → Is at t p
    is_of c p t a i e =
        let y = x.meant c p a in
        let z = one_of_all program y.1.0 i.0 y.0 t y.1.1 i.1
        (sym (point_name y.2.0 y.0 p y.2.1) ∙ e) in
        (c, a, i, subst (λ u. IsSomePoint program u p) z y.2)

    -- the task and its point stand in one round, later than both of theirs
    task_then : (t : Task B) (p : Point B) (s : Is at t p) → IsIn t (tasks_of (suc (s.2.0 + s.3.0)))
    task_then t p s = tasks_within program s.2.0 (suc (s.2.0 + s.3.0)) (omega arith) t s.2.1

    point_then : (t : Task B) (p : Point B) (s : Is at t p) → IsPointOf program.rules (V (s.2.0 + s.3.0)) t p
    point_then t p s =
        point_up program.rules (V s.3.0) (V (s.2.0 + s.3.0)) (rises s.3.0 (s.2.0 + s.3.0) (omega arith)) t p s.3.1

    a_task : (t c : Task B) (p : Point B) → Is at t p → IsIn c p.children → IsSomeTask program c
    a_task t c p s k = (
      suc (suc (s.2.0 + s.3.0)),
      forked program obeys proper (s.2.0 + s.3.0) t p
          (task_then t p s) (point_then t p s) c k,
    )

    an_entry : (t : Task B) (p : Point B) (q : Name) (e : Entry) → Is at t p → IsIn (q, e) p.writes → E q ≡ Some e
    an_entry t p q e s w =
        let n = suc (s.2.0 + s.3.0) in
        let y = x.written s.0 p q e s.1 w in
        let z = x.entered q y.0 y.1 in
        let m = z.0 + n in
        let a = written program obeys proper (s.2.0 + s.3.0) t p
        (task_then t p s) (point_then t p s) q e w in
        y.1 ∙ (sym (rises z.0 m (omega arith) q y.0 z.1) ∙ rises n m (omega arith) q e a)

    -- what is at rest shows what each task has come to
    pub shown : Shows E (Is at)
    shown = record {
      root_there = let y = x.root_there in (y.1, is_of y.0 y.1 root y.2 (suc zero, inl refl) y.3);
      points = λ t p s. s.3;
      tasks_of = λ t p s. s.2;
      stopped = λ t p s. x.stopped s.0 p s.1;
      forked = λ t c p s k. let y = x.forked s.0 p c s.1 k in (y.1, is_of y.0 y.1 c y.2 (a_task t c p s k) y.3);
      written = an_entry;
      entered = x.entered;
    }

  module _ (E : Assignment) (S : Task B → Point B → Type 0) (x : Shows E S) where
    -- under a smaller assignment what has stopped doesn't go on
    holds_still : (n : ℕ) → IsWithin (V n) E → (p : Point B) → HasStopped E p → step n p ≡ p
    holds_still n h p (inl c) = stopped_stays program.rules (V n) p (inl c)
    holds_still n h p (inr w) =
        stopped_stays program.rules (V n) p (inr (w.0, w.1, w.2, none (V n w.0) refl)) where
          none : (o : Option Entry) → V n w.0 ≡ o → o ≡ None
          none None g = refl
          none (Some e) g = let z : None ≡ Some e = sym w.3 ∙ h w.0 e g in absurd (cc)

    -- a round has come no further in a task than its point, however later the round is
    behind : (n m k : ℕ) (t : Task B) → IsWithin (V n) E → HasStopped E (point_of m k t) → (j : ℕ)
        → (i : ℕ) × (i ≤ k) × (point_of n j t ≡ point_of m i t)
    behind n m k t h a zero = (zero, omega arith, refl)
    behind n m k t h a (suc j) =
        let r = behind n m k t h a j in
        dite (ℕ_discrete r.0 k)
        (λ e. let s : point_of n j t ≡ point_of m k t = r.2 ∙ ap (λ z. point_of m z t) e in
        (k, omega arith, ap (step n) s ∙ holds_still n h (point_of m k t) a))
        (λ d. dite (dec_le n m) (λ l. up r.0 (omega arith) r.2 (rises n m l))
        (λ l. down r.0 (omega arith) r.2 (rises m n (omega arith)))) where
          up : (i : ℕ) → i < k → point_of n j t ≡ point_of m i t → IsWithin (V n) (V m)
              → (i : ℕ) × (i ≤ k) × (step n (point_of n j t) ≡ point_of m i t)
          up i l e w =
              ⊎_elim (λ s. (suc i, omega arith, s ∙ ap (step m) e))
              (λ s. (i, omega arith, waiting_stays program.rules (V n) (point_of n j t) s ∙ e))
              (same_or_waiting program.rules (V n) (V m) w (point_of n j t).stage (point_of n j t) refl)

          down : (i : ℕ) → i < k → point_of n j t ≡ point_of m i t → IsWithin (V m) (V n)
              → (i : ℕ) × (i ≤ k) × (step n (point_of n j t) ≡ point_of m i t)
          down i l e w =
              ⊎_elim (λ s. (suc i, omega arith, sym s ∙ ap (step m) e))
              (λ s. let b : step m (point_of m i t) ≡ point_of m i t =
              subst (λ z. step m z ≡ z) e (waiting_stays program.rules (V m) (point_of n j t) s) in
              let c : point_of m k t ≡ point_of m i t =
              ap (λ z. point_of m z t) (let z : k ≡ (k - i) + i = omega arith in z)
              ∙ stays program.rules (V m) t i b (k - i) in
              (i, omega arith, holds_still n h (point_of n j t) (subst (HasStopped E) (c ∙ sym e) a) ∙ e))
              (same_or_waiting program.rules (V m) (V n) w (point_of n j t).stage (point_of n j t) refl)

    -- what a task has come to has all that its history under the round has
    ahead : (n : ℕ) → IsWithin (V n) E → (t : Task B) (p : Point B) → S t p → GoesOn (history_of n t) p
    ahead n h t p s =
        let y = x.points t p s in
        let at_k = subst (HasStopped E) y.1.1 (x.stopped t p s) in
        let r = behind n y.0 y.1.0 t h at_k (2 * suc (program.rules.left t.body)) in
        subst (λ z. GoesOn z p) (sym r.2)
        (subst (GoesOn (point_of y.0 r.0 t)) (sym y.1.1) (later_point program.rules (V y.0) t r.0 y.1.0 r.1))

    descends : (n : ℕ) → IsWithin (V n) E → (d : ℕ) (t : Task B) (p : Point B) → S t p → (c : Task B)
        → IsIn c (family program.rules (V n) d t) → (r : Point B) × S c r
    descends n h zero t p s c (inl e) = (p, subst (λ z. S z p) (sym e) s)
    descends n h zero t p s c (inr i) = absurd i
    descends n h (suc d) t p s c (inl e) = (p, subst (λ z. S z p) (sym e) s)
    descends n h (suc d) t p s c (inr i) =
        let f = from_flat_map (family program.rules (V n) d) c (history_of n t).children i in
        let r = x.forked t f.0 p s (in_begins f.0 (history_of n t).children p.children (ahead n h t p s).0 f.1) in
        descends n h d f.0 r.0 r.1 c f.2

    -- each round lies within all entries
    pub within_all : (n : ℕ) → IsWithin (V n) E
    within_all zero q e h = cc
    within_all (suc n) q e h =
        let w = within_all n in
        let f = from_flat_map (writes_by program.rules (V n)) (q, e) (tasks_of (suc n))
        (in_entries program (suc n) q e h) in
        let r = descends n w (suc n) root x.root_there.0 x.root_there.1 f.0 f.1 in
        x.written f.0 r.0 q e r.1 (in_begins (q, e) (history_of n f.0).writes r.0.writes (ahead n w f.0 r.0 r.1).1 f.2)

    -- each task of a round has come to something
    pub tasks_there : (n : ℕ) (t : Task B) → IsIn t (tasks_of n) → (r : Point B) × S t r
    tasks_there zero t i = absurd i
    tasks_there (suc n) t i = descends n (within_all n) (suc n) root x.root_there.0 x.root_there.1 t i

    module _ (names : List Name) (task_named : (t : Task B) (p : Point B) → S t p → IsIn t.name names)
        (promise_named : (t : Task B) (p : Point B) (q : Name) → S t p → IsIn q p.promises → IsIn q names) where
      -- each cell of a round is among the names
      pub cell_there : (n : ℕ) (q : Name) → IsIn q (cells_of n) → IsIn q names
      cell_there zero q i = absurd i
      cell_there (suc n) q i =
          let f = from_flat_map (cells_by program.rules (V n)) q (tasks_of (suc n)) i in
          let r = tasks_there (suc n) f.0 f.1 in
          let g = ahead n (within_all n) f.0 r.0 r.1 in
          ⊎_elim (λ e. subst (λ z. IsIn z names) (sym e) (task_named f.0 r.0 r.1))
          (λ j. promise_named f.0 r.0 q r.1 (in_begins q (history_of n f.0).promises r.0.promises g.2 j)) f.2

      -- no round has more cells than there are names
      pub cells_fit : (n : ℕ) → length (cells_of n) ≤ length names
      cells_fit n =
          fewer (cells_of n) names
          (λ q. at_least q (cells_of n) names (once_name program n q) (cell_there n q))

    module _ (N : ℕ) (few : length (cells_of (last_round N)) ≤ N) where
      -- the entries are the meaning's
      pub same_entries : (q : Name) → E q ≡ V (last_round N) q
      same_entries q = by_both (E q) (V (last_round N) q) refl refl where
        by_both : (a b : Option Entry) → E q ≡ a → V (last_round N) q ≡ b → a ≡ b
        by_both None None g h = refl
        by_both None (Some e) g h = sym g ∙ within_all (last_round N) q e h
        by_both (Some e) b g h =
            let y = x.entered q e g in sym (last program N few y.0 q e y.1) ∙ h

      -- what a task has come to is its history under the meaning
      pub same_points : (t : Task B) (p : Point B) → S t p → p ≡ history_of (last_round N) t
      same_points t p s =
          let y = x.points t p s in
          let i = x.tasks_of t p s in
          let u = point_up program.rules (V y.0) (V (last_round N))
          (last program N few y.0) t p y.1 in
          let st = holds_still (last_round N) (within_all (last_round N)) p (x.stopped t p s) in
          u.1 ∙ halt program.rules obeys (V (last_round N)) t
          (task_proper program obeys proper i.0 t i.1) u.0
          (subst (λ z. step (last_round N) z ≡ z) u.1 st)

      -- its tasks are the meaning's
      pub same_tasks : (t : Task B) (p : Point B) → S t p → IsIn t (tasks_of (last_round N))
      same_tasks t p s =
          let y = x.tasks_of t p s in last_task program N few y.0 t y.1

  -- what stands at rest, with names for all its cells and at most N of them, is the meaning with limit N
  pub rests : RestsAtMeaning program
  rests E at rest names tasks_named promises_named N few = (
    (λ full. let few_cells = k in omega arith),
    same_entries E (Is at) x N k,
    (λ c p a. let w = rest.meant c p a in
        let s : Is at w.0 p = (c, a, w.1, w.2) in
        (w.0, same_tasks E (Is at) x N k w.0 p s, same_points E (Is at) x N k w.0 p s)),
    (λ t i. let w = tasks_there E (Is at) x (last_round N) t i in
        (w.1.0, w.1.1 ∙ ap Some (same_points E (Is at) x N k t w.0 w.1))),
    cell_there E (Is at) x names task_named promise_named (last_round N),
  ) where
    x : Shows E (Is at)
    x = shown E at rest

    task_named : (t : Task B) (p : Point B) → Is at t p → IsIn t.name names
    task_named t p s = subst (λ n. IsIn n names) (point_name s.3.0 t p s.3.1) (tasks_named s.0 p s.1)

    promise_named : (t : Task B) (p : Point B) (q : Name) → Is at t p → IsIn q p.promises → IsIn q names
    promise_named t p q s i = promises_named s.0 p q s.1 i

    k : length (cells_of (last_round N)) ≤ N
    k = let f = cells_fit E (Is at) x names task_named promise_named (last_round N) in omega arith
