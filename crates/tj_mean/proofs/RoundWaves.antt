-- Waves: how a wave begins, goes on and ends, and that what it has come to are the histories of its round.
use Rattle.std.proofs.Common.{◌≡◌, ℕ, zero, suc, ◌+◌, ◌*◌, ◌<◌, ◌≤◌, ◌⊎◌, inl, inr, List, [], ◌∷◌, ◌++◌, map, length}
use Rattle.std.proofs.Common.{get_or, Some, None, Option, refl, sym, ap, ◌∙◌, subst, arith, append-nil, length-append}
use Rattle.std.specs.Prelude.{slice_set}
use Rattle.std.specs.List.{flat_map}
use native.Mathlib.Decide.{dec_le}
use mathlib.Core.Logic.{dite}
use Rattle.tj_base.specs.ForkOrder.{Name}
use Rattle.tj_body.specs.History.{Assignment, history, start}
use Rattle.tj_body.specs.Points.{IsIn, IsProper, IsGood, HasStopped, IsPointOf}
use Rattle.tj_body.specs.Programs.{Rules, Program, AreLawful, root_task}
use Rattle.tj_body.specs.RoundPoints.{IsOfRounds}
use Rattle.tj_body.specs.Rounds.{given, tasks, cells, cells_by, writes_by, last_round, IsFull}
use Rattle.tj_body.specs.declared.point.Entry.{Entry}
use Rattle.tj_body.specs.declared.point.Task.{Task}
use Rattle.tj_body.specs.declared.point.Point.{Point}
use Rattle.tj_body.specs.History.{after_step}
use Rattle.tj_body.proofs.Counts.{is, is_one, times, times_map, total, total_append, total_add, total_in}
use Rattle.tj_body.proofs.Counts.{total_flat_map}
use Rattle.tj_body.proofs.Counts.{fewer, at_least, in_of_times, times_of_in}
use Rattle.tj_body.proofs.Histories.Good.{task_proper}
use Rattle.tj_body.proofs.Histories.Points.{whole}
use Rattle.tj_body.proofs.Lists.{in_left, in_right, in_either, in_map, to_map, from_flat_map, in_flat_map, sub_length}
use Rattle.tj_body.proofs.RoundPoints.{points_are_good, points_stay}
use Rattle.tj_body.proofs.Rounds.Families.{same_name}
use Rattle.tj_body.proofs.Rounds.Keeps.{task_cell, written, promised, forked}
use Rattle.tj_body.proofs.Rounds.Rests.{point_name}
use Rattle.tj_body.proofs.Rounds.Rises.{cells_sub, climbs, in_entries, once_name, one_of_all, tasks_within, up}
use Rattle.tj_mean.specs.FirstFull.{IsFirstFull}
use Rattle.tj_mean.specs.Inner.KeptPoints.{IsKept, AreKept}
use Rattle.tj_mean.specs.Inner.Reached.{steps_from, Reaches, Enters, emptied}
use Rattle.tj_mean.specs.Inner.Waves.{cells_of, promised_by, AreKeptLater, IsTakenUp, IsWave}
use Rattle.tj_mean.proofs.AtWork.CellCounts.{names_of, names_at, forked as children_named, things, AreNamed, once}
use Rattle.tj_mean.proofs.AtWork.Fronts.{with_front}
use Rattle.tj_mean.proofs.AtWork.KeptPoints.{in_set, in_at, total_set, kept_at, kept_set, kept_append}
use Rattle.tj_mean.proofs.AtWork.KeptPoints.{kept_starts, kept_length, kept_stopped, kept_front, kept_emptied}
use Rattle.tj_mean.proofs.AtWork.KeptPoints.{all_stopped}
use Rattle.tj_mean.proofs.AtWork.PointSteps.{front_reaches, same_task}
use Rattle.tj_mean.proofs.AtWork.TasksAtWork.{unfront, times_names, starts_names, starts_forked}
use Rattle.tj_mean.proofs.Depths.{child_depth, family_depth, near_child, family_there}

-- elements of a list where one is replaced
module _ {A : Type 0} where
  -- an element of the list without one replaced is there, or is the one that was
  kept_in_set : (l : List A) (i : ℕ) (x d y : A) → i < length l → IsIn y l
      → IsIn y (slice_set l i x) ⊎ (y ≡ get_or l i d)
  kept_in_set [] i x d y h k = absurd k
  kept_in_set (z ∷ zs) zero x d y h (inl e) = inr e
  kept_in_set (z ∷ zs) zero x d y h (inr k) = inl (inr k)
  kept_in_set (z ∷ zs) (suc i) x d y h (inl e) = inl (inl e)
  kept_in_set (z ∷ zs) (suc i) x d y h (inr k) = by (kept_in_set zs i x d y (omega arith) k) where
    by : IsIn y (slice_set zs i x) ⊎ (y ≡ get_or zs i d) → IsIn y (z ∷ slice_set zs i x) ⊎ (y ≡ get_or zs i d)
    by (inl j) = inl (inr j)
    by (inr e) = inr e

  set_in : (l : List A) (i : ℕ) (x : A) → i < length l → IsIn x (slice_set l i x)
  set_in [] i x h = absurd (omega arith)
  set_in (y ∷ ys) zero x h = inl refl
  set_in (y ∷ ys) (suc i) x h = inr (set_in ys i x (omega arith))

module _ {B : Type 0} where
  abbrev starts : List (Task B) → List (Point B)
  starts cs = map (λ c. start c) cs

  -- the cells of points
  abbrev cells_at_point : Point B → List Name
  cells_at_point p = p.name ∷ p.promises

  cells_counted : (ps : List (Point B)) → cells_of ps ≡ length (flat_map cells_at_point ps)
  cells_counted [] = refl
  cells_counted (p ∷ ps) =
      let a = length-append p.promises (flat_map cells_at_point ps) in let b = cells_counted ps in omega arith

  kept_cells : (qs ps : List (Point B)) → AreKept qs ps → cells_of qs ≡ cells_of ps
  kept_cells [] [] a = refl
  kept_cells [] (p ∷ ps) a = absurd a
  kept_cells (q ∷ qs) [] a = absurd a
  kept_cells (q ∷ qs) (p ∷ ps) a =
      let e = ap (λ (z : Point B). length z.promises) a.0.stands_for in
      let r = kept_cells qs ps a.1 in omega arith

  -- each task is a cell, and so is each promise
  pub cells_apart : (ps : List (Point B)) → cells_of ps ≡ length ps + promised_by ps
  cells_apart [] = refl
  cells_apart (p ∷ ps) = let r = cells_apart ps in omega arith

  -- tasks that begin have made no promises
  pub promised_starts : (ps : List (Point B)) (cs : List (Task B)) → promised_by (ps ++ starts cs) ≡ promised_by ps
  promised_starts ps cs =
      let a = total_append (λ (p : Point B). length p.promises) ps (starts cs) in let b = none cs in omega arith
    where
      none : (ds : List (Task B)) → promised_by (starts ds) ≡ 0
      none [] = refl
      none (d ∷ ds) = let r = none ds in omega arith

  -- there are no more points than cells
  pub points_fit : (ps : List (Point B)) → length ps ≤ cells_of ps
  points_fit [] = omega arith
  points_fit (p ∷ ps) = let r = points_fit ps in omega arith

  -- nor more promises of one of them than of all
  pub promises_fit : (ps : List (Point B)) (i : ℕ) (d : Point B) → i < length ps
      → length (get_or ps i d).promises ≤ promised_by ps
  promises_fit [] i d h = absurd (omega arith)
  promises_fit (p ∷ ps) zero d h = omega arith
  promises_fit (p ∷ ps) (suc i) d h = let r = promises_fit ps i d (omega arith) in omega arith

  -- tasks that begin have forked nothing, and have their own names
  starts_named : (x : Name) (ps : List (Point B)) (ds : List (Task B))
      → (times x (names_at (ps ++ starts ds)) ≡ times x (names_at ps) + times x (names_of ds))
      × (children_named x (ps ++ starts ds) ≡ children_named x ps)
  starts_named x ps ds =
      let b = times_map (λ (z : Point B). z.name) x ps in
      let c = times_map (λ (z : Point B). z.name) x (ps ++ starts ds) in
      let d = times_map (λ (z : Point B). z.name) x (starts ds) in
      let e = total_append (λ (z : Point B). is x z.name) ps (starts ds) in
      let f = ap (λ l. times x l) (starts_names ds) in
      let g = total_append (λ (z : Point B). times x (names_of z.children)) ps (starts ds) in
      let h = starts_forked x ds in
      (omega arith, omega arith)

  start_writes_nothing : (p : Point B) (w : Name × Entry) (cs : List (Task B)) → IsIn p (starts cs)
      → IsIn w p.writes → ⊥
  start_writes_nothing p w cs i j =
      let m = in_map (λ (c : Task B). start c) p cs i in
      subst (λ (z : Point B). IsIn w z.writes) m.2 j

  -- a point of a task leads to such points
  pub point_reaches : (rules : Rules B) (V : Assignment) (t : Task B) (p r : Point B) → IsPointOf rules V t p
      → Reaches rules V p r → IsPointOf rules V t r
  point_reaches rules V t p r h x = subst (IsPointOf rules V t) (sym x.1) (by x.0) where
    by : (j : ℕ) → IsPointOf rules V t (steps_from rules V p j)
    by zero = h
    by (suc j) = let z = by j in (suc z.0, ap (after_step rules V) z.1)

module _ {B : Type 0} (program : Program B) where
  abbrev V : ℕ → Assignment
  V n = given program n

  abbrev root : Task B
  root = root_task program.root

  -- the first wave begins
  pub wave_begins : (E : Assignment) (qs : List (Point B)) → ((q : Name) → E q ≡ None)
      → qs ≡ start root ∷ [] → IsWave program 0 E qs [] []
  wave_begins E qs none e = record {
    whole = starts (root ∷ []);
    kept = subst (λ l. AreKept l (starts (root ∷ []))) (sym e) (kept_starts (root ∷ []));
    assigned = λ i q. none q i;
    of_round = one;
    named = λ q. omega arith;
    later_there = λ c i. absurd i;
    written = λ p q x i w. absurd (start_writes_nothing p (q, x) (root ∷ []) i w);
    writes_there = λ q x i. absurd i;
  }
    where
      one : (p : Point B) → IsIn p (starts (root ∷ []))
          → (t : Task B) × IsIn t (tasks program 1) × IsPointOf program.rules (V 0) t p
      one p (inl h) = (root, inl refl, (0, h))
      one p (inr i) = absurd i

  module _ (obeys : AreLawful program.rules) (proper : IsProper program.rules root) (n : ℕ) (E : Assignment)
      (qs : List (Point B)) (later : List (Task B)) (writes : List (Name × Entry))
      (w : IsWave program n E qs later writes) where
    of_rounds : (p : Point B) → IsIn p w.whole → IsOfRounds program p
    of_rounds p i = let r = w.of_round p i in (r.0, (suc n, r.1), (n, r.2))

    cell_in_round : (q : Name) → IsIn q (flat_map cells_at_point w.whole) → IsIn q (cells program (suc n))
    cell_in_round q i = let f = from_flat_map cells_at_point q w.whole i in by f.0 f.1 f.2 where
      by : (p : Point B) → IsIn p w.whole → IsIn q (cells_at_point p) → IsIn q (cells program (suc n))
      by p j (inl e) =
          let r = w.of_round p j in
          subst (λ z. IsIn z (cells program (suc n))) (sym (e ∙ point_name program obeys proper n r.0 p r.2))
          (task_cell program n r.0 r.1)
      by p j (inr k) = let r = w.of_round p j in promised program obeys proper n r.0 p r.1 r.2 q k

    cells_once : (q : Name) → times q (flat_map cells_at_point w.whole) ≤ 1
    cells_once q =
        let a = total_flat_map (is q) cells_at_point w.whole in
        let b = times_map (λ (p : Point B). p.name) q w.whole in
        let c = total_add (λ (p : Point B). is q p.name) (λ p. times q p.promises) w.whole in
        let d = w.named q in
        let e = things_apart w.whole in
        let f = once program obeys proper w.whole (names_of later) of_rounds w.named (length q) q (omega arith) in
        omega arith
      where
        things_apart : (ps : List (Point B)) → total (λ (p : Point B). times q (things p)) ps
            ≡ children_named q ps + total (λ (p : Point B). times q p.promises) ps
        things_apart [] = refl
        things_apart (p ∷ ps) =
            let a = total_append (is q) (names_of p.children) p.promises in let b = things_apart ps in omega arith

    -- what the tasks have made are cells of the round
    pub cells_are_of_round : cells_of qs ≤ length (cells program (suc n))
    cells_are_of_round =
        let a = kept_cells qs w.whole w.kept in
        let b = cells_counted w.whole in
        let c = fewer (flat_map cells_at_point w.whole) (cells program (suc n))
        (λ q. at_least q (flat_map cells_at_point w.whole) (cells program (suc n)) (cells_once q) (cell_in_round q)) in
        omega arith

    module _ (at : ℕ) (there : at < length qs) where
      -- a task can go on from its point
      pub wave_good : (q : Point B) → q ≡ get_or qs at q → IsGood program.rules q
      wave_good q q_is =
          let k = kept_at qs w.whole w.kept at q q there in
          let l = kept_length qs w.whole w.kept in
          let p = get_or w.whole at q in
          by p (subst (λ z. IsKept z p) (sym q_is) k)
          (points_are_good program obeys proper p (of_rounds p (in_at w.whole at q (omega arith))))
        where
          by : (p : Point B) → IsKept q p → IsGood program.rules p → IsGood program.rules q
          by p k h =
              let g = subst (IsGood program.rules) (kept_front q p k) h in
              record {
                at_stage = unfront program.rules k.handed_children k.handed_writes q q.stage g.at_stage;
                children = λ c i. absurd (subst (λ l. IsIn c l) k.no_children i);
                made = g.made;
              }

      -- a task goes on from its point to its end; some of its children begin, and some come later
      module _ (end : Point B) (reached : Reaches program.rules (V n) (get_or qs at end) end)
          (stopped : HasStopped (V n) end) (ds es : List (Task B))
          (some_begin : (c : Task B) → IsIn c ds → IsIn c end.children)
          (others_come : (c : Task B) → IsIn c es → IsIn c end.children)
          (are_all : (x : Name) → times x (names_of ds) + times x (names_of es) ≡ times x (names_of end.children))
          (near : (c : Task B) → IsIn c ds → length c.name ≤ suc n)
          (deep : (c : Task B) → IsIn c es → length c.name ≡ suc (suc n)) where
        abbrev q : Point B
        q = get_or qs at end

        abbrev p : Point B
        p = get_or w.whole at end

        kept_here : IsKept q p
        kept_here = kept_at qs w.whole w.kept at end end there

        there_too : at < length w.whole
        there_too = let l = kept_length qs w.whole w.kept in omega arith

        abbrev after : Point B
        after = with_front kept_here.handed_children kept_here.handed_writes end

        after_reached : Reaches program.rules (V n) p after
        after_reached = subst (λ z. Reaches program.rules (V n) z after) (sym (kept_front q p kept_here))
            (front_reaches program.rules (V n) kept_here.handed_children kept_here.handed_writes q end reached)

        of_task : (t : Task B) × IsIn t (tasks program (suc n)) × IsPointOf program.rules (V n) t after
        of_task =
            let r = w.of_round p (in_at w.whole at end there_too) in
            (r.0, r.1, point_reaches program.rules (V n) r.0 p after r.2 after_reached)

        after_history : after ≡ history program.rules (V n) of_task.0
        after_history = whole program.rules obeys (V n) of_task.0
            (task_proper program obeys proper (suc n) of_task.0 of_task.1) after of_task.2 stopped

        child_of_history : (c : Task B) → IsIn c end.children
            → IsIn c (history program.rules (V n) of_task.0).children
        child_of_history c i = subst (λ (z : Point B). IsIn c z.children) after_history
            (in_right c kept_here.handed_children end.children i)

        begins_in_round : (c : Task B) → IsIn c ds → IsIn c (tasks program (suc n))
        begins_in_round c i =
            let l = near c i in
            near_child program.rules (V n) (suc n) root of_task.0 c of_task.1 (child_of_history c (some_begin c i))
            (omega arith)

        abbrev moved : List (Point B)
        moved = slice_set w.whole at after

        abbrev all : List (Point B)
        all = moved ++ starts ds

        -- what a point has is still there
        stays_there : (x : Point B) → IsIn x w.whole → (y : Point B) × IsIn y all
            × ((c : Task B) → IsIn c x.children → IsIn c y.children)
            × ((e : Name × Entry) → IsIn e x.writes → IsIn e y.writes)
        stays_there x i = by (kept_in_set w.whole at after end x there_too i) where
          by : IsIn x moved ⊎ (x ≡ p) → (y : Point B) × IsIn y all
              × ((c : Task B) → IsIn c x.children → IsIn c y.children)
              × ((e : Name × Entry) → IsIn e x.writes → IsIn e y.writes)
          by (inl j) = (x, in_left x moved (starts ds) j, (λ c k. k), λ e k. k)
          by (inr h) = (
            after,
            in_left after moved (starts ds) (set_in w.whole at after there_too),
            (λ c k. in_left c kept_here.handed_children end.children
                (subst (λ (z : Point B). IsIn c z.children) (h ∙ kept_here.stands_for) k)),
            (λ e k. in_left e kept_here.handed_writes end.writes
                (subst (λ (z : Point B). IsIn e z.writes) (h ∙ kept_here.stands_for) k)),
          )

        after_there : IsIn after all
        after_there = in_left after moved (starts ds) (set_in w.whole at after there_too)

        module _ (rest : List (Point B)) (rest_is : rest ≡ slice_set qs at (emptied end) ++ starts ds) where
          abbrev front : List (Point B)
          front = slice_set qs at (emptied end)

          abbrev later' : List (Task B)
          later' = later ++ es

          abbrev writes' : List (Name × Entry)
          writes' = writes ++ end.writes

          all_of_round : (x : Point B) → IsIn x all
              → (t : Task B) × IsIn t (tasks program (suc n)) × IsPointOf program.rules (V n) t x
          all_of_round x i = by (in_either x moved (starts ds) i) where
            moved_by : (x ≡ after) ⊎ IsIn x w.whole
                → (t : Task B) × IsIn t (tasks program (suc n)) × IsPointOf program.rules (V n) t x
            moved_by (inl h) = (of_task.0, of_task.1, subst (IsPointOf program.rules (V n) of_task.0) (sym h) of_task.2)
            moved_by (inr j) = w.of_round x j

            by : IsIn x moved ⊎ IsIn x (starts ds)
                → (t : Task B) × IsIn t (tasks program (suc n)) × IsPointOf program.rules (V n) t x
            by (inl j) = moved_by (in_set w.whole at after x j)
            by (inr j) =
                let m = in_map (λ (c : Task B). start c) x ds j in (m.0, begins_in_round m.0 m.1, (0, m.2))

          all_named : AreNamed all (names_of later')
          all_named x =
              let a = w.named x in
              let b = times_map (λ (z : Point B). z.name) x w.whole in
              let c = times_map (λ (z : Point B). z.name) x moved in
              let d = total_set (λ (z : Point B). is x z.name) w.whole at after end there_too in
              let e = ap (λ z. is x z) (same_task program.rules (V n) p after after_reached) in
              let f = total_set (λ (z : Point B). times x (names_of z.children)) w.whole at after end there_too in
              let g = times_names x kept_here.handed_children end.children in
              let h = ap (λ (z : Point B). times x (names_of z.children)) kept_here.stands_for in
              let i = starts_named x moved ds in
              let i0 = i.0 in
              let i1 = i.1 in
              let j = times_names x later es in
              let k = are_all x in
              omega arith

          all_later : (c : Task B) → IsIn c later' → (length c.name ≡ suc (suc n))
              × ((x : Point B) × IsIn x all × IsIn c x.children)
          all_later c i = by (in_either c later es i) where
            by : IsIn c later ⊎ IsIn c es → (length c.name ≡ suc (suc n))
                × ((x : Point B) × IsIn x all × IsIn c x.children)
            by (inl j) =
                let l = w.later_there c j in
                let s = stays_there l.1.0 l.1.1 in
                (l.0, (s.0, s.1, s.2 c l.1.2))
            by (inr j) =
                (deep c j, (after, after_there, in_right c kept_here.handed_children end.children (others_come c j)))

          all_written : (x : Point B) (y : Name) (e : Entry) → IsIn x all → IsIn (y, e) x.writes
              → IsIn (y, e) writes' ⊎ (V n y ≡ Some e)
          all_written x y e i j = by (in_either x moved (starts ds) i) where
            old : IsIn (y, e) writes ⊎ (V n y ≡ Some e) → IsIn (y, e) writes' ⊎ (V n y ≡ Some e)
            old (inl k) = inl (in_left (y, e) writes end.writes k)
            old (inr h) = inr h

            of_after : IsIn (y, e) kept_here.handed_writes ⊎ IsIn (y, e) end.writes
                → IsIn (y, e) writes' ⊎ (V n y ≡ Some e)
            of_after (inl k) = old (w.written p y e (in_at w.whole at end there_too)
                (subst (λ (z : Point B). IsIn (y, e) z.writes) (sym kept_here.stands_for) k))
            of_after (inr k) = inl (in_right (y, e) writes end.writes k)

            moved_by : (x ≡ after) ⊎ IsIn x w.whole → IsIn (y, e) writes' ⊎ (V n y ≡ Some e)
            moved_by (inl h) = of_after (in_either (y, e) kept_here.handed_writes end.writes
                (subst (λ (z : Point B). IsIn (y, e) z.writes) h j))
            moved_by (inr k) = old (w.written x y e k j)

            by : IsIn x moved ⊎ IsIn x (starts ds) → IsIn (y, e) writes' ⊎ (V n y ≡ Some e)
            by (inl k) = moved_by (in_set w.whole at after x k)
            by (inr k) = absurd (start_writes_nothing x (y, e) ds k j)

          all_writes_there : (y : Name) (e : Entry) → IsIn (y, e) writes'
              → (x : Point B) × IsIn x all × IsIn (y, e) x.writes
          all_writes_there y e i = by (in_either (y, e) writes end.writes i) where
            by : IsIn (y, e) writes ⊎ IsIn (y, e) end.writes → (x : Point B) × IsIn x all × IsIn (y, e) x.writes
            by (inl j) =
                let o = w.writes_there y e j in
                let s = stays_there o.0 o.1 in
                (s.0, s.1, s.3 (y, e) o.2)
            by (inr j) = (after, after_there, in_right (y, e) kept_here.handed_writes end.writes j)

          wave_goes_on : IsWave program n E rest later' writes'
          wave_goes_on = record {
            whole = all;
            kept = subst (λ l. AreKept l all) (sym rest_is)
                (kept_append front moved (starts ds) (starts ds)
                (kept_set qs w.whole w.kept at (emptied end) after
                (kept_emptied kept_here.handed_children kept_here.handed_writes end))
                (kept_starts ds));
            assigned = w.assigned;
            of_round = all_of_round;
            named = all_named;
            later_there = all_later;
            written = all_written;
            writes_there = all_writes_there;
          }

      -- the task with this index is taken up
      pub wave_takes_up : (N : ℕ) (kept kept' : List (Task B)) (rest : List (Point B)) (writes' : List (Name × Entry))
          → AreKeptLater N kept later → IsTakenUp program.rules E N n at qs rest kept kept' writes writes'
          → (later' : List (Task B)) × IsWave program n E rest later' writes' × AreKeptLater N kept' later'
      wave_takes_up N kept kept' rest writes' are u = by u.children where
        reached : Reaches program.rules (V n) (get_or qs at u.end) u.end
        reached = subst (λ F. Reaches program.rules F (get_or qs at u.end) u.end) w.assigned (u.reached u.end)

        stopped : HasStopped (V n) u.end
        stopped = subst (λ F. HasStopped F u.end) w.assigned u.stopped

        child_name : (c : Task B) → IsIn c u.end.children → length c.name ≡ suc (length u.end.name)
        child_name c i =
            let k = kept_at qs w.whole w.kept at u.end u.end there in
            let l = kept_length qs w.whole w.kept in
            let p = get_or w.whole at u.end in
            let j = in_at w.whole at u.end (omega arith) in
            let r = w.of_round p j in
            let f = front_reaches program.rules (V n) k.handed_children k.handed_writes (get_or qs at u.end) u.end
            reached in
            let o = point_reaches program.rules (V n) r.0 p (with_front k.handed_children k.handed_writes u.end) r.2
            (subst (λ z. Reaches program.rules (V n) z (with_front k.handed_children k.handed_writes u.end))
            (sym (kept_front (get_or qs at u.end) p k)) f) in
            let a = child_depth program.rules (V n) o.0 r.0 c
            (subst (λ (z : Point B). IsIn c z.children) o.1 (in_right c k.handed_children u.end.children i)) in
            let b = ap (λ z. length z) (point_name program obeys proper n r.0
            (with_front k.handed_children k.handed_writes u.end) o) in
            omega arith

        end_depth : length u.end.name ≤ suc n
        end_depth =
            let k = kept_at qs w.whole w.kept at u.end u.end there in
            let l = kept_length qs w.whole w.kept in
            let p = get_or w.whole at u.end in
            let r = w.of_round p (in_at w.whole at u.end (omega arith)) in
            let a = family_depth program.rules (V n) (suc n) root r.0 r.1 in
            let b = ap (λ z. length z) (point_name program obeys proper n r.0 p r.2) in
            let c = ap (λ (z : Point B). length z.name) k.stands_for in
            let d = ap (λ z. length z) (same_task program.rules (V n) (get_or qs at u.end) u.end reached) in
            omega arith

        all_kept : kept' ≡ kept → AreKeptLater N kept' later
        all_kept e = subst (λ l. AreKeptLater N l later) (sym e) are

        more_kept : (kept' ≡ kept ++ u.end.children) ⊎ ((N < length kept) × (kept' ≡ kept))
            → AreKeptLater N kept' (later ++ u.end.children)
        more_kept (inl e) = by_kept are where
          by_kept : AreKeptLater N kept later → AreKeptLater N kept' (later ++ u.end.children)
          by_kept (inl f) = inl (e ∙ ap (λ l. l ++ u.end.children) f)
          by_kept (inr h) =
              let h0 = h.0 in
              let h1 = h.1 in
              let a = length-append kept u.end.children in
              let b = length-append later u.end.children in
              let d = ap (λ (l : List (Task B)). length l) e in
              inr (omega arith, omega arith)
        more_kept (inr h) = by_kept are where
          by_kept : AreKeptLater N kept later → AreKeptLater N kept' (later ++ u.end.children)
          by_kept (inl f) =
              let h0 = h.0 in
              let b = length-append later u.end.children in
              let d = ap (λ (l : List (Task B)). length l) h.1 in
              let g = ap (λ (l : List (Task B)). length l) f in
              inr (omega arith, omega arith)
          by_kept (inr k) =
              let k0 = k.0 in
              let k1 = k.1 in
              let b = length-append later u.end.children in
              let d = ap (λ (l : List (Task B)). length l) h.1 in
              inr (omega arith, omega arith)

        by : ((length u.end.name ≤ n) × (rest ≡ slice_set qs at (emptied u.end) ++ map start u.end.children)
            × (kept' ≡ kept))
            ⊎ ((n < length u.end.name) × (rest ≡ slice_set qs at (emptied u.end))
            × ((kept' ≡ kept ++ u.end.children) ⊎ ((N < length kept) × (kept' ≡ kept))))
            → (later' : List (Task B)) × IsWave program n E rest later' writes' × AreKeptLater N kept' later'
        by (inl h) =
            let g = wave_goes_on u.end reached stopped u.end.children [] (λ c i. i) (λ c i. absurd i)
            (λ x. omega arith) (λ c i. let l = h.0 in let a = child_name c i in omega arith) (λ c i. absurd i)
            rest h.1 in (
              later,
              subst (λ l. IsWave program n E rest l writes') (append-nil later)
                  (subst (λ l. IsWave program n E rest (later ++ []) l) (sym u.written) g),
              all_kept h.2,
            )
        by (inr h) =
            let g = wave_goes_on u.end reached stopped [] u.end.children (λ c i. absurd i) (λ c i. i)
            (λ x. omega arith) (λ c i. absurd i)
            (λ c i. let l = h.0 in let a = child_name c i in let b = end_depth in omega arith)
            rest (h.1 ∙ sym (append-nil (slice_set qs at (emptied u.end)))) in (
              later ++ u.end.children,
              subst (λ l. IsWave program n E rest (later ++ u.end.children) l) (sym u.written) g,
              more_kept h.2,
            )

    -- where all have stopped
    module _ (stopped : (i : ℕ) (d : Point B) → i < length qs → HasStopped (V n) (get_or qs i d)) where
      all_still : (p : Point B) → IsIn p w.whole → HasStopped (V n) p
      all_still = kept_stopped (V n) qs w.whole w.kept (all_stopped (V n) qs stopped)

      -- the points are the histories of the round
      is_history : (p : Point B) → IsIn p w.whole
          → (t : Task B) × IsIn t (tasks program (suc n)) × (p ≡ history program.rules (V n) t)
      is_history p i =
          let r = w.of_round p i in (
            r.0,
            r.1,
            whole program.rules obeys (V n) r.0 (task_proper program obeys proper (suc n) r.0 r.1) p r.2
                (all_still p i),
          )

      abbrev IsThere : Task B → Type 0
      IsThere t = IsIn t (tasks program (suc n)) × IsIn (history program.rules (V n) t) w.whole

      -- a task of the round whose name is told is there
      there_by_name : (c : Task B) → IsIn c (tasks program (suc n)) → IsIn c.name (names_at w.whole) → IsThere c
      there_by_name c i j =
          let m = in_map (λ (p : Point B). p.name) c.name w.whole j in
          let h = is_history m.0 m.1 in
          let e : c ≡ h.0 = one_of_all program (suc n) (suc n) c h.0 i h.1
          (m.2 ∙ (ap (λ (z : Point B). z.name) h.2 ∙ same_name program.rules (V n) h.0)) in
          (i, subst (λ z. IsIn z w.whole) (h.2 ∙ ap (history program.rules (V n)) (sym e)) m.1)

      named_there : (c : Task B) → IsIn c (tasks program (suc n)) → length c.name ≤ suc n
          → 1 ≤ is c.name [] + children_named c.name w.whole → IsThere c
      named_there c i l h =
          let a = w.named c.name in
          dite (dec_le 1 (times c.name (names_at w.whole)))
          (λ k. there_by_name c i (in_of_times c.name (names_at w.whole) k))
          (λ k. let m = in_map (λ (x : Task B). x.name) c.name later
          (in_of_times c.name (names_of later) (omega arith)) in
          let d = (w.later_there m.0 m.1).0 in
          let e = ap (λ (z : Name). length z) m.2 in
          absurd (omega arith))

      history_there : (t : Task B) → IsIn t (tasks program (suc n)) → IsIn (history program.rules (V n) t) w.whole
      history_there t i =
          (family_there program.rules (V n) IsThere (suc n) on (suc n) root
          (named_there root (inl refl) (omega arith) (let a = is_one [] [] refl in omega arith))
          (omega arith) t i).1
        where
          on : (t c : Task B) → IsThere t → IsIn c (history program.rules (V n) t).children → length c.name ≤ suc n
              → IsThere c
          on t c h j l =
              let k = near_child program.rules (V n) (suc n) root t c h.0 j (omega arith) in
              let a = times_of_in c.name (names_of (history program.rules (V n) t).children)
              (to_map (λ (x : Task B). x.name) c (history program.rules (V n) t).children j) in
              let b = total_in (λ (x : Point B). times c.name (names_of x.children)) (history program.rules (V n) t)
              w.whole h.1 in
              named_there c k l (omega arith)

      cell_there : (q : Name) → IsIn q (cells program (suc n)) → IsIn q (flat_map cells_at_point w.whole)
      cell_there q i =
          let f = from_flat_map (cells_by program.rules (V n)) q (tasks program (suc n)) i in
          in_flat_map cells_at_point (history program.rules (V n) f.0) q w.whole (history_there f.0 f.1)
          (by f.0 f.2)
        where
          by : (t : Task B) → IsIn q (cells_by program.rules (V n) t)
              → IsIn q (cells_at_point (history program.rules (V n) t))
          by t (inl e) = inl (e ∙ sym (same_name program.rules (V n) t))
          by t (inr j) = inr j

      -- the cells of the round are what the tasks have made
      pub round_fits : (N : ℕ) → cells_of qs ≤ N → length (cells program (suc n)) ≤ N
      round_fits N l =
          let a = kept_cells qs w.whole w.kept in
          let b = cells_counted w.whole in
          let c = fewer (cells program (suc n)) (flat_map cells_at_point w.whole)
          (λ q. at_least q (cells program (suc n)) (flat_map cells_at_point w.whole) (once_name program (suc n) q)
          (cell_there q)) in
          omega arith

      -- the next wave begins
      module _ (F : Assignment) (enters : Enters writes E F) (rest : List (Point B))
          (rest_is : rest ≡ qs ++ starts later) where
        entered : (q : Name) (e : Entry) → F q ≡ Some e → V (suc n) q ≡ Some e
        entered q e h = by (enters.only q e h) where
          by : IsIn (q, e) writes ⊎ (E q ≡ Some e) → V (suc n) q ≡ Some e
          by (inl i) =
              let o = w.writes_there q e i in
              let r = w.of_round o.0 o.1 in
              written program obeys proper n r.0 o.0 r.1 r.2 q e o.2
          by (inr g) = up program n q e (subst (λ U. U q ≡ Some e) w.assigned g)

        has_entry : (q : Name) (e : Entry) → V (suc n) q ≡ Some e → (x : Entry) × (F q ≡ Some x)
        has_entry q e h =
            let f = from_flat_map (writes_by program.rules (V n)) (q, e) (tasks program (suc n))
            (in_entries program (suc n) q e h) in
            by (w.written (history program.rules (V n) f.0) q e (history_there f.0 f.1) f.2)
          where
            by : IsIn (q, e) writes ⊎ (V n q ≡ Some e) → (x : Entry) × (F q ≡ Some x)
            by (inl i) = enters.written q e i
            by (inr g) = enters.stays q e (subst (λ U. U q ≡ Some e) (sym w.assigned) g)

        same_entry : (q : Name) → F q ≡ V (suc n) q
        same_entry q = by (F q) (V (suc n) q) refl refl where
          by : (a b : Option Entry) → F q ≡ a → V (suc n) q ≡ b → F q ≡ V (suc n) q
          by (Some e) b f g = f ∙ sym (entered q e f)
          by None None f g = f ∙ sym g
          by None (Some e) f g =
              let r = has_entry q e g in let z : None ≡ Some r.0 = sym f ∙ r.1 in absurd (cc)

        next_assigned : F ≡ V (suc n)
        next_assigned = λ i q. same_entry q i

        abbrev next : List (Point B)
        next = w.whole ++ starts later

        next_of_round : (p : Point B) → IsIn p next
            → (t : Task B) × IsIn t (tasks program (suc (suc n))) × IsPointOf program.rules (V (suc n)) t p
        next_of_round p i = by (in_either p w.whole (starts later) i) where
          by : IsIn p w.whole ⊎ IsIn p (starts later)
              → (t : Task B) × IsIn t (tasks program (suc (suc n))) × IsPointOf program.rules (V (suc n)) t p
          by (inl j) =
              let r = w.of_round p j in (
                r.0,
                tasks_within program (suc n) (suc (suc n)) (omega arith) r.0 r.1,
                points_stay program n (suc n) r.0 p (omega arith) r.2,
              )
          by (inr j) =
              let m = in_map (λ (c : Task B). start c) p later j in
              let l = (w.later_there m.0 m.1).1 in
              let r = w.of_round l.0 l.1 in
              (m.0, forked program obeys proper n r.0 l.0 r.1 r.2 m.0 l.2, (0, m.2))

        next_written : (p : Point B) (q : Name) (e : Entry) → IsIn p next → IsIn (q, e) p.writes
            → IsIn {A = Name × Entry} (q, e) [] ⊎ (V (suc n) q ≡ Some e)
        next_written p q e i j = by (in_either p w.whole (starts later) i) where
          by : IsIn p w.whole ⊎ IsIn p (starts later) → IsIn {A = Name × Entry} (q, e) [] ⊎ (V (suc n) q ≡ Some e)
          by (inl k) =
              let r = w.of_round p k in inr (written program obeys proper n r.0 p r.1 r.2 q e j)
          by (inr k) = absurd (start_writes_nothing p (q, e) later k j)

        pub wave_next : IsWave program (suc n) F rest [] []
        wave_next = record {
          whole = next;
          kept = subst (λ l. AreKept l next) (sym rest_is)
              (kept_append qs w.whole (starts later) (starts later) w.kept (kept_starts later));
          assigned = next_assigned;
          of_round = next_of_round;
          named = λ x. let a = w.named x in let i = starts_named x w.whole later in let i0 = i.0 in let i1 = i.1 in
              omega arith;
          later_there = λ c i. absurd i;
          written = next_written;
          writes_there = λ q e i. absurd i;
        }

module _ {B : Type 0} (program : Program B) where
  -- a later round has no fewer cells
  sizes_grow : (m n : ℕ) → m ≤ n → length (cells program m) ≤ length (cells program n)
  sizes_grow m n l = climbs (λ k. length (cells program m) ≤ length (cells program k))
      (λ k h. let a = sub_length (cells program k) (cells program (suc k)) (cells_sub program k) in omega arith) m n l
      (omega arith)

  -- the first round that is full comes after one that isn't
  pub first_after : (N n : ℕ) → length (cells program n) ≤ N → N < length (cells program (suc n))
      → IsFirstFull program N (suc n)
  first_after N n l h = record {
    full = h;
    first = λ m k. let a = sizes_grow m n (omega arith) in omega arith;
  }

  -- where no round up to the last is full, the meaning isn't
  pub not_full : (N n : ℕ) → 2 * N < n → n ≤ 2 * N + 1 → length (cells program n) ≤ N → ¬ IsFull program N
  not_full N n a b l h =
      let e : n ≡ last_round N = omega arith in
      let k = subst (λ z. length (cells program z) ≤ N) e l in
      omega arith
