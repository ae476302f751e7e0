-- What points of histories have in the rounds, and how they go on from one round to another.
use Rattle.std.proofs.Common.{◌≡◌, ℕ, zero, suc, ◌*◌, ◌≤◌, inl, inr, Bool, List, Some, refl, subst, arith}
use Rattle.tj_base.specs.ForkOrder.{Name}
use Rattle.tj_body.specs.Programs.{Rules, Program, AreLawful, root_task}
use Rattle.tj_body.specs.History.{Assignment, after_read, history}
use Rattle.tj_body.specs.Rounds.{family, writes_by, cells_by, given, tasks, cells}
use Rattle.tj_body.specs.Points.{IsIn, IsWithin, IsProper, IsPointOf}
use Rattle.tj_body.specs.declared.point.Entry.{Entry}
use Rattle.tj_body.specs.declared.point.PointStage.TheVariants as stage
use Rattle.tj_body.specs.declared.point.Task.{Task}
use Rattle.tj_body.specs.declared.point.Point.{Point}
use Rattle.tj_body.proofs.Lists.{in_begins, in_flat_map, from_flat_map}
use Rattle.tj_body.proofs.Histories.Grows.{more}
use Rattle.tj_body.proofs.Histories.Good.{task_proper}
use Rattle.tj_body.proofs.Histories.Points.{reads_on, point_up, in_history}
use Rattle.tj_body.proofs.Rounds.Rises.{within, of_entries}

module _ {B : Type 0} (rules : Rules B) where
  abbrev family_of : Assignment → ℕ → Task B → List (Task B)
  family_of V d t = family rules V d t

  abbrev children : Assignment → Task B → List (Task B)
  children V t = (history rules V t).children

  -- a child of a task of a family is one of the next family
  pub child_in : (V W : Assignment) → IsWithin V W → (d : ℕ) (r t c : Task B) → IsIn t (family_of V d r)
      → IsIn c (children W t) → IsIn c (family_of W (suc d) r)
  child_in V W h zero r t c (inl e) i =
      inr (in_flat_map (family_of W zero) c c (children W r) (subst (λ z. IsIn c (children W z)) e i) (inl refl))
  child_in V W h zero r t c (inr j) i = absurd j
  child_in V W h (suc d) r t c (inl e) i =
      inr (in_flat_map (family_of W (suc d)) c c (children W r) (subst (λ z. IsIn c (children W z)) e i) (inl refl))
  child_in V W h (suc d) r t c (inr j) i =
      let x = from_flat_map (family_of V d) t (children V r) j in
      let m = more rules V W h r (2 * suc (rules.left r.body)) in
      inr (in_flat_map (family_of W (suc d)) x.0 c (children W r) (in_begins x.0 (children V r) (children W r) m.0 x.1)
      (child_in V W h d x.0 t c x.2 i))

module _ {B : Type 0} (program : Program B) where
  abbrev root : Task B
  root = root_task program.root

  abbrev V : ℕ → Assignment
  V n = given program n

  -- a point under one round that reads an entry of another is a point under each round from both on
  pub reads_later : (n m k : ℕ) (t : Task B) (p : Point B) (q : Name) (spare : Bool) (e : Entry) → n ≤ k → m ≤ k
      → IsPointOf program.rules (V n) t p → p.stage ≡ stage.Waits q spare → V m q ≡ Some e
      → IsPointOf program.rules (V k) t (after_read spare q e p)
  reads_later n m k t p q spare e l j h g v =
      reads_on program.rules (V k) t p q spare e
      (point_up program.rules (V n) (V k) (within program n k l) t p h) g
      (within program m k j q e v)

  -- a task of a round is a cell of it
  pub task_cell : (n : ℕ) (t : Task B) → IsIn t (tasks program (suc n)) → IsIn t.name (cells program (suc n))
  task_cell n t i = in_flat_map (cells_by program.rules (V n)) t t.name (tasks program (suc n)) i (inl refl)

  module _ (obeys : AreLawful program.rules) (proper : IsProper program.rules root) (n : ℕ) (t : Task B) (p : Point B)
      (there : IsIn t (tasks program (suc n))) (of_t : IsPointOf program.rules (V n) t p) where
    proper_t : IsProper program.rules t
    proper_t = task_proper program obeys proper (suc n) t there

    -- what it has written has this entry in the round of its task
    pub written : (q : Name) (e : Entry) → IsIn (q, e) p.writes → V (suc n) q ≡ Some e
    written q e w =
        let g = in_history program.rules obeys (V n) t proper_t p of_t in
        let H = history program.rules (V n) t in
        of_entries program (suc n) q e
        (in_flat_map (writes_by program.rules (V n)) t (q, e) (tasks program (suc n)) there
        (in_begins (q, e) p.writes H.writes g.1 w))

    -- a promise that it has made is a cell of that round
    pub promised : (q : Name) → IsIn q p.promises → IsIn q (cells program (suc n))
    promised q w =
        let g = in_history program.rules obeys (V n) t proper_t p of_t in
        let H = history program.rules (V n) t in
        in_flat_map (cells_by program.rules (V n)) t q (tasks program (suc n)) there
        (inr (in_begins q p.promises H.promises g.2 w))

    -- a task that it has forked is one of the next round
    pub forked : (c : Task B) → IsIn c p.children → IsIn c (tasks program (suc (suc n)))
    forked c i =
        let u = within program n (suc n) (omega arith) in
        let g = in_history program.rules obeys (V (suc n)) t proper_t p
        (point_up program.rules (V n) (V (suc n)) u t p of_t) in
        child_in program.rules (V n) (V (suc n)) u (suc n) root t c there
        (in_begins c p.children (children program.rules (V (suc n)) t) g.0 i)
