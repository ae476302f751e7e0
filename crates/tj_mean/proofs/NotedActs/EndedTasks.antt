-- A task whose result has an entry in a round is a task of it, and its history ended under the assignment before.
use Rattle.std.proofs.Common.{◌≡◌, ℕ, suc, ◌+◌, ◌≤◌, Some, None, inl, inr, refl, sym, ◌∙◌, subst, arith}
use Rattle.tj_base.specs.ForkOrder.{Name}
use Rattle.tj_body.specs.Programs.{Program}
use Rattle.tj_body.specs.History.{Assignment, history, owned, owned_in}
use Rattle.tj_body.specs.Rounds.{cells_by, given, tasks}
use Rattle.tj_body.specs.Points.{IsIn, HasEnded}
use Rattle.tj_body.specs.declared.point.Entry.{Entry}
use Rattle.tj_body.specs.declared.point.PointStage.{PointStage}
use Rattle.tj_body.specs.declared.point.PointStage.TheVariants as stage
use Rattle.tj_body.specs.declared.point.Point.{Point}
use Rattle.tj_body.specs.declared.point.Task.{Task}
use Rattle.tj_body.proofs.Counts.{is, times, times_of_in, total_flat_map, total_one}
use Rattle.tj_body.proofs.Lists.{from_flat_map, in_begins}
use Rattle.tj_body.proofs.Rounds.Families.{same_name}
use Rattle.tj_body.proofs.Rounds.Rises.{entry_cell, grown, once_name, owned_open, tasks_within, within}

module _ {B : Type 0} (program : Program B) where
  abbrev V : ℕ → Assignment
  V n = given program n

  -- a task that hasn't ended owns its result
  ended_or_owns : (p : Point B) (st : PointStage) → p.stage ≡ st → ¬ IsIn p.name (owned p) → HasEnded p
  ended_or_owns p (stage.Answered a) e not =
      absurd (not (subst (λ z. IsIn p.name (owned_in z p.name p.holds)) (sym e) (inl refl)))
  ended_or_owns p (stage.Waits q spare) e not =
      absurd (not (subst (λ z. IsIn p.name (owned_in z p.name p.holds)) (sym e) (inl refl)))
  ended_or_owns p (stage.Closed c) e not = (c, e)

  -- a task of the round whose result has an entry there ended under the assignment before
  pub ended_in : (m : ℕ) (t : Task B) (e : Entry) → IsIn t (tasks program (suc m)) → V (suc m) t.name ≡ Some e
      → HasEnded (history program.rules (V m) t)
  ended_in m t e there has =
      let p = history program.rules (V m) t in
      let named = same_name program.rules (V m) t in
      ended_or_owns p p.stage refl (λ i.
      let unset = owned_open program m t t.name there (subst (λ x. IsIn x (owned p)) named i) in
      let z : None ≡ Some e = sym unset ∙ has in absurd (cc))

  -- what is a cell of a task is one under a later round
  cells_stay : (n m : ℕ) → n ≤ m → (x : Task B) (q : Name) → IsIn q (cells_by program.rules (V n) x)
      → IsIn q (cells_by program.rules (V m) x)
  cells_stay n m l x q (inl e) = inl e
  cells_stay n m l x q (inr i) = inr (in_begins q (history program.rules (V n) x).promises
      (history program.rules (V m) x).promises (grown program.rules (V n) (V m) (within program n m l) x).2 i)

  -- a task of any round whose result has an entry in this one is a task of it
  pub task_of_entry : (k m : ℕ) (t : Task B) (e : Entry) → IsIn t (tasks program k) → V (suc m) t.name ≡ Some e
      → IsIn t (tasks program (suc m))
  task_of_entry k m t e there has =
      let q = t.name in
      let n = m + k in
      let f = from_flat_map (cells_by program.rules (V m)) q (tasks program (suc m))
      (entry_cell program (suc m) q e has) in
      let x = f.0 in
      let x_there = tasks_within program (suc m) (suc n) (omega arith) x f.1 in
      let t_there = tasks_within program k (suc n) (omega arith) t there in
      let x_makes = times_of_in q (cells_by program.rules (V n) x) (cells_stay m n (omega arith) x q f.2) in
      let t_makes = times_of_in q (cells_by program.rules (V n) t) (inl refl) in
      let once = once_name program (suc n) q in
      let all = total_flat_map (is q) (cells_by program.rules (V n)) (tasks program (suc n)) in
      let same = total_one (λ y. times q (cells_by program.rules (V n) y)) (tasks program (suc n)) (omega arith)
      t x t_there x_there (omega arith) (omega arith) in
      subst (λ y. IsIn y (tasks program (suc m))) (sym same) f.1
