-- Under the strict rule and without gets, a task waits only for the result of a task of some round, which it is before:
-- it waits by a join, so for a reference to a task, which names one of some round.
use Rattle.std.proofs.Common.{◌≡◌, ℕ, zero, suc, ◌*◌, Bool, true, false, not, ◌&&◌, inl, inr, ⊎_elim}
use Rattle.std.proofs.Common.{List, [], ◌∷◌, map, Option, Some, None, refl, sym, ◌∙◌, subst, arith}
use Rattle.tj_base.specs.ForkOrder.{Name, before, IsBefore}
use Rattle.tj_base.specs.declared.cell.Sort.TheVariants as sort
use Rattle.tj_base.proofs.Orders.{before_tells}
use Rattle.tj_body.specs.Programs.{Program, AreLawful, strictly, root_task}
use Rattle.tj_body.specs.History.{Assignment, reference, next_child, after_read, after_look, after_stage, point_after}
use Rattle.tj_body.specs.History.{history}
use Rattle.tj_body.specs.Rounds.{family, given, tasks, last_round, meaning, IsFull}
use Rattle.tj_body.specs.Points.{IsIn, IsProper, MayAnswer, IsGoodAt, IsGood}
use Rattle.tj_body.specs.RoundPoints.{IsNamed}
use Rattle.tj_body.specs.NeverWaits.{NoneWaits, WaitInOrder, IsNoGet, IsWithoutGet}
use Rattle.tj_body.specs.Inner.AskSteps.{get_of, IsAskStep, fails, ends, makes, forks, sets, gets, joins, prints}
use Rattle.tj_body.specs.declared.ask.Ask.{Ask}
use Rattle.tj_body.specs.declared.point.Entry.{Entry}
use Rattle.tj_body.specs.declared.point.Value.TheVariants as value
use Rattle.tj_body.specs.declared.point.Entry.TheVariants as entry
use Rattle.tj_body.specs.declared.point.PointStage.{PointStage}
use Rattle.tj_body.specs.declared.point.PointStage.TheVariants as stage
use Rattle.tj_body.specs.declared.point.Task.{Task}
use Rattle.tj_body.specs.declared.point.Point.{Point}
use Rattle.tj_body.proofs.Lists.{in_either, in_flat_map, from_flat_map, in_map, to_map}
use Rattle.tj_body.proofs.Histories.AskSteps.{is_ask_step}
use Rattle.tj_body.proofs.Rounds.Families.{same_name}
use Rattle.tj_body.proofs.Histories.Good.{good, task_proper}
use Rattle.tj_body.proofs.Rounds.Rises.{tasks_within}
use Rattle.tj_body.proofs.Rounds.Settles.{is_last}
use Rattle.tj_body.proofs.References.{at_place, has_named}
use Rattle.tj_body.proofs.Rounds.InOrder.{none_waits}

before_so : (b : Bool) → (true && not b) ≡ false → b ≡ true
before_so true e = refl
before_so false e = sym e

module _ {B : Type 0} (calm : B → Bool) (TaskName : Name → Type 0) where
  -- the task's body passes the test, and so do those of its children
  abbrev IsKept : Point B → Type 0
  IsKept p = (calm p.body ≡ true) × ((c : Task B) → IsIn c p.children → calm c.body ≡ true)

  -- a task that waits does so for a task of some round that it is before
  abbrev pub WaitsAt : PointStage → Name → Type 0
  WaitsAt (stage.Answered a) x = Unit {0}
  WaitsAt (stage.Waits q spare) x = TaskName q × (before x q ≡ true)
  WaitsAt (stage.Closed e) x = Unit {0}

  abbrev pub IsCalm : Point B → Type 0
  IsCalm p = IsKept p × WaitsAt p.stage p.name

  no_get_of : (spare : Bool) (k : ℕ) → IsNoGet calm (get_of spare k) → ⊥
  no_get_of true k h = h
  no_get_of false k h = h

  -- an ask that is no get keeps it
  ask_steps : (p : Point B) (a : Ask B) (p' : Point B) → IsAskStep true p a p' → IsNoGet calm a → IsKept p
      → ((k : ℕ) → (reference p k).sort ≡ sort.Task → TaskName (reference p k).name) → IsCalm p'
  ask_steps p _ _ (fails a c) y k n = (k, tt)
  ask_steps p _ _ (ends v) y k n = (k, tt)
  ask_steps p _ _ makes y k n = (k, tt)
  ask_steps p _ _ (forks b pass hand l e) y k n =
      ((k.0, λ c i. ⊎_elim (λ j. k.1 c j) (λ j. newest c j) (in_either c p.children _ i)), tt) where
        newest : (c : Task B)
            → IsIn c (next_child b (map (reference p) pass) (map (λ k. (reference p k).name) hand) p ∷ [])
            → calm c.body ≡ true
        newest c (inl e) = subst (λ (z : Task B). calm z.body ≡ true) (sym e) y
        newest c (inr j) = absurd j
  ask_steps p _ _ (sets i v s o) y k n = (k, tt)
  ask_steps p _ _ (gets spare i s) y k n = absurd (no_get_of spare i y)
  ask_steps p _ _ (joins spare i s o) y k n = (k, (n i s, before_so (before p.name (reference p i).name) o))
  ask_steps p _ _ (prints i) y k n = (k, tt)

  -- and so does the answer of a wait
  reads : (spare : Bool) (c : Name) (x : Entry) (p : Point B) → IsKept p → IsCalm (after_read spare c x p)
  reads true c entry.Broken p k = (k, tt)
  reads false c entry.Broken p k = (k, tt)
  reads spare c (entry.Value (value.Num i)) p k = (k, tt)
  reads spare c (entry.Value (value.Ref r)) p k = (k, tt)

  looks : (spare : Bool) (c : Name) (o : Option Entry) (p : Point B) → IsCalm p → IsCalm (after_look spare c o p)
  looks spare c None p g = g
  looks spare c (Some x) p g = reads spare c x p g.0

-- the program under the strict rule, whatever its own
module _ {B : Type 0} (given_program : Program B) (obeys : AreLawful given_program.rules)
    (proper : IsProper (strictly given_program).rules (root_task given_program.root)) (calm : B → Bool)
    (no_get : IsWithoutGet given_program.rules calm) (calm_root : calm given_program.root ≡ true) where
  abbrev program : Program B
  program = strictly given_program

  abbrev V : ℕ → Assignment
  V n = given program n

  abbrev tasks_of : ℕ → List (Task B)
  tasks_of n = tasks program n

  abbrev Calm : Point B → Type 0
  Calm p = IsCalm calm (IsNamed program sort.Task) p

  goes : (W : Assignment) (st : PointStage) (p : Point B) → p.stage ≡ st → IsGood program.rules p → Calm p
      → ((k : ℕ) → (reference p k).sort ≡ sort.Task → IsNamed program sort.Task (reference p k).name)
      → Calm (after_stage program.rules W st p)
  goes W (stage.Answered a) p e g k f =
      let m : MayAnswer program.rules a p = subst (λ z. IsGoodAt program.rules z p) e g.at_stage in
      let n = no_get p.body a k.0.0 m.fits in
      let ask = program.rules.asks p.body a in
      let next : Point B = record p { body = program.rules.then p.body a } in
      ask_steps calm (IsNamed program sort.Task) next ask _ (is_ask_step true next ask) n.0 (n.1, k.0.1) f
  goes W (stage.Waits q spare) p e g k f = looks calm (IsNamed program sort.Task) spare q (W q) p k
  goes W (stage.Closed x) p e g k f = k

  -- each point of a task of a round is so
  points : (n : ℕ) (t : Task B) → IsIn t (tasks_of (suc n)) → calm t.body ≡ true → (k : ℕ)
      → Calm (point_after program.rules (V n) k t)
  points n t i c zero = ((c, (λ x j. absurd j)), tt)
  points n t i c (suc k) =
      let p = point_after program.rules (V n) k t in
      let t_proper = task_proper program obeys proper (suc n) t i in
      let named = has_named program obeys proper n t i k in
      goes (V n) p.stage p refl (good program.rules obeys (V n) t t_proper k) (points n t i c k)
      (λ j e. subst (λ s. IsNamed program s (reference p j).name) e
      (at_place (IsNamed program) p.name p.references j named.0 named.1))

  in_family : (n d : ℕ) (t : Task B)
      → ((c : Task B) → IsIn c (family program.rules (V n) d t) → IsIn c (tasks_of (suc n))) → calm t.body ≡ true
      → (c : Task B) → IsIn c (family program.rules (V n) d t) → calm c.body ≡ true
  in_family n zero t s k c (inl e) = subst (λ (z : Task B). calm z.body ≡ true) (sym e) k
  in_family n zero t s k c (inr i) = absurd i
  in_family n (suc d) t s k c (inl e) = subst (λ (z : Task B). calm z.body ≡ true) (sym e) k
  in_family n (suc d) t s k c (inr i) =
      let children = (history program.rules (V n) t).children in
      let f = from_flat_map (family program.rules (V n) d) c children i in
      let p = points n t (s t (inl refl)) k (2 * suc (program.rules.left t.body)) in
      in_family n d f.0
      (λ x j. s x (inr (in_flat_map (family program.rules (V n) d) f.0 x children f.1 j))) (p.0.1 f.0 f.1) c f.2

  -- each task of a round is so
  calm_tasks : (n : ℕ) (t : Task B) → IsIn t (tasks_of (suc n)) → calm t.body ≡ true
  calm_tasks n t i = in_family n (suc n) (root_task program.root) (λ c j. j) calm_root t i

  module _ (N : ℕ) (fits : ¬ IsFull program N) where
    abbrev last : ℕ
    last = last_round N

    abbrev history_of : Task B → Point B
    history_of t = history program.rules (V last) t

    -- in the meaning a task waits only for the result of a task that it is before
    in_order_waits : WaitInOrder (meaning program N)
    in_order_waits p q spare i e = by (in_map history_of p (tasks_of last) i) where
      by : ((t : Task B) × IsIn t (tasks_of last) × (p ≡ history_of t))
          → (u : Point B) × IsIn u (meaning program N) × (u.name ≡ q) × IsBefore p.name u.name
      by r =
          let there = tasks_within program last (suc last) (omega arith) r.0 r.1 in
          let k = points last r.0 there (calm_tasks last r.0 there) (2 * suc (program.rules.left r.0.body)) in
          let w : WaitsAt calm (IsNamed program sort.Task) (stage.Waits q spare) p.name =
          subst (λ z. WaitsAt calm (IsNamed program sort.Task) z p.name) e (subst Calm (sym r.2) k).1 in
          let u = w.0.0 in
          let j = ((is_last program N fits).0 w.0.1.0).0 u w.0.1.1 in
          let name : (history_of u).name ≡ q = same_name program.rules (V last) u ∙ w.0.2 in (
            history_of u,
            to_map history_of u (tasks_of last) j,
            name,
            subst (IsBefore p.name) (sym name) ((before_tells p.name q (before p.name q) refl).0 w.1),
          )

    -- and so none waits
    pub never_waits : NoneWaits (meaning program N)
    never_waits = none_waits program obeys proper N fits in_order_waits
