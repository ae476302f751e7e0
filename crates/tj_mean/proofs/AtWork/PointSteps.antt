-- Where a task comes to from a point that is one of rounds.
use Rattle.std.proofs.Common.{◌≡◌, ℕ, zero, suc, ◌+◌, ◌≤◌, Bool, true, false, Option, Some, None}
use Rattle.std.proofs.Common.{List, [], ◌∷◌, map, length, refl, sym, ap, ◌∙◌, subst, arith, length-append}
use Rattle.tj_base.specs.ForkOrder.{Name}
use Rattle.tj_body.specs.Programs.{Rules, Program, AreLawful}
use Rattle.tj_body.specs.History.{Assignment, after_look, after_read, after_stage, after_step, next_child, reference}
use Rattle.tj_body.specs.Points.{IsGood}
use Rattle.tj_body.specs.RoundPoints.{Becomes, IsOfRounds}
use Rattle.tj_body.specs.Inner.AskSteps.{IsAskStep, fails, ends, makes, forks, sets, gets, joins, prints}
use Rattle.tj_body.specs.declared.ask.Ask.{Ask}
use Rattle.tj_body.specs.declared.point.Entry.{Entry}
use Rattle.tj_body.specs.declared.point.Entry.TheVariants as entry
use Rattle.tj_body.specs.declared.point.Value.TheVariants as value
use Rattle.tj_body.specs.declared.point.PointStage.{PointStage}
use Rattle.tj_body.specs.declared.point.PointStage.TheVariants as stage
use Rattle.tj_body.specs.declared.point.Task.{Task}
use Rattle.tj_body.specs.declared.point.Point.{Point}
use Rattle.tj_body.proofs.Histories.Good.{goes}
use Rattle.tj_body.proofs.Histories.Grows as grown
use Rattle.tj_body.proofs.Histories.AskSteps.{is_ask_step}
use Rattle.tj_body.proofs.RoundPoints.{points_ask, points_read}
use Rattle.tj_mean.specs.Inner.Reached.{steps_from, Reaches}
use Rattle.tj_mean.proofs.AtWork.Fronts.{with_front, front-step}

module _ {B : Type 0} (rules : Rules B) (V : Assignment) where
  abbrev steps : Point B → ℕ → Point B
  steps p k = steps_from rules V p k

  -- a step more
  pub reaches_on : (p q : Point B) → Reaches rules V p q → Reaches rules V p (after_step rules V q)
  reaches_on p q r = (suc r.0, ap (after_step rules V) r.1)

  -- what was taken from a point can be put back at the end as well as at the beginning
  pub front_reaches : (ks : List (Task B)) (ws : List (Name × Entry)) (p q : Point B) → Reaches rules V p q
      → Reaches rules V (with_front ks ws p) (with_front ks ws q)
  front_reaches ks ws p q r = (r.0, ap (with_front ks ws) r.1 ∙ sym (by r.0)) where
    by : (k : ℕ) → steps (with_front ks ws p) k ≡ with_front ks ws (steps p k)
    by zero = refl
    by (suc k) = ap (after_step rules V) (by k) ∙ front-step ks ws rules V (steps p k)

  -- a point from which the task can go on leads to such points
  pub good_reaches : AreLawful rules → (p q : Point B) → IsGood rules p → Reaches rules V p q → IsGood rules q
  good_reaches o p q g r = subst (IsGood rules) (sym r.1) (by r.0) where
    by : (k : ℕ) → IsGood rules (steps p k)
    by zero = g
    by (suc k) = goes rules o V (steps p k).stage (steps p k) refl (by k)

  -- a task makes no fewer things than it forks children
  abbrev Grows : Point B → Point B → Type 0
  Grows p q = length q.children + p.made ≤ length p.children + q.made

  ask_step_grows : (p : Point B) (a : Ask B) (q : Point B) → IsAskStep rules.strict p a q → Grows p q
  ask_step_grows p _ _ (fails a c) = omega arith
  ask_step_grows p _ _ (ends v) = omega arith
  ask_step_grows p _ _ makes = omega arith
  ask_step_grows p _ _ (forks b pass hand left e) =
      let k = next_child b (map (reference p) pass) (map (λ k. (reference p k).name) hand) p in
      let l = length-append p.children (k ∷ []) in omega arith
  ask_step_grows p _ _ (sets i v s o) = omega arith
  ask_step_grows p _ _ (gets spare i s) = omega arith
  ask_step_grows p _ _ (joins spare i s o) = omega arith
  ask_step_grows p _ _ (prints i) = omega arith

  read_grows : (spare : Bool) (q : Name) (e : Entry) (p : Point B) → Grows p (after_read spare q e p)
  read_grows true q entry.Broken p = omega arith
  read_grows false q entry.Broken p = omega arith
  read_grows spare q (entry.Value (value.Num i)) p = omega arith
  read_grows spare q (entry.Value (value.Ref r)) p = omega arith

  look_grows : (spare : Bool) (q : Name) (e : Option Entry) (p : Point B) → Grows p (after_look spare q e p)
  look_grows spare q None p = omega arith
  look_grows spare q (Some e) p = read_grows spare q e p

  step_grows : (s : PointStage) (p : Point B) → Grows p (after_stage rules V s p)
  step_grows (stage.Answered a) p =
      let next : Point B = record p { body = rules.then p.body a } in
      ask_step_grows next (rules.asks p.body a) _ (is_ask_step rules.strict next (rules.asks p.body a))
  step_grows (stage.Waits q spare) p = look_grows spare q (V q) p
  step_grows (stage.Closed e) p = omega arith

  pub grows : (p q : Point B) → Reaches rules V p q → length q.children + p.made ≤ length p.children + q.made
  grows p q r = subst (Grows p) (sym r.1) (by r.0) where
    by : (k : ℕ) → Grows p (steps p k)
    by zero = omega arith
    by (suc k) = let a = by k in let b = step_grows (steps p k).stage (steps p k) in omega arith

  -- the task stays the same
  pub same_task : (p q : Point B) → Reaches rules V p q → q.name ≡ p.name
  same_task p q r = ap (λ (z : Point B). z.name) r.1 ∙ by r.0 where
    by : (k : ℕ) → (steps p k).name ≡ p.name
    by zero = refl
    by (suc k) = (grown.goes rules V (steps p k).stage (steps p k)).5 ∙ by k

module _ {B : Type 0} (program : Program B) (V : Assignment)
    (entered : (q : Name) (e : Entry) → V q ≡ Some e → Becomes program q e) where
  look_on : (spare : Bool) (q : Name) (o : Option Entry) (p : Point B) → V q ≡ o → p.stage ≡ stage.Waits q spare
      → IsOfRounds program p → IsOfRounds program (after_look spare q o p)
  look_on spare q None p e s h = h
  look_on spare q (Some x) p e s h = points_read program p q spare x h s (entered q x e)

  stage_on : (s : PointStage) (p : Point B) → p.stage ≡ s → IsOfRounds program p
      → IsOfRounds program (after_stage program.rules V s p)
  stage_on (stage.Answered a) p e h = points_ask program p a h e
  stage_on (stage.Waits q spare) p e h = look_on spare q (V q) p refl e h
  stage_on (stage.Closed c) p e h = h

  -- under entries of rounds a point of rounds leads to such points
  pub rounds_reach : (p q : Point B) → IsOfRounds program p → Reaches program.rules V p q → IsOfRounds program q
  rounds_reach p q h r = subst (IsOfRounds program) (sym r.1) (by r.0) where
    by : (k : ℕ) → IsOfRounds program (steps_from program.rules V p k)
    by zero = h
    by (suc k) = let s = steps_from program.rules V p k in stage_on s.stage s refl (by k)
