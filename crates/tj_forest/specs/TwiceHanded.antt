-- A fork to which a task hands one promise twice, and a history that ends with such a fork.
use Rattle.std.specs.Prelude.{◌≡◌, ◌<◌, ℕ, suc, List, map, slice_get, Some}
use Rattle.tj_base.specs.ForkOrder.{Name}
use Rattle.tj_body.specs.History.{Assignment, history, point_after, reference}
use Rattle.tj_body.specs.Programs.{Rules}
use Rattle.tj_body.specs.declared.ask.Answer.{Answer}
use Rattle.tj_body.specs.declared.ask.Ask.TheVariants as ask
use Rattle.tj_body.specs.declared.point.Point.{Point}
use Rattle.tj_body.specs.declared.point.PointStage.TheVariants as stage
use Rattle.tj_body.specs.declared.point.Task.{Task}

-- the name stands at two numbers of the list
abbrev pub IsTwiceIn : Name → List Name → Type 0
IsTwiceIn q names = (i : ℕ) × (j : ℕ) × (i < j) × (slice_get names i ≡ Some q) × (slice_get names j ≡ Some q)

module _ {B : Type 0} (rules : Rules B) where
  -- the task asks at this point for a fork, and hands it the promise twice
  pub record HandsTwice (p : Point B) (q : Name) : Type 0 where
    pub answer : Answer
    pub answered : p.stage ≡ stage.Answered answer
    pub child : B
    pub pass : List ℕ
    pub hand : List ℕ
    pub forks : rules.asks p.body answer ≡ ask.Fork child pass hand
    pub twice : IsTwiceIn q (map (λ k. (reference p k).name) hand)

  -- the history of the task ends with such an ask
  abbrev pub EndsHandingTwice : Assignment → Task B → Name → Type 0
  EndsHandingTwice V t q =
      (k : ℕ) × HandsTwice (point_after rules V k t) q × (point_after rules V (suc k) t ≡ history rules V t)
