-- Under the strict rule a join against the fork order fails at once.
use Rattle.std.specs.Prelude.{◌≡◌, ◌⊎◌, ℕ, suc, true}
use Rattle.tj_base.specs.ForkOrder.{IsBefore, Name}
use Rattle.tj_base.specs.declared.cause.Cause.TheVariants as cause
use Rattle.tj_body.specs.History.{Assignment, history, point_after, reference, to_task}
use Rattle.tj_body.specs.Programs.{Rules}
use Rattle.tj_body.specs.declared.ask.Answer.{Answer}
use Rattle.tj_body.specs.declared.ask.Ask.TheVariants as ask
use Rattle.tj_body.specs.declared.point.Close.TheVariants as close
use Rattle.tj_body.specs.declared.point.PointStage.TheVariants as stage
use Rattle.tj_body.specs.declared.point.Task.{Task}

module _ {B : Type 0} (rules : Rules B) (t : Task B) where
  -- under this assignment the task comes to a point at which its body asks for the result of the task q, with `or` or
  -- without, and the task isn't before q in the fork order
  pub record JoinsAgainst (V : Assignment) (q : Name) : Type 0 where
    pub steps : ℕ
    pub given : Answer
    pub place : ℕ
    pub is_answered : (point_after rules V steps t).stage ≡ stage.Answered given
    pub joins : (rules.asks (point_after rules V steps t).body given ≡ ask.Join place)
        ⊎ (rules.asks (point_after rules V steps t).body given ≡ ask.JoinOr place)
    pub of_task : reference (point_after rules V steps t) place ≡ to_task q
    pub against : ¬ IsBefore t.name q

  -- the task has failed for the order by its very next step, whatever has become of q, and its history is that point
  pub record HasFailedThere (V : Assignment) (q : Name) (j : JoinsAgainst V q) : Type 0 where
    pub failed : (point_after rules V (suc j.steps) t).stage ≡ stage.Closed (close.Failed (cause.Order q))
    pub history_ends : history rules V t ≡ point_after rules V (suc j.steps) t

  -- under the strict rule each join against the order fails its task at once
  abbrev pub FailsAgainstOrder : Type 0
  FailsAgainstOrder = rules.strict ≡ true → (V : Assignment) (q : Name) (j : JoinsAgainst V q) → HasFailedThere V q j
