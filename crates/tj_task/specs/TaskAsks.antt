-- What a task asks, against the laws of one ask: a lawful ask is given as the task's turn says it, and a failure stands
-- for any other.
use Rattle.std.specs.Prelude.{◌≡◌, ◌<◌, ◌+◌, ◌⊎◌, ℕ, Option, Some}
use Rattle.tj_base.specs.declared.cause.Trouble.TheVariants as trouble
use Rattle.tj_body.specs.Asks.{Ends, IsPlaced, new_places}
use Rattle.tj_body.specs.declared.ask.Answer.{Answer}
use Rattle.tj_body.specs.declared.ask.Ask.TheVariants as ask
use Rattle.tj_task.specs.Asked.{ask_of, then_of, told_of}
use Rattle.tj_task.specs.TaskBodies.{task_places, task_awaits, task_left, task_asks, task_then}
use Rattle.tj_task.specs.declared.body.TaskBody.{TaskBody}
use Rattle.tj_task.specs.declared.turn.Told.{Told}
use Rattle.tj_task.specs.declared.turn.Turn.{Turn}

module _ {T : Type 0} where
  -- the body's ask for the answer, with the places that the task has then, is one that the laws of one ask allow
  abbrev pub IsLawful : TaskBody T → Answer → Turn T → Type 0
  IsLawful b a x = IsPlaced task_places task_awaits task_left (b.places + new_places a) (ask_of b.most x)

  -- the ask is within the bound: the task's last one, or one of those that it may ask before its last one
  abbrev pub IsWithin : TaskBody T → Turn T → Type 0
  IsWithin b x = Ends (ask_of b.most x) ⊎ (0 < b.left)

  module _ (does : T → Told → Turn T) where
    -- each turn of a task that goes on has this
    abbrev pub HoldsOfTurns : (TaskBody T → Answer → Turn T → Type 0) → Type 0
    HoldsOfTurns P = (b : TaskBody T) (a : Answer) (t : T) → b.task ≡ Some t → P b a (does t (told_of b.due a))

    -- a lawful ask within the bound is given unchanged, and the task is from then on what its turn says
    abbrev pub GivesLawful : TaskBody T → Answer → Turn T → Type 0
    GivesLawful b a x = IsLawful b a x → IsWithin b x
        → (task_asks does b a ≡ ask_of b.most x) × ((task_then does b a).task ≡ then_of x)

    -- for any other ask within the bound the task fails with a fault of kind
    abbrev pub FailsUnlawful : TaskBody T → Answer → Turn T → Type 0
    FailsUnlawful b a x = ¬ IsLawful b a x → IsWithin b x → task_asks does b a ≡ ask.Fail trouble.Kind

    -- beyond the bound it fails with a spent limit
    abbrev pub FailsBeyond : TaskBody T → Answer → Turn T → Type 0
    FailsBeyond b a x = ¬ IsWithin b x → task_asks does b a ≡ ask.Fail trouble.Steps
