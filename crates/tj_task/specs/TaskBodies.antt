-- A task as a body.
use Rattle.std.specs.Prelude.{ℕ, ◌+◌, ◌-◌, Option, Some, None}
use Rattle.tj_base.specs.declared.cause.Trouble.TheVariants as trouble
use Rattle.tj_body.specs.Asks.{Await, new_places}
use Rattle.tj_body.specs.declared.ask.Answer.{Answer}
use Rattle.tj_body.specs.declared.ask.Ask.{Ask}
use Rattle.tj_task.specs.Asked.{due_await, told_of, asked_within}
use Rattle.tj_task.specs.declared.body.Asked.{Asked}
use Rattle.tj_task.specs.declared.body.TaskBody.{TaskBody}
use Rattle.tj_task.specs.declared.turn.Told.{Told}
use Rattle.tj_task.specs.declared.turn.Turn.{Turn}
use Rattle.tj_task.specs.declared.turn.Turn.TheVariants as turn

module _ {T : Type 0} where
  -- its places
  abbrev pub task_places : TaskBody T → ℕ
  task_places b = b.places

  -- what it awaits
  abbrev pub task_awaits : TaskBody T → Await
  task_awaits b = due_await b.due

  -- how often it may ask before its last ask
  abbrev pub task_left : TaskBody T → ℕ
  task_left b = b.left

  -- the body that has asked this
  abbrev pub gone_on : Asked T → TaskBody T → TaskBody T
  gone_on x b = record b { task = x.then; due = x.due }

  module _ (does : T → Told → Turn T) where
    -- the turn of a task; one that has ended fails
    abbrev pub turn_of : Option T → Told → Turn T
    turn_of None w = turn.Fail trouble.Kind
    turn_of (Some t) w = does t w

    -- what its body asks for an answer
    abbrev pub asked : TaskBody T → Answer → Asked T
    asked b a = asked_within b.left (b.places + new_places a) b.most (turn_of b.task (told_of b.due a))

    abbrev pub task_asks : TaskBody T → Answer → Ask (TaskBody T)
    task_asks b a = (asked b a).ask

    -- what the body is from then on
    abbrev pub task_then : TaskBody T → Answer → TaskBody T
    task_then b a =
        gone_on (asked b a) (record b { places = b.places + new_places a; left = b.left - 1 })
