-- Straight code that is run again from its start for each ask.
use Rattle.std.specs.Prelude.{List, [], ◌∷◌, ◌++◌}
use Rattle.tj_base.specs.declared.cause.Trouble.TheVariants as trouble
use Rattle.tj_task.specs.declared.plan.Do.{Do}
use Rattle.tj_task.specs.declared.plan.Do.TheVariants as does
use Rattle.tj_task.specs.declared.replay.Replay.{Replay}
use Rattle.tj_task.specs.declared.seen.Seen.{Seen}
use Rattle.tj_task.specs.declared.seen.Seen.TheVariants as seen
use Rattle.tj_task.specs.declared.turn.Told.{Told}
use Rattle.tj_task.specs.declared.turn.Told.TheVariants as told
use Rattle.tj_task.specs.declared.turn.Turn.{Turn}
use Rattle.tj_task.specs.declared.turn.Turn.TheVariants as turn

-- a step of a plan: the ask where it hasn't been asked yet, and else what comes after it
abbrev pub step : {T V : Type 0} → Seen V → Do T → (V → Do T) → Do T
step seen.Ask x k = x
step (seen.Told v) x k = k v
step seen.Other x k = does.Fail trouble.Kind

-- what it has been told, with this at the end
abbrev pub with_told : List Told → Told → List Told
with_told log told.Start = log
with_told log w = log ++ w ∷ []

module _ {T : Type 0} where
  -- a task that has been told nothing
  abbrev pub fresh : T → Replay T
  fresh plan = record { plan = plan; log = [] }

  -- the ask, with the task from then on
  abbrev pub turn_to : Do T → Replay T → Turn (Replay T)
  turn_to does.New t = turn.New t
  turn_to (does.Fork c) t = turn.Fork (fresh c) t
  turn_to (does.ForkWith c pass hand) t = turn.ForkWith (fresh c) pass hand t
  turn_to (does.Set p v) t = turn.Set p v t
  turn_to (does.Get p) t = turn.Get p t
  turn_to (does.Join c) t = turn.Join c t
  turn_to (does.GetOr p) t = turn.GetOr p t
  turn_to (does.JoinOr c) t = turn.JoinOr c t
  turn_to (does.Emit i) t = turn.Emit i t
  turn_to (does.End v) t = turn.End v
  turn_to (does.Fail t) _ = turn.Fail t

  -- what a replayed task does
  abbrev pub replay_turn : (T → List Told → Do T) → Replay T → Told → Turn (Replay T)
  replay_turn asks t w = let log = with_told t.log w in
      turn_to (asks t.plan log) (record { plan = t.plan; log = log })
