-- Which task has begun, what it waits for, and when it may act.
use Rattle.std.specs.Prelude.{ℕ, Option, Some, None}
use Rattle.tj_words.specs.declared.phase.Phase.{Phase}
use Rattle.tj_words.specs.declared.view.Does.{Does}
use Rattle.tj_words.specs.declared.phase.Phase.TheVariants as phase
use Rattle.tj_words.specs.declared.view.Does.TheVariants as does

-- the task has begun, or is ready to
abbrev pub IsBegun : Phase → Type 0
IsBegun phase.Unborn = ⊥
IsBegun phase.Ready = Unit {0}
IsBegun phase.Running = Unit {0}
IsBegun phase.Ended = Unit {0}
IsBegun phase.Promise = ⊥
IsBegun (phase.Waiting c way walk) = Unit {0}

-- what a task in this phase waits for
abbrev pub wait_in : Phase → Option ℕ
wait_in phase.Unborn = None
wait_in phase.Ready = None
wait_in phase.Running = None
wait_in phase.Ended = None
wait_in phase.Promise = None
wait_in (phase.Waiting c way walk) = Some c.0

-- the task runs, and hasn't raised OTHERS
abbrev pub MayAct : Does → Type 0
MayAct does.Unborn = ⊥
MayAct does.Fresh = Unit {0}
MayAct does.Running = Unit {0}
MayAct does.Raised = ⊥
MayAct (does.Walking c way w) = ⊥
MayAct (does.Alarmed c way w) = ⊥
