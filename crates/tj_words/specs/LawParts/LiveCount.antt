-- Live count: LIVE counts the tasks that are ready, running or walking, and the tokens of the seats.
use Rattle.std.specs.Prelude.{◌≡◌, ◌≢◌, ◌⊎◌, ℕ, zero, suc, ◌+◌, ◌<◌, Bool, true, List, [], Option, Some}
use Rattle.tj_words.specs.declared.phase.Walk.TheVariants as walk
use Rattle.tj_words.specs.declared.phase.Phase.{Phase}
use Rattle.tj_words.specs.declared.phase.Phase.TheVariants as phase
use Rattle.tj_words.specs.declared.offsets.Once.TheVariants as once
use Rattle.tj_words.specs.declared.view.Does.{Does}
use Rattle.tj_words.specs.declared.view.Does.TheVariants as does
use Rattle.tj_words.specs.declared.view.Custody.{Custody}
use Rattle.tj_words.specs.declared.view.Due.{Due}
use Rattle.tj_words.specs.declared.view.Rest.{Rest}
use Rattle.tj_words.specs.declared.view.Push.{Push}
use Rattle.tj_words.specs.declared.view.View.{View}
use Rattle.tj_words.specs.Words.Lists.{Each, Any, total}
use Rattle.tj_words.specs.LawParts.Holding.{held_in}

-- 1 for a phase that counts
abbrev pub live_part : Phase → ℕ
live_part phase.Unborn = 0
live_part phase.Ready = 1
live_part phase.Running = 1
live_part phase.Ended = 0
live_part phase.Promise = 0
live_part (phase.Waiting c way walk.Walking) = 1
live_part (phase.Waiting c way walk.Parked) = 0
live_part (phase.Waiting c way walk.Alarmed) = 0

-- how many of the first n cells are ready, running or walking
abbrev pub live_tasks : (ℕ → Phase) → ℕ → ℕ
live_tasks phase zero = 0
live_tasks phase (suc n) = live_part (phase n) + live_tasks phase n

-- LIVE is the number of live tasks and of tokens; where a seat has loaded it as 0, it is 0
pub record LiveCount (cells live : ℕ) (phase : ℕ → Phase) (tokens : List ℕ) (rested : List Bool) : Type 0 where
  pub counted : live ≡ live_tasks phase cells + total tokens
  pub stays_at_rest : Each (λ j rested. rested ≡ true → live ≡ 0) rested

-- of a task that runs, walks or has alarmed what is asked of such a one; an unborn one does none of the three
abbrev pub DoesOne : Type 0 → Type 0 → Type 0 → Does → Type 0
DoesOne runs walks alarmed does.Unborn = ⊥
DoesOne runs walks alarmed does.Fresh = runs
DoesOne runs walks alarmed does.Running = runs
DoesOne runs walks alarmed does.Raised = runs
DoesOne runs walks alarmed (does.Walking c way w) = walks
DoesOne runs walks alarmed (does.Alarmed c way w) = alarmed

-- the task runs
abbrev pub DoesRun : Does → Type 0
DoesRun = DoesOne (Unit {0}) ⊥ ⊥

-- the task walks
abbrev pub DoesWalk : Does → Type 0
DoesWalk = DoesOne ⊥ (Unit {0}) ⊥

-- the task has alarmed
abbrev pub HasAlarmed : Does → Type 0
HasAlarmed = DoesOne ⊥ ⊥ (Unit {0})

-- the seat has a step of the chains to come: a push or the exchange in its place, a shut, or a rest
abbrev pub HasWake : List Push → List ℕ → Option Rest → Type 0
HasWake pushes shuts rest = (pushes ≢ []) ⊎ ((shuts ≢ []) ⊎ ((r : Rest) × (rest ≡ Some r)))

module _ {B : Type 0} where
  -- the seat holds a task that does so
  abbrev pub HoldsIn : (Does → Type 0) → List (Custody B) → Type 0
  HoldsIn F tasks = (t : ℕ) × (k : Custody B) × (held_in tasks t ≡ Some k) × F k.does

  -- the same of a view
  abbrev pub Holds : (Does → Type 0) → View B → Type 0
  Holds F v = HoldsIn F v.tasks

  -- the seat holds a token or a running task
  abbrev pub IsBackedBy : ℕ → List (Custody B) → Type 0
  IsBackedBy tokens tasks = (0 < tokens) ⊎ HoldsIn DoesRun tasks

  -- the same of a view
  abbrev pub IsBacked : View B → Type 0
  IsBacked v = IsBackedBy v.tokens v.tasks

  -- the seat holds a token or a running or walking task
  abbrev pub IsLivelyBy : ℕ → List (Custody B) → Type 0
  IsLivelyBy tokens tasks = (0 < tokens) ⊎ (HoldsIn DoesRun tasks ⊎ HoldsIn DoesWalk tasks)

  -- the same of a view
  abbrev pub IsLively : View B → Type 0
  IsLively v = IsLivelyBy v.tokens v.tasks

  -- a seat with this view has such a step to come
  abbrev pub HasWakeToCome : View B → Type 0
  HasWakeToCome v = HasWake v.pushes v.shuts v.rest

  -- what a seat holds that has something to come
  pub record BackingOf (tokens : ℕ) (tasks : List (Custody B)) (pushes : List Push) (shuts : List ℕ)
      (rest : Option Rest) (dues : List Due) : Type 0 where
    pub wakes : HasWake pushes shuts rest → IsBackedBy tokens tasks
    pub tags : Any (λ (d : Due). d.word ≡ once.Tag) dues → IsLivelyBy tokens tasks
    pub alarms : HoldsIn HasAlarmed tasks → 0 < tokens

  -- the same of a view
  abbrev pub Backing : View B → Type 0
  Backing v = BackingOf v.tokens v.tasks v.pushes v.shuts v.rest v.dues
