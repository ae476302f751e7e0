-- What the end of a task leaves in the log of the seat, and in the pool: each promise that the task owed is closed, and
-- then those who waited for it are woken; the result is closed, Ended is stored, those who waited for the result are
-- woken, and LIVE is lowered at last.
use Rattle.std.specs.Prelude.{◌≡◌, ◌⊎◌, ℕ, List, [], ◌∷◌, ◌++◌, drop, Option, Some, None}
use Rattle.tj_base.specs.declared.cell.CellId.{CellId}
use Rattle.tj_cells.specs.CallLogs.{Makes, MakesClosed, Seat, phase_entry}
use Rattle.tj_words.specs.CallLaws.StepCalls as call
use Rattle.tj_words.specs.CallLaws.StepLogs.{entry_of}
use Rattle.tj_words.specs.Words.Lists.{numbers}
use Rattle.tj_words.specs.declared.phase.Phase.TheVariants as phase
use Rattle.tj_record.specs.declared.record.Fill.{Fill}
use Rattle.tj_record.specs.declared.record.Finish.{Finish}
use Rattle.tj_record.specs.declared.record.Finish.TheVariants as how
use Rattle.tj_record.specs.declared.record.Rec.{Rec}
use Rattle.tj_record.specs.TaskRecords.{ended_record}
use Rattle.tj_park.specs.Wakes.{HasNotedNothing, WakesAll, WakesSome}

-- what the result of a task that has finished like this is closed with
abbrev pub closed_with : Finish → Option Fill
closed_with (how.Done v) = Some v
closed_with (how.Failed why) = None

module _ {B P : Type 0} (puts : P → CellId → P → Type 0) where
  -- for one of these promises after the other: it was broken, by which the pool had nothing done to it and nothing was
  -- noted, and all who waited for it were woken and put into the pool; no other step was made
  abbrev pub BreaksEach : List ℕ → Seat B → Seat B → P → P → Type 0
  BreaksEach [] old new a b = (new ≡ old) × (b ≡ a)
  BreaksEach (p ∷ ps) old new a b = (closed woken : Seat B) × (between : P) × (n : ℕ)
      × MakesClosed p None old closed × HasNotedNothing old.me.0 closed.me.0
      × WakesAll puts p n closed woken a between × BreaksEach ps woken new between b

  -- the first of these promises were broken, each with its wakes, and then one more, at a wake of which the pool
  -- refused a task
  pub record BreaksSome (same : P → P → Type 0) (ps : List ℕ) (old new : Seat B) (a b : P) : Type 0 where
    pub done : List ℕ
    pub last : ℕ
    pub others : List ℕ
    pub all : ps ≡ done ++ last ∷ others
    pub before : Seat B
    pub closed : Seat B
    pub between : P
    pub breaks : BreaksEach done old before a between
    pub closes : MakesClosed last None before closed
    pub noted : HasNotedNothing before.me.0 closed.me.0
    pub wakes : WakesSome puts same last closed new between b

  -- the promises that t owed by its record were broken, each with its wakes; its result was closed as its record says,
  -- and then PHASE of t stored as Ended, by which nothing was noted; these steps put this one record home, its task
  -- having ended
  pub record StoresEnded (t : ℕ) (r : Rec B) (old new : Seat B) (a b : P) : Type 0 where
    pub broken : Seat B
    pub closed : Seat B
    pub finish : Finish
    pub finished : r.finish ≡ Some finish
    pub breaks : BreaksEach (numbers (drop 1 r.owned)) old broken a b
    pub closes : MakesClosed t (closed_with finish) broken closed
    pub ends : Makes (phase_entry t phase.Ended ∷ []) closed new
    pub noted : HasNotedNothing broken.me.0 new.me.0
    pub put_home : new.me.0.put_home ≡ ended_record r ∷ old.me.0.put_home

  -- then all who waited for the result of t were woken, and LIVE was lowered at last
  pub record EndsTask (t : ℕ) (r : Rec B) (old new : Seat B) (a b : P) : Type 0 where
    pub ended : Seat B
    pub woken : Seat B
    pub between : P
    pub number : ℕ
    pub live : ℕ
    pub stores : StoresEnded t r old ended a between
    pub wakes : WakesAll puts t number ended woken between b
    pub lowers : Makes (entry_of call.lowers_live 1 0 live ∷ []) woken new
    pub noted : HasNotedNothing woken.me.0 new.me.0

  -- the pool refused a task, at a wake of those who waited for a promise, or for the result, and no step came then
  abbrev pub FailsToEnd : (P → P → Type 0) → ℕ → Rec B → Seat B → Seat B → P → P → Type 0
  FailsToEnd same t r old new a b = BreaksSome same (numbers (drop 1 r.owned)) old new a b
      ⊎ ((ended : Seat B) × (between : P) × StoresEnded t r old ended a between
      × WakesSome puts same t ended new between b)
