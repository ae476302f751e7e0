-- What a seat has loaded of a cycle of waits: the alarm of a task, and then PHASE and OWN in turn, until the owner is
-- that task again.
use Rattle.std.specs.Prelude.{◌≡◌, ◌≢◌, ◌⊎◌, ℕ, suc, List, [], ◌∷◌, ◌++◌}
use Rattle.tj_base.specs.declared.cell.CellId.{CellId}
use Rattle.tj_events.specs.declared.walk.Way.{Way}
use Rattle.tj_log.specs.declared.entry.Entry.{Entry}
use Rattle.tj_words.specs.CallLaws.LoggedRuns.{in_order}
use Rattle.tj_words.specs.CallLaws.StepCalls as call
use Rattle.tj_words.specs.CallLaws.StepLogs.{entry_of}
use Rattle.tj_words.specs.Words.Phases.{phase_word}
use Rattle.tj_words.specs.Words.StopWords.{stop_word}
use Rattle.tj_words.specs.declared.stop.Stop.TheVariants.{Memory}
use Rattle.tj_words.specs.declared.phase.Walk.{Walk}
use Rattle.tj_words.specs.declared.phase.Walk.TheVariants as walk
use Rattle.tj_words.specs.declared.phase.Phase.{Phase}
use Rattle.tj_words.specs.declared.phase.Phase.TheVariants as phase

-- a task, the wait that PHASE of it was loaded as, and the task that OWN of the awaited cell was loaded as
pub record Turn : Type 0 where
  pub task : ℕ
  pub cell : CellId
  pub way : Way
  pub walk : Walk
  pub owner : ℕ

-- the load of PHASE of a task as this phase
abbrev pub phase_load : ℕ → Phase → Entry
phase_load t p = entry_of (call.sees_phase t) 0 0 (phase_word p)

-- the load of OWN of a cell as this task
abbrev pub owner_load : ℕ → ℕ → Entry
owner_load c u = entry_of (call.sees_owner c) 0 0 (suc u)

-- the loads of the turns, in their order
abbrev pub loads_of : List Turn → List Entry
loads_of [] = []
loads_of (x ∷ xs) =
    phase_load x.task (phase.Waiting x.cell x.way x.walk) ∷ owner_load x.cell.0 x.owner ∷ loads_of xs

-- the elements stand in the list in this order, perhaps with others between them
abbrev pub ArePartOf : {A : Type 0} → List A → List A → Type 0
ArePartOf [] ys = Unit {0}
ArePartOf (x ∷ xs) [] = ⊥
ArePartOf (x ∷ xs) (y ∷ ys) = ((x ≡ y) × ArePartOf xs ys) ⊎ ArePartOf (x ∷ xs) ys

-- the turns lead from t on to u, and none of their owners is the first task
abbrev pub IsWayOn : ℕ → ℕ → List Turn → ℕ → Type 0
IsWayOn first t [] u = t ≡ u
IsWayOn first t (x ∷ xs) u = (x.task ≡ t) × (x.owner ≢ first) × IsWayOn first x.owner xs u

-- the turns lead from t on back to the first task, and only the last of them comes to it
abbrev pub ComesBack : ℕ → ℕ → List Turn → Type 0
ComesBack first t [] = ⊥
ComesBack first t (x ∷ []) = (x.task ≡ t) × (x.owner ≡ first)
ComesBack first t (x ∷ y ∷ ys) = (x.task ≡ t) × (x.owner ≢ first) × ComesBack first x.owner (y ∷ ys)

-- the log, whose last step is in front, has the load of the alarm of t, and later these turns from t back to t
pub record HasRound (t : ℕ) (turns : List Turn) (log : List Entry) : Type 0 where
  pub cell : CellId
  pub way : Way
  pub loads : ArePartOf (phase_load t (phase.Waiting cell way walk.Alarmed) ∷ loads_of turns) (in_order log)
  pub back : ComesBack t t turns

-- the last step of the log, which stands in front, stored in STOP that memory is lacking: 2
abbrev pub StopsLast : List Entry → Type 0
StopsLast log = (before : List Entry) × (log ≡ entry_of call.stops (stop_word Memory) 0 (stop_word Memory) ∷ before)

-- the log has gone on
abbrev pub GrowsTo : List Entry → List Entry → Type 0
GrowsTo old new = (more : List Entry) × (new ≡ more ++ old)

-- the log has the load of an alarm of t
abbrev pub HasSeenAlarm : ℕ → List Entry → Type 0
HasSeenAlarm t log = (c : CellId) × (way : Way)
    × ArePartOf (phase_load t (phase.Waiting c way walk.Alarmed) ∷ []) (in_order log)
