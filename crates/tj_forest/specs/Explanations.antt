-- The law of explanations: a list of findings tells each wait, each failure and each promise owed of a meaning, once,
-- and nothing else. It speaks of the findings and of the histories of the tasks, and of no line of a trace.
use Rattle.std.specs.Prelude.{◌≡◌, ◌↔◌, ℕ, Bool, true, false, List, [], ◌∷◌, ◌++◌, map, take, drop, Some}
use Rattle.std.specs.List.{flat_map}
use Rattle.tj_base.specs.Cycles.{Reaches}
use Rattle.tj_base.specs.ForkOrder.{Name}
use Rattle.tj_base.specs.declared.cause.Cause.{Cause}
use Rattle.tj_base.specs.declared.cause.Cause.TheVariants as cause
use Rattle.tj_body.specs.Asks.{IsFresh}
use Rattle.tj_body.specs.Laws.{AreDistinct}
use Rattle.tj_body.specs.Names.{at_most}
use Rattle.tj_body.specs.Points.{IsIn}
use Rattle.tj_body.specs.Rounds.{IsFull, meaning}
use Rattle.tj_body.specs.WaitGraph.{WaitsFor}
use Rattle.tj_body.specs.declared.point.Point.{Point}
use Rattle.tj_eval.specs.Bodies.{script_awaits, script_left, script_places}
use Rattle.tj_eval.specs.Stands.{PlacedState}
use Rattle.tj_mean.specs.Outcomes.{IsOutcome, ending_of, is_marked}
use Rattle.tj_mean.specs.declared.outcome.Ending.{Ending}
use Rattle.tj_mean.specs.declared.outcome.Ending.TheVariants as ending
use Rattle.tj_mean.specs.declared.outcome.Link.{Link}
use Rattle.tj_mean.specs.declared.outcome.Outcome.{Outcome}
use Rattle.tj_trace.specs.Logs.{logged_program}
use Rattle.tj_trace.specs.TraceLaws.{script_program}
use Rattle.tj_trace.specs.Traces.{AreTraced}
use Rattle.tj_trace.specs.declared.line.TraceLine.{TraceLine}
use Rattle.tj_findings.specs.Findings.{findings_of}
use Rattle.tj_findings.specs.declared.finding.Finding.{Finding}
use Rattle.tj_findings.specs.declared.finding.Finding.TheVariants as finding
use Rattle.tj_findings.specs.declared.finding.Wait.{Wait}

-- a task with the cell for which it is told to wait
abbrev pub link_told : Wait → Link
link_told w = record { task = w.task.name; cell = w.cell.name }

-- the waits that a finding tells
abbrev pub waits_in : Finding → List Link
waits_in (finding.Cycle waits) = map link_told waits
waits_in (finding.Behind w) = link_told w ∷ []
waits_in (finding.Failed t c m) = []
waits_in (finding.Owed q t) = []
waits_in (finding.Echo t q o) = []

-- the failures that it tells, each a task with the cause
abbrev pub failures_in : Finding → List (Name × Cause)
failures_in (finding.Cycle waits) = []
failures_in (finding.Behind w) = []
failures_in (finding.Failed t c m) = (t.name, c) ∷ []
failures_in (finding.Owed q t) = []
failures_in (finding.Echo t q o) = (t.name, cause.Broken q.name) ∷ []

-- the promises owed that it tells, each behind the task that owed it
abbrev pub debts_in : Finding → List (Name × Name)
debts_in (finding.Cycle waits) = []
debts_in (finding.Behind w) = []
debts_in (finding.Failed t c m) = []
debts_in (finding.Owed q t) = (t.name, q.name) ∷ []
debts_in (finding.Echo t q o) = []

module _ {B : Type 0} (ps : List (Point B)) where
  -- a task with this name stopped so
  abbrev pub StoppedSo : Name → Ending → Type 0
  StoppedSo x e = (p : Point B) × IsIn p ps × (p.name ≡ x) × (ending_of p.stage ≡ Some e)

  -- a task with this name owed the promise where it ended or failed
  abbrev pub OwedIt : Name → Name → Type 0
  OwedIt x q = (p : Point B) × IsIn p ps × (p.name ≡ x) × IsIn q p.owed

  -- the findings tell each wait, each failure and each promise owed, and no other; each task that waits or failed once,
  -- and each promise once
  pub record TellsEachOnce (fs : List Finding) : Type 0 where
    pub waits : (k : Link) → IsIn k (flat_map waits_in fs) ↔ StoppedSo k.task (ending.Waits k.cell)
    pub waits_once : AreDistinct (map (λ k. k.task) (flat_map waits_in fs))
    pub failures : (x : Name) (c : Cause) → IsIn (x, c) (flat_map failures_in fs) ↔ StoppedSo x (ending.Failed c)
    pub failures_once : AreDistinct (map (λ f. f.0) (flat_map failures_in fs))
    pub debts : (x q : Name) → IsIn (x, q) (flat_map debts_in fs) ↔ OwedIt x q
    pub debts_once : AreDistinct (map (λ d. d.1) (flat_map debts_in fs))

-- so does the list of findings of each run of a script
abbrev pub FindingsTellEachOnce : Bool → PlacedState → Type 0
FindingsTellEachOnce strict root = (N : ℕ) (lines : List TraceLine) (o : Outcome)
    → AreTraced (logged_program strict root) N lines → IsOutcome (meaning (script_program strict root) N) o
    → TellsEachOnce (meaning (script_program strict root) N) (findings_of lines o.cycles)

-- the list is empty exactly where the outcome isn't marked: no task failed, owes or waits, and no cycle stands
abbrev pub NothingIsFoundWhereFine : Bool → PlacedState → Type 0
NothingIsFoundWhereFine strict root = (N : ℕ) (lines : List TraceLine) (o : Outcome)
    → AreTraced (logged_program strict root) N lines → IsOutcome (meaning (script_program strict root) N) o
    → (findings_of lines o.cycles ≡ []) ↔ (is_marked o ≡ false)

-- the cycles that a finding tells, each by its waits
abbrev pub cycles_in : Finding → List (List Wait)
cycles_in (finding.Cycle waits) = waits ∷ []
cycles_in (finding.Behind w) = []
cycles_in (finding.Failed t c m) = []
cycles_in (finding.Owed q t) = []
cycles_in (finding.Echo t q o) = []

-- the tasks that wait
abbrev pub members_of : List Wait → List Name
members_of waits = map (λ w. w.task.name) waits

-- the owner that each wait tells is the next of these tasks, and that of the last one is the first
abbrev pub OwnersAreNext : List Wait → Type 0
OwnersAreNext waits =
    map (λ w. w.owner) waits ≡ map (λ x. Some x) (drop 1 (members_of waits) ++ take 1 (members_of waits))

-- there is a first name, and none of the others comes before it
abbrev pub BeginsLeast : List Name → Type 0
BeginsLeast [] = ⊥
BeginsLeast (x ∷ xs) = (y : Name) → IsIn y xs → at_most x y ≡ true

-- waits are told as a cycle: from the task with the least name on, each with the next one as owner
abbrev pub IsToldCycle : List Wait → Type 0
IsToldCycle waits = BeginsLeast (members_of waits) × OwnersAreNext waits

-- so it is in each cycle that is told of a run
abbrev pub CycleOwnersAreNext : Bool → PlacedState → Type 0
CycleOwnersAreNext strict root = (N : ℕ) (lines : List TraceLine) (o : Outcome)
    → AreTraced (logged_program strict root) N lines → IsOutcome (meaning (script_program strict root) N) o
    → (waits : List Wait) → IsIn waits (flat_map cycles_in (findings_of lines o.cycles)) → IsToldCycle waits

-- the waits that a finding tells, with all that is told of them
abbrev pub told_waits_in : Finding → List Wait
told_waits_in (finding.Cycle waits) = waits
told_waits_in (finding.Behind w) = w ∷ []
told_waits_in (finding.Failed t c m) = []
told_waits_in (finding.Owed q t) = []
told_waits_in (finding.Echo t q o) = []

-- waits lead from this task to a member of a cycle that is told
abbrev pub LeadsToToldCycle : {B : Type 0} → List (Point B) → List Finding → Name → Type 0
LeadsToToldCycle ps fs x = (y : Name) × (k : ℕ) × Reaches (WaitsFor ps) x k y
    × ((waits : List Wait) × IsIn waits (flat_map cycles_in fs) × IsIn y (members_of waits))

-- so they do from each task that is told to wait, in a run that isn't full; an owner is told, which owns the cell for
-- which the task waits
abbrev pub WaitsLeadToToldCycles : Bool → PlacedState → Type 0
WaitsLeadToToldCycles strict root = (N : ℕ) (lines : List TraceLine) (o : Outcome)
    → IsFresh script_places script_awaits script_left 1 root.task → ¬ IsFull (script_program strict root) N
    → AreTraced (logged_program strict root) N lines → IsOutcome (meaning (script_program strict root) N) o
    → (w : Wait) → IsIn w (flat_map told_waits_in (findings_of lines o.cycles))
    → LeadsToToldCycle (meaning (script_program strict root) N) (findings_of lines o.cycles) w.task.name
    × ((y : Name) × (w.owner ≡ Some y) × WaitsFor (meaning (script_program strict root) N) w.task.name y)
