-- The laws of the forest: it holds each finding of the list once, and each consequence stands below its cause.
use Rattle.std.specs.Prelude.{◌≡◌, ◌≤◌, ◌++◌, ℕ, Bool, List, [], map, Option, Some}
use Rattle.std.specs.List.{flat_map}
use Rattle.std.specs.List.Sorted.{IsPermutation}
use Rattle.tj_base.specs.Cycles.{Reaches}
use Rattle.tj_base.specs.ForkOrder.{Name}
use Rattle.tj_base.specs.declared.cause.Cause.TheVariants as cause
use Rattle.tj_base.specs.declared.cell.TheConstants.{MAX_CELLS}
use Rattle.tj_body.specs.Asks.{IsFresh}
use Rattle.tj_body.specs.Points.{IsIn}
use Rattle.tj_body.specs.Rounds.{IsFull, meaning}
use Rattle.tj_body.specs.WaitGraph.{WaitsFor}
use Rattle.tj_body.specs.declared.point.Point.{Point}
use Rattle.tj_eval.specs.Bodies.{script_awaits, script_left, script_places}
use Rattle.tj_eval.specs.Stands.{PlacedState}
use Rattle.tj_mean.specs.Outcomes.{IsOutcome}
use Rattle.tj_mean.specs.declared.outcome.Ending.TheVariants as ending
use Rattle.tj_mean.specs.declared.outcome.Link.{Link}
use Rattle.tj_mean.specs.declared.outcome.Outcome.{Outcome}
use Rattle.tj_syntax.specs.PlacesOf.{PlacesOfTask}
use Rattle.tj_trace.specs.Logs.{logged_program}
use Rattle.tj_trace.specs.TraceLaws.{script_program}
use Rattle.tj_trace.specs.Traces.{AreTraced}
use Rattle.tj_trace.specs.declared.line.TraceLine.{TraceLine}
use Rattle.tj_forest.specs.CauseOrder.{AreInTurn}
use Rattle.tj_forest.specs.Explanations.{OwedIt, StoppedSo, members_of}
use Rattle.tj_findings.specs.Findings.{findings_of}
use Rattle.tj_findings.specs.Forests.{Forest, Tree, findings_in, findings_of_tree, forest_of}
use Rattle.tj_findings.specs.Groups.{Group, groups}
use Rattle.tj_forest.specs.Origins.{CameFrom}
use Rattle.tj_findings.specs.declared.finding.Finding.{Finding}
use Rattle.tj_findings.specs.declared.finding.Finding.TheVariants as finding
use Rattle.tj_findings.specs.declared.finding.Stop.TheVariants as stop
use Rattle.tj_findings.specs.declared.finding.ToldTask.{ToldTask}
use Rattle.tj_findings.specs.declared.finding.Wait.{Wait}

-- the forest holds the findings of the list, each as often as that does, in an order of its own
abbrev pub ForestsHoldEachFinding : Type 0
ForestsHoldEachFinding = (places : List PlacesOfTask) (lines : List TraceLine) (cycles : List (List Link))
    → IsPermutation (findings_of lines cycles) (findings_in (forest_of places lines cycles))

-- the findings of a group
abbrev pub findings_of_group : Group → List Finding
findings_of_group g = g.members ++ g.below

-- the groups of trees hold the findings of the trees, each as often as those do, in an order of their own
abbrev pub GroupsHoldEachFinding : Type 0
GroupsHoldEachFinding = (all : Bool) (ts : List Tree)
    → IsPermutation (flat_map findings_of_tree ts) (flat_map findings_of_group (groups all ts))

-- a cause: a cycle, a failure for no broken cell, or a promise owed by a task that ended
abbrev pub IsCause : Finding → Type 0
IsCause (finding.Cycle waits) = Unit {0}
IsCause (finding.Behind w) = ⊥
IsCause (finding.Failed t c m) = (q : Name) → c ≡ cause.Broken q → ⊥
IsCause (finding.Owed q t) = t.stop ≡ stop.Ended
IsCause (finding.Echo t q o) = ⊥

-- what an echo tells as its origin is the task of the cause: the one that failed, or that owed the promise
abbrev pub IsOriginOf : Finding → Option ToldTask → Type 0
IsOriginOf (finding.Cycle waits) o = ⊥
IsOriginOf (finding.Behind w) o = ⊥
IsOriginOf (finding.Failed t c m) o = o ≡ Some t
IsOriginOf (finding.Owed q t) o = o ≡ Some t
IsOriginOf (finding.Echo t q p) o = ⊥

module _ {B : Type 0} (ps : List (Point B)) where
  -- steps back from the failure of a task lead to this task
  abbrev pub CameAtFirstFrom : Name → Name → Type 0
  CameAtFirstFrom x y = (k : ℕ) × Reaches (CameFrom ps) x k y

  -- a task whose failure follows from the cause: it is the one that failed, or steps back lead to it; or they lead to
  -- the task that owed the promise, and the last of them comes from a failure for this promise
  abbrev pub FailsAfter : Finding → Name → Type 0
  FailsAfter (finding.Cycle waits) x = ⊥
  FailsAfter (finding.Behind w) x = ⊥
  FailsAfter (finding.Failed t c m) x = CameAtFirstFrom x t.name
  FailsAfter (finding.Owed q t) x =
      (y : Name) × CameAtFirstFrom x y × StoppedSo ps y (ending.Failed (cause.Broken q.name)) × OwedIt ps t.name q.name
  FailsAfter (finding.Echo t q o) x = ⊥

  -- the consequence follows from the cause: a wait leads to a member of the cycle, and a failure, or a promise that a
  -- failed task owed, comes from the task of the cause, which an echo tells as its origin
  abbrev pub FollowsFrom : Finding → Finding → Type 0
  FollowsFrom root (finding.Cycle waits) = ⊥
  FollowsFrom root (finding.Behind w) = (waits : List Wait) × (root ≡ finding.Cycle waits)
      × ((y : Name) × (k : ℕ) × Reaches (WaitsFor ps) w.task.name k y × IsIn y (members_of waits))
  FollowsFrom root (finding.Failed t c m) = ⊥
  FollowsFrom root (finding.Owed q t) = (t.stop ≡ stop.Failed) × FailsAfter root t.name
  FollowsFrom root (finding.Echo t q o) = FailsAfter root t.name × IsOriginOf root o

  -- each tree has a cause as root, and below it what follows from this; the causes stand in the order in which they
  -- are told; and there are no strays
  pub record IsInOrder (places : List PlacesOfTask) (f : Forest) : Type 0 where
    pub causes : (t : Tree) → IsIn t f.trees → IsCause t.root
    pub follow : (t : Tree) → IsIn t f.trees → (g : Finding) → IsIn g t.below → FollowsFrom t.root g
    pub no_strays : f.strays ≡ []
    pub turn : AreInTurn places (map (λ (t : Tree). t.root) f.trees)

-- so it is of the forest of each run that isn't full
abbrev pub ConsequencesFollow : Bool → PlacedState → Type 0
ConsequencesFollow strict root = (N : ℕ) (places : List PlacesOfTask) (lines : List TraceLine) (o : Outcome)
    → N ≤ MAX_CELLS → IsFresh script_places script_awaits script_left 1 root.task
    → ¬ IsFull (script_program strict root) N → AreTraced (logged_program strict root) N lines
    → IsOutcome (meaning (script_program strict root) N) o
    → IsInOrder (meaning (script_program strict root) N) places (forest_of places lines o.cycles)
