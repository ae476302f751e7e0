-- The laws of outcomes.
use Rattle.std.specs.Prelude.{◌≡◌, ◌↔◌, ℕ, Bool, true, List, [], map}
use Rattle.std.specs.List.Sorted.{IsPermutation}
use Rattle.tj_base.specs.ForkOrder.{Name}
use Rattle.tj_body.specs.Programs.{Program, strictly}
use Rattle.tj_body.specs.Rounds.{meaning, IsFull}
use Rattle.tj_body.specs.Points.{IsIn}
use Rattle.tj_body.specs.SeenAs.{point_as}
use Rattle.tj_body.specs.NeverWaits.{IsWithoutGet}
use Rattle.tj_body.specs.declared.point.Point.{Point}
use Rattle.tj_mean.specs.Outcomes.{AreTold, AreApart, IsOutcome}
use Rattle.tj_mean.specs.declared.outcome.Ending.TheVariants as ending
use Rattle.tj_mean.specs.declared.outcome.Outcome.{Outcome}
use Rattle.tj_mean.specs.declared.outcome.TaskLine.{TaskLine}
use Rattle.tj_mean.specs.declared.stopped.Stopped.{Stopped}

-- these histories have one outcome
abbrev pub HasOneOutcome : {B : Type 0} → List (Point B) → Type 0
HasOneOutcome ps = (a b : Outcome) → IsOutcome ps a → IsOutcome ps b → a ≡ b

-- no task waits, and no cycle stands
pub record HasNoWait (o : Outcome) : Type 0 where
  pub no_cycle : o.cycles ≡ []
  pub none_waits : (l : TaskLine) (q : Name) → IsIn l o.lines → ¬ (l.ending ≡ ending.Waits q)

-- where a task waits, a cycle stands
abbrev pub HasCycleWhereWaits : Outcome → Type 0
HasCycleWhereWaits o = (l : TaskLine) (q : Name) → IsIn l o.lines → l.ending ≡ ending.Waits q → ¬ (o.cycles ≡ [])

-- so it is in each outcome of a meaning that isn't full
abbrev pub OutcomeHasCycleWhereWaits : {B : Type 0} → Program B → Type 0
OutcomeHasCycleWhereWaits program = (N : ℕ) → ¬ IsFull program N
    → (o : Outcome) → IsOutcome (meaning program N) o → HasCycleWhereWaits o

-- under the strict rule, with a root that passes a test of bodies without gets, the outcome of a meaning that isn't
-- full has no wait
abbrev pub StrictOutcomeHasNoWait : {B : Type 0} → Program B → Type 0
StrictOutcomeHasNoWait {B} program = (calm : B → Bool) → IsWithoutGet program.rules calm
    → calm program.root ≡ true → (N : ℕ) → ¬ IsFull (strictly program) N
    → (o : Outcome) → IsOutcome (meaning (strictly program) N) o → HasNoWait o

-- the outcome of histories is that of them in any other order
abbrev pub OrderIsFree : Type 0 → Type 0
OrderIsFree B = (ps qs : List (Point B)) (o : Outcome) → IsPermutation ps qs → IsOutcome ps o → IsOutcome qs o

-- what is told of the meaning's histories, in any order, is apart
abbrev pub MeaningIsApart : {B : Type 0} → Program B → Type 0
MeaningIsApart {B} program = (N : ℕ) (ps : List (Point B)) (ss : List Stopped) → IsPermutation (meaning program N) ps
    → AreTold ps ss → AreApart ss

-- histories that are seen as others have the outcome of those
abbrev pub OutcomeIsSeen : Type 0 → Type 0 → Type 0
OutcomeIsSeen B C = (e : B → C) (ps : List (Point B)) (o : Outcome) → IsOutcome (map (point_as e) ps) o ↔ IsOutcome ps o
