-- The outcome of a meaning: what is told of its tasks, and the cycles of its wait graph.
use Rattle.std.specs.Prelude.{◌≡◌, ◌↔◌, Bool, true, false, not, ◌||◌, List, [], ◌∷◌, map, Option, Some, None}
use Rattle.std.specs.List.{All, list_any}
use Rattle.std.specs.Option.{option_map}
use Rattle.std.specs.List.Sorted.{IsPermutation, IsStrictlySortedBy}
use Rattle.std.specs.Cmp.Lexicographic.{slice_cmp}
use Rattle.std.specs.Ordering.{nat_cmp}
use Rattle.tj_base.specs.ForkOrder.{Name}
use Rattle.tj_base.specs.declared.value.Shown.{Shown}
use Rattle.tj_base.specs.declared.value.Shown.TheVariants as shown
use Rattle.tj_base.specs.Cycles as graph
use Rattle.tj_body.specs.Names.{same, at_most}
use Rattle.tj_body.specs.Laws.{AreDistinct}
use Rattle.tj_body.specs.Points.{IsIn}
use Rattle.tj_body.specs.declared.point.Value.{Value}
use Rattle.tj_body.specs.declared.point.Value.TheVariants as value
use Rattle.tj_body.specs.declared.point.Close.TheVariants as close
use Rattle.tj_body.specs.declared.point.PointStage.{PointStage}
use Rattle.tj_body.specs.declared.point.PointStage.TheVariants as stage
use Rattle.tj_body.specs.declared.point.Point.{Point}
use Rattle.tj_mean.specs.declared.outcome.Ending.{Ending}
use Rattle.tj_mean.specs.declared.outcome.Ending.TheVariants as ending
use Rattle.tj_mean.specs.declared.outcome.TaskLine.{TaskLine}
use Rattle.tj_mean.specs.declared.outcome.Link.{Link}
use Rattle.tj_mean.specs.declared.outcome.Outcome.{Outcome}
use Rattle.tj_mean.specs.declared.stopped.Stopped.{Stopped}
use Rattle.tj_mean.specs.declared.stopped.StoppedBody.{StoppedBody}

-- a value is shown as a number or as the name of a cell
abbrev pub shown_of : Value → Shown
shown_of (value.Num i) = shown.Num i
shown_of (value.Ref r) = shown.Ref r.name

-- what became of a task whose history stops at this stage, and nothing where it goes on
abbrev pub ending_of : PointStage → Option Ending
ending_of (stage.Closed (close.Done v)) = Some (ending.Done (shown_of v))
ending_of (stage.Closed (close.Failed c)) = Some (ending.Failed c)
ending_of (stage.Waits q spare) = Some (ending.Waits q)
ending_of (stage.Answered a) = None

-- what is told of a task with this history, and nothing where it goes on
abbrev pub stopped_of : {B : Type 0} → Point B → Option Stopped
stopped_of p = option_map
    (λ e. record { line = record { name = p.name; prints = p.prints; ending = e; owes = p.owed }; holds = p.holds })
    (ending_of p.stage)

-- the histories have stopped, and this is told of them
abbrev pub AreTold : {B : Type 0} → List (Point B) → List Stopped → Type 0
AreTold ps ss = map stopped_of ps ≡ map Some ss

-- the same, with what its body is then
abbrev pub body_of : {B : Type 0} → Point B → Option (StoppedBody B)
body_of p = option_map (λ s. record { told = s; body = p.body; references = p.references }) (stopped_of p)

-- this is told of the histories, in some order, with what the bodies are where they stopped
abbrev pub AreBodiesOf : {B : Type 0} → List (Point B) → List (StoppedBody B) → Type 0
AreBodiesOf {B} ps bs = (qs : List (Point B)) × IsPermutation ps qs × (map body_of qs ≡ map Some bs)

-- the cells that a task owns: where it waits, its result and the promises that it holds
abbrev pub owned_with : Ending → Name → List Name → List Name
owned_with (ending.Done v) x holds = []
owned_with (ending.Failed c) x holds = []
owned_with (ending.Waits q) x holds = x ∷ holds

-- the same of what is told of a task
abbrev pub owned_by : Stopped → List Name
owned_by s = owned_with s.line.ending s.line.name s.holds

-- the names ascend, and none stands twice
abbrev pub Ascend : List Name → Type 0
Ascend names = IsStrictlySortedBy (slice_cmp nat_cmp) names

-- the name of the first task of the links
abbrev pub first_task : List Link → Name
first_task [] = []
first_task (l ∷ ls) = l.task

module _ (ss : List Stopped) where
  -- the task x waits for the cell q
  abbrev pub Waits : Name → Name → Type 0
  Waits x q = (s : Stopped) × IsIn s ss × (s.line.name ≡ x) × (s.line.ending ≡ ending.Waits q)

  -- the task y owns the cell q
  abbrev pub Owns : Name → Name → Type 0
  Owns y q = (s : Stopped) × IsIn s ss × (s.line.name ≡ y) × IsIn q (owned_by s)

  -- x leads to y: it waits for a cell that y owns
  abbrev pub Leads : Name → Name → Type 0
  Leads x y = (q : Name) × Waits x q × Owns y q

  -- a cycle of the wait graph from its least name on, each of its tasks with the cell that it waits for
  pub record IsCycle (c : List Link) : Type 0 where
    pub tasks : graph.IsCycle Leads same (map (λ l. l.task) c)
    pub cells : All (λ l. Waits l.task l.cell) c
    pub least : All (λ l. at_most (first_task c) l.task ≡ true) c

  -- all cycles, each once, in the order of their least names
  abbrev pub AreCycles : List (List Link) → Type 0
  AreCycles cs = ((c : List Link) → IsIn c cs ↔ IsCycle c) × Ascend (map first_task cs)

  -- no two have one name, and none owns what another owns
  pub record AreApart : Type 0 where
    pub names : AreDistinct (map (λ s. s.line.name) ss)
    pub owners : (s u : Stopped) (q : Name) → IsIn s ss → IsIn u ss → IsIn q (owned_by s) → IsIn q (owned_by u) → s ≡ u

  -- the outcome of these tasks: a line for each, in name order, and all cycles of the wait graph
  pub record IsOutcomeOf (o : Outcome) : Type 0 where
    pub lines : IsPermutation (map (λ s. s.line) ss) o.lines
    pub lines_in_order : Ascend (map (λ l. l.name) o.lines)
    pub cycles : AreCycles o.cycles

-- the outcome of tasks with these histories, which have stopped
abbrev pub IsOutcome : {B : Type 0} → List (Point B) → Outcome → Type 0
IsOutcome ps o = (ss : List Stopped) × AreTold ps ss × IsOutcomeOf ss o

-- the list has no elements
abbrev pub is_nil : {A : Type 0} → List A → Bool
is_nil [] = true
is_nil (x ∷ xs) = false

-- the task failed or waits
abbrev pub is_undone : Ending → Bool
is_undone (ending.Done v) = false
is_undone (ending.Failed c) = true
is_undone (ending.Waits q) = true

-- the task failed, owes or waits
abbrev pub is_troubled : TaskLine → Bool
is_troubled l = is_undone l.ending || not (is_nil l.owes)

-- some task failed, owes or waits, or a cycle stands
abbrev pub is_marked : Outcome → Bool
is_marked o = not (is_nil o.cycles) || list_any is_troubled o.lines
