-- The law of where a promise went: what is told of a promise that a task had no right to is what the histories did, and
-- each statement that is told with it has a position. Of each other task none is told. It speaks of no line of a trace.
use Rattle.std.specs.Prelude.{◌≡◌, ℕ, suc, ◌*◌, Bool, List, ◌∷◌, slice_get, Some}
use Rattle.std.specs.List.{flat_map}
use Rattle.tj_base.specs.ForkOrder.{Name, child}
use Rattle.tj_base.specs.declared.cause.Cause.TheVariants as cause
use Rattle.tj_body.specs.Asks.{IsFresh}
use Rattle.tj_body.specs.History.{history}
use Rattle.tj_body.specs.Points.{IsIn}
use Rattle.tj_body.specs.Rounds.{IsFull, given, last_round, meaning, tasks}
use Rattle.tj_body.specs.declared.point.Point.{Point}
use Rattle.tj_body.specs.declared.point.PointStage.{PointStage}
use Rattle.tj_body.specs.declared.point.PointStage.TheVariants as stage
use Rattle.tj_body.specs.declared.point.Task.{Task}
use Rattle.tj_eval.specs.Bodies.{script_awaits, script_left, script_places}
use Rattle.tj_eval.specs.Stands.{IsPlacedMain, PlacedState}
use Rattle.tj_eval.specs.Statements.{TaskState}
use Rattle.tj_lex.specs.declared.token.Token.{Token}
use Rattle.tj_mean.specs.Outcomes.{IsOutcome}
use Rattle.tj_mean.specs.declared.outcome.Ending.TheVariants as ending
use Rattle.tj_mean.specs.declared.outcome.Outcome.{Outcome}
use Rattle.tj_syntax.specs.Grammar.{IsProgram}
use Rattle.tj_syntax.specs.Marks.{Noted}
use Rattle.tj_syntax.specs.PlacesOf.{PlacesOfTask, places_of}
use Rattle.tj_syntax.specs.Starts.{in_tasks}
use Rattle.tj_syntax.specs.Trees as trees
use Rattle.tj_trace.specs.HandLaws.{handed_to}
use Rattle.tj_trace.specs.Logs.{logged_program}
use Rattle.tj_trace.specs.MadeAt.{made_until, placed_program, set_until}
use Rattle.tj_trace.specs.SpotLaws.{HasPlace}
use Rattle.tj_trace.specs.TraceLaws.{script_program}
use Rattle.tj_trace.specs.Traces.{AreTraced}
use Rattle.tj_trace.specs.declared.line.Maker.{Maker}
use Rattle.tj_trace.specs.declared.line.SetNote.{SetNote}
use Rattle.tj_trace.specs.declared.line.TraceLine.{TraceLine}
use Rattle.tj_forest.specs.Explanations.{OwedIt, StoppedSo}
use Rattle.tj_forest.specs.Positions.{tasks_in}
use Rattle.tj_forest.specs.TwiceHanded.{EndsHandingTwice}
use Rattle.tj_findings.specs.Findings.{findings_of}
use Rattle.tj_findings.specs.declared.finding.ToldTask.{ToldTask}
use Rattle.tj_findings.specs.declared.finding.Went.{Went}
use Rattle.tj_findings.specs.declared.finding.Went.TheVariants as went

-- a promise that was set at this statement
abbrev pub set_note : Name → ℕ → SetNote
set_note q n = record { promise = q; at = n }

-- the cells that a task owned where it stopped: what it owed as it ended; where it waits, its result and the promises
-- that it holds
abbrev pub kept_at : {B : Type 0} → PointStage → Point B → List Name
kept_at (stage.Closed e) p = p.owed
kept_at (stage.Waits q spare) p = p.name ∷ p.holds
kept_at (stage.Answered a) p = p.name ∷ p.holds

module _ (strict : Bool) (root : PlacedState) (N : ℕ) where
  -- what the history of a task of the last round set
  abbrev pub sets_of : Task PlacedState → List SetNote
  sets_of u = let program = placed_program strict root in
      set_until program.rules (given program (last_round N)) u (2 * suc (program.rules.left u.body))

  -- what it made
  abbrev pub made_of : Task PlacedState → List Maker
  made_of u = let program = placed_program strict root in
      made_until program.rules (given program (last_round N)) u (2 * suc (program.rules.left u.body))

  -- the declaration at which it stands in the end
  abbrev pub decl_of : Task PlacedState → ℕ
  decl_of u = let program = placed_program strict root in
      (history program.rules (given program (last_round N)) u).body.stand.decl

  -- this is a task of the last round, with this name
  abbrev pub IsTask : Name → Task PlacedState → Type 0
  IsTask x u = IsIn u (tasks (placed_program strict root) (last_round N)) × (x ≡ u.name)

  -- there is a task with this name whose history set the promise where it stood at that statement of that declaration
  abbrev pub SetThere : Name → ℕ → ℕ → Name → Type 0
  SetThere x d n q = (u : Task PlacedState) × IsTask x u × (d ≡ decl_of u) × IsIn (set_note q n) (sets_of u)

  -- the history of the task with this name handed the promise to this child
  abbrev pub HandedOn : Name → Name → Name → Type 0
  HandedOn x y q = (p : Point TaskState) × IsIn p (meaning (script_program strict root) N) × (p.name ≡ x)
      × IsIn (y, q) (flat_map handed_to p.children)

  -- its history made the thing with this number, where it stood at that statement of that declaration
  abbrev pub MadeAt : Name → ℕ → ℕ → ℕ → Type 0
  MadeAt x d k n = (u : Task PlacedState) × IsTask x u × (j : ℕ) × (m : Maker) × (k ≡ suc j)
      × (slice_get (made_of u) j ≡ Some m) × (d ≡ m.decl) × (n ≡ m.at)

  -- the history of the task with this name ended in a fork to which it handed the promise twice
  abbrev pub HandedTwice : Name → Name → Type 0
  HandedTwice x q = let program = placed_program strict root in
      (u : Task PlacedState) × IsTask x u × EndsHandingTwice program.rules (given program (last_round N)) u q

  -- the task with this name owned the promise where it stopped
  abbrev pub OwnedAtEnd : Name → Name → Type 0
  OwnedAtEnd y q = (p : Point TaskState) × IsIn p (meaning (script_program strict root) N) × (p.name ≡ y)
      × IsIn q (kept_at p.stage p)

  -- there is a task with this name, and its history never set the promise
  abbrev pub NeverSet : Name → Name → Type 0
  NeverSet x q = ((u : Task PlacedState) × IsTask x u)
      × ((u : Task PlacedState) → IsTask x u → (n : SetNote) → IsIn n (sets_of u) → n.promise ≡ q → ⊥)

  -- it never handed it on
  abbrev pub NeverHandedOn : Name → Name → Type 0
  NeverHandedOn x q = (p : Point TaskState) × IsIn p (meaning (script_program strict root) N) × (p.name ≡ x)
      × ((y : Name) → IsIn (y, q) (flat_map handed_to p.children) → ⊥)

  -- it didn't owe the promise where it stopped
  abbrev pub NeverOwed : Name → Name → Type 0
  NeverOwed x q = OwedIt (meaning (script_program strict root) N) x q → ⊥

  -- the task with this name failed for want of a right to this promise
  abbrev pub HadNoRight : Name → Name → Type 0
  HadNoRight x q = StoppedSo (meaning (script_program strict root) N) x (ending.Failed (cause.Owner q))

  -- no task of the meaning set the promise
  abbrev pub NobodySet : Name → Type 0
  NobodySet q = (p : Point TaskState) → IsIn p (meaning (script_program strict root) N) → NeverSet p.name q

  module _ (places : List PlacesOfTask) where
    -- this is where the promise went for which the task failed, with positions of the statements told; of others it is
    -- told only if the task itself neither owed it nor set it nor handed it on, and of an owner only if nobody set it;
    -- one of these is told
    abbrev pub WentThere : ToldTask → Name → Went → Type 0
    WentThere t q went.Nowhere = ⊥
    WentThere t q (went.SetHere n) =
        NeverOwed t.name q × (SetThere t.name t.decl n q × HasPlace places t.decl n)
    WentThere t q (went.HandedHere x k n) =
        NeverOwed t.name q × ((x ≡ t.name) × (NeverSet x q
        × (HandedOn x (child x k) q × (MadeAt x t.decl k n × HasPlace places t.decl n))))
    WentThere t q went.TwiceHere =
        OwedIt (meaning (script_program strict root) N) t.name q × HandedTwice t.name q
    WentThere t q (went.SetBy y d n) =
        NeverOwed t.name q × (NeverSet t.name q × (NeverHandedOn t.name q
        × (SetThere y d n q × HasPlace places d n)))
    WentThere t q (went.OwnedBy y) =
        NeverOwed t.name q × (NeverSet t.name q × (NeverHandedOn t.name q × (NobodySet q × OwnedAtEnd y q)))

-- where a promise went is told of a task that failed for want of a right to it, and of no other task
pub record IsToldWent (strict : Bool) (root : PlacedState) (N : ℕ) (places : List PlacesOfTask) (t : ToldTask) : Type 0
  where
    pub there : (q : Name) → HadNoRight strict root N t.name q → WentThere strict root N places t q t.went
    pub no_other : ((q : Name) → HadNoRight strict root N t.name q → ⊥) → t.went ≡ went.Nowhere

-- so it is of each task that is told of a run from the body of `main` on which isn't full
abbrev pub PromisesWentThere : Type 0
PromisesWentThere = (script : List trees.Task) (steps : ℕ) (root : PlacedState) → IsPlacedMain script steps root
    → IsFresh script_places script_awaits script_left 1 root.task
    → (tokens : List Token) (notes : List Noted) (derived : IsProgram notes script)
    → (strict : Bool) (N : ℕ) (lines : List TraceLine) (o : Outcome) → ¬ IsFull (script_program strict root) N
    → AreTraced (logged_program strict root) N lines → IsOutcome (meaning (script_program strict root) N) o
    → (t : ToldTask) → IsIn t (flat_map tasks_in (findings_of lines o.cycles))
    → IsToldWent strict root N (places_of tokens (in_tasks derived 0)) t
