-- The laws of where lines say that tasks stand, and what made what: they tell statements of the declaration that the
-- task runs, which can wait, fail, end or make a thing so.
use Rattle.std.specs.Prelude.{◌≡◌, ◌⊎◌, ℕ, pos, Bool, List, [], length, slice_get, Option, Some, None}
use Rattle.std.specs.List.{find}
use Rattle.tj_base.specs.ForkOrder.{Name, child}
use Rattle.tj_base.specs.declared.cause.Cause.{Cause}
use Rattle.tj_base.specs.declared.cause.Cause.TheVariants as cause
use Rattle.tj_base.specs.declared.cell.Sort.{Sort}
use Rattle.tj_base.specs.declared.cell.Sort.TheVariants as sort
use Rattle.tj_base.specs.declared.value.Shown.TheVariants as shown
use Rattle.tj_body.specs.Names.{same}
use Rattle.tj_body.specs.Points.{IsIn}
use Rattle.tj_syntax.specs.Parts.{own_ask}
use Rattle.tj_syntax.specs.Trees as tree
use Rattle.tj_syntax.specs.Trees.{Ask, Argument, Statement, Task}
use Rattle.tj_syntax.specs.Within.{within}
use Rattle.tj_eval.specs.Stands.{PlacedState, StandsRight}
use Rattle.tj_mean.specs.declared.outcome.Ending.{Ending}
use Rattle.tj_mean.specs.declared.outcome.Ending.TheVariants as ending
use Rattle.tj_trace.specs.Logs.{logged_program}
use Rattle.tj_trace.specs.Lookups.{made_by}
use Rattle.tj_trace.specs.Traces.{AreTraced}
use Rattle.tj_trace.specs.declared.line.Maker.{Maker}
use Rattle.tj_trace.specs.declared.line.SetNote.{SetNote}
use Rattle.tj_trace.specs.declared.line.TraceLine.{TraceLine}

-- this is the statement with this number of a declaration of the script
pub record IsStatementAt (script : List Task) (decl at : ℕ) (s : Statement) : Type 0 where
  pub task : Task
  pub is_declared : slice_get script decl ≡ Some task
  pub is_there : slice_get (within task.body) at ≡ Some s

-- this is the number of the closing brace of a declaration of the script
pub record IsBraceAt (script : List Task) (decl at : ℕ) : Type 0 where
  pub task : Task
  pub is_declared : slice_get script decl ≡ Some task
  pub is_last : at ≡ length (within task.body)

-- the ask is a `get`
abbrev pub IsGet : Option Ask → Type 0
IsGet None = ⊥
IsGet (Some tree.new) = ⊥
IsGet (Some (tree.fork f list)) = ⊥
IsGet (Some (tree.get r other)) = Unit {0}
IsGet (Some (tree.join r other)) = ⊥

-- the ask is a `join`
abbrev pub IsJoin : Option Ask → Type 0
IsJoin None = ⊥
IsJoin (Some tree.new) = ⊥
IsJoin (Some (tree.fork f list)) = ⊥
IsJoin (Some (tree.get r other)) = ⊥
IsJoin (Some (tree.join r other)) = Unit {0}

-- the ask is a `get` or a `join`
abbrev pub IsWait : Option Ask → Type 0
IsWait q = IsGet q ⊎ IsJoin q

-- the ask is a `fork`
abbrev pub IsFork : Option Ask → Type 0
IsFork q = (f : ℕ) × (list : List Argument) × (q ≡ Some (tree.fork f list))

-- the statement sets a promise
abbrev pub IsSet : Statement → Type 0
IsSet (tree.let_new x side) = ⊥
IsSet (tree.assign x side) = ⊥
IsSet (tree.ask q) = ⊥
IsSet (tree.print e) = ⊥
IsSet (tree.set_cell x e) = Unit {0}
IsSet (tree.return e) = ⊥
IsSet (tree.choose e body other) = ⊥
IsSet (tree.repeat e body) = ⊥

-- the statement is a `return`
abbrev pub IsReturn : Statement → Type 0
IsReturn (tree.let_new x side) = ⊥
IsReturn (tree.assign x side) = ⊥
IsReturn (tree.ask q) = ⊥
IsReturn (tree.print e) = ⊥
IsReturn (tree.set_cell x e) = ⊥
IsReturn (tree.return e) = Unit {0}
IsReturn (tree.choose e body other) = ⊥
IsReturn (tree.repeat e body) = ⊥

-- a task may fail so at the statement: only what sets or hands a promise needs an owner, only a wait meets a broken
-- cell, and only a `join` an order
abbrev pub MayFail : Cause → Statement → Type 0
MayFail cause.Arith s = Unit {0}
MayFail cause.Kind s = Unit {0}
MayFail cause.Steps s = Unit {0}
MayFail (cause.Owner q) s = IsSet s ⊎ IsFork (own_ask s)
MayFail (cause.Broken q) s = IsWait (own_ask s)
MayFail (cause.Order q) s = IsJoin (own_ask s)

-- a task with this end stands at such a number: one that ended at a `return`, or at the closing brace with 0
abbrev pub StandsWhere : List Task → ℕ → ℕ → Ending → Type 0
StandsWhere script decl at (ending.Done v) =
    ((s : Statement) × IsStatementAt script decl at s × IsReturn s)
    ⊎ (IsBraceAt script decl at × (v ≡ shown.Num (pos 0)))
StandsWhere script decl at (ending.Failed c) = (s : Statement) × IsStatementAt script decl at s × MayFail c s
StandsWhere script decl at (ending.Waits q) = (s : Statement) × IsStatementAt script decl at s × IsWait (own_ask s)

-- a statement with this ask makes things of this sort
abbrev pub Makes : Sort → Option Ask → Type 0
Makes sort.Promise q = q ≡ Some tree.new
Makes sort.Task q = IsFork q

-- the note tells a statement of the task's own declaration that makes such a thing
pub record IsMadeIn (script : List Task) (decl : ℕ) (maker : Maker) : Type 0 where
  pub own : maker.decl ≡ decl
  pub statement : Statement
  pub is_at : IsStatementAt script maker.decl maker.at statement
  pub makes : Makes maker.sort (own_ask statement)

-- the note tells a statement of the task's own declaration that sets a promise
pub record IsSetIn (script : List Task) (decl : ℕ) (n : SetNote) : Type 0 where
  pub statement : Statement
  pub is_at : IsStatementAt script decl n.at statement
  pub sets : IsSet statement

-- the numbers of a line are right
pub record IsRightLine (script : List Task) (l : TraceLine) : Type 0 where
  pub stands : StandsWhere script l.decl l.at l.line.ending
  pub makers : (maker : Maker) → IsIn maker l.makers → IsMadeIn script l.decl maker
  pub sets : (n : SetNote) → IsIn n l.sets → IsSetIn script l.decl n

-- what is found as a task's maker is a fork of the declaration that the task runs
pub record IsForkOf (script : List Task) (decl : ℕ) (found : Option Maker) : Type 0 where
  pub maker : Maker
  pub is_found : found ≡ Some maker
  pub is_task : maker.sort ≡ sort.Task
  pub statement : Statement
  pub is_at : IsStatementAt script maker.decl maker.at statement
  pub list : List Argument
  pub forks : own_ask statement ≡ Some (tree.fork decl list)

-- the lines of a program whose root stands right are right
abbrev pub LinesAreRight : Bool → PlacedState → Type 0
LinesAreRight strict root = (N : ℕ) (lines : List TraceLine) → StandsRight root
    → AreTraced (logged_program strict root) N lines → (l : TraceLine) → IsIn l lines → IsRightLine root.task.script l

-- each task of such a program runs the declaration that the statement forks which its maker's line tells, and the root
-- runs the root's
abbrev pub LinesAreForked : Bool → PlacedState → Type 0
LinesAreForked strict root = (N : ℕ) (lines : List TraceLine) → StandsRight root
    → AreTraced (logged_program strict root) N lines → (l : TraceLine) → IsIn l lines
    → (l.line.name ≡ [] → l.decl ≡ root.stand.decl)
    × ((x : Name) (k : ℕ) → l.line.name ≡ child x k
    → IsForkOf root.task.script l.decl (made_by (find (λ line. same line.line.name x) lines) k))
