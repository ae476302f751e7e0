-- The order in which causes are told.
use Rattle.std.specs.Prelude.{◌≡◌, ◌⊎◌, List, [], ◌∷◌, map, Option, None, slice_get}
use Rattle.tj_base.specs.ForkOrder.{Name}
use Rattle.tj_base.specs.declared.cause.Cause.{Cause}
use Rattle.tj_base.specs.declared.cause.Cause.TheVariants as cause
use Rattle.tj_body.specs.Points.{IsIn}
use Rattle.tj_findings.specs.declared.finding.Finding.{Finding}
use Rattle.tj_findings.specs.declared.finding.Finding.TheVariants as finding
use Rattle.tj_findings.specs.declared.finding.ToldTask.{ToldTask}
use Rattle.tj_findings.specs.declared.finding.Wait.{Wait}
use Rattle.tj_syntax.specs.PlacesOf.{PlacesOfTask}
use Rattle.tj_trace.specs.Lookups.{ask_spot_of}
use Rattle.tj_trace.specs.declared.line.Maker.{Maker}

-- x stands before y in the list
abbrev pub StandsBefore : {A : Type 0} → A → A → List A → Type 0
StandsBefore x y [] = ⊥
StandsBefore x y (z ∷ zs) = ((x ≡ z) × IsIn y zs) ⊎ StandsBefore x y zs

-- a promise that a task owed
abbrev pub IsDebt : Finding → Type 0
IsDebt (finding.Cycle waits) = ⊥
IsDebt (finding.Behind w) = ⊥
IsDebt (finding.Failed t c m) = ⊥
IsDebt (finding.Owed q t) = Unit {0}
IsDebt (finding.Echo t q o) = ⊥

-- the cells for which the tasks of a cycle wait
abbrev pub cells_of : List Wait → List Name
cells_of waits = map (λ w. w.cell.name) waits

-- the task stopped at a statement without an ask: what needs a right to a promise there is a set
abbrev pub StoppedAtNoAsk : List PlacesOfTask → ToldTask → Type 0
StoppedAtNoAsk places t = ask_spot_of (slice_get places t.decl) t.at ≡ None

-- causes stand in the order in which they are told
pub record AreInTurn (places : List PlacesOfTask) (fs : List Finding) : Type 0 where
  -- behind a promise that was owed stand only such
  pub debts_last : (x y : Finding) → StandsBefore x y fs → IsDebt x → IsDebt y
  -- no cycle stands before the failure of a set that was refused for a cell for which a task of this cycle waits
  pub refused_first : (waits : List Wait) (t : ToldTask) (q : Name) (m : Option Maker)
      → StandsBefore (finding.Cycle waits) (finding.Failed t (cause.Owner q) m) fs → StoppedAtNoAsk places t
      → IsIn q (cells_of waits) → ⊥
  -- a failure stands before a cycle only if its set was refused for a cell for which a task waits: one of this cycle,
  -- or of one that stands before it
  pub cycles_first : (t : ToldTask) (c : Cause) (m : Option Maker) (waits : List Wait)
      → StandsBefore (finding.Failed t c m) (finding.Cycle waits) fs
      → StoppedAtNoAsk places t × ((q : Name) × (c ≡ cause.Owner q) × ((vs : List Wait) × IsIn q (cells_of vs)
      × ((finding.Cycle vs ≡ finding.Cycle waits) ⊎ StandsBefore (finding.Cycle vs) (finding.Cycle waits) fs)))
