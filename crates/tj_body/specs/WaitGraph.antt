-- Which of a meaning's tasks wait for which, and that some wait in a cycle wherever one waits.
use Rattle.std.specs.Prelude.{◌≡◌, ℕ, Bool, List, None}
use Rattle.tj_base.specs.Cycles.{Reaches, IsOnCycle}
use Rattle.tj_base.specs.ForkOrder.{Name}
use Rattle.tj_body.specs.Programs.{Program}
use Rattle.tj_body.specs.History.{owned}
use Rattle.tj_body.specs.Rounds.{given, last_round, meaning, IsFull}
use Rattle.tj_body.specs.Points.{IsIn}
use Rattle.tj_body.specs.declared.point.PointStage.TheVariants as stage
use Rattle.tj_body.specs.declared.point.Point.{Point}

module _ {B : Type 0} (ps : List (Point B)) where
  -- the task x, of which one of these is the history, waits for the cell q
  abbrev pub Waits : Name → Name → Type 0
  Waits x q = (p : Point B) × (spare : Bool) × IsIn p ps × (p.name ≡ x) × (p.stage ≡ stage.Waits q spare)

  -- the task y, of which one of these is the history, owns the cell q
  abbrev pub Owns : Name → Name → Type 0
  Owns y q = (p : Point B) × IsIn p ps × (p.name ≡ y) × IsIn q (owned p)

  -- the task x waits for a cell that the task y owns
  abbrev pub WaitsFor : Name → Name → Type 0
  WaitsFor x y = (q : Name) × Waits x q × Owns y q

module _ {B : Type 0} (program : Program B) where
  -- in a meaning that isn't full, the cell that a task waits for has no entry and has an owner, which waits too
  abbrev pub OwnersWait : Type 0
  OwnersWait = (N : ℕ) → ¬ IsFull program N → (x q : Name) → Waits (meaning program N) x q
      → (given program (last_round N) q ≡ None)
      × ((y r : Name) × Owns (meaning program N) y q × Waits (meaning program N) y r)

  -- from each task that waits, waits lead to one on a cycle of waits
  abbrev pub WaitsLeadToCycle : Type 0
  WaitsLeadToCycle = (N : ℕ) → ¬ IsFull program N → (x q : Name) → Waits (meaning program N) x q
      → (y : Name) × (k : ℕ) × Reaches (WaitsFor (meaning program N)) x k y
      × IsOnCycle (WaitsFor (meaning program N)) y
