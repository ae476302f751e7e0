-- What the words of a closed table show of its cells: who they are, whether they are at rest, and the wait graph.
use Rattle.std.specs.Prelude.{◌≡◌, ◌≢◌, ℕ, ◌<◌, nat_eq, List, [], ◌∷◌, length, Some, Contains}
use mathlib.Core.Option.{some}
use lib.ListN.{get_elem?}
use Rattle.tj_base.specs.Cycles as graph
use Rattle.tj_base.specs.ForkOrder.{child}
use Rattle.tj_base.specs.declared.cell.CellId.{CellId}
use Rattle.tj_body.specs.History.{to_task}
use Rattle.tj_body.specs.declared.point.Reference.{Reference}
use Rattle.tj_events.specs.declared.walk.Way.{Way}
use Rattle.tj_words.specs.declared.closed.RestCell.{RestCell}
use Rattle.tj_words.specs.declared.phase.Walk.{Walk}
use Rattle.tj_words.specs.declared.phase.Walk.TheVariants as walk
use Rattle.tj_words.specs.declared.phase.Phase.{Phase}
use Rattle.tj_words.specs.declared.phase.Phase.TheVariants as phase
use Rattle.tj_words.specs.Words.Lists.{cell}
use Rattle.tj_words.specs.LawParts.ShownState.{phase_sort}
use Rattle.tj_words.specs.LawParts.TreeWords.{IsCell}

-- a task that has ended, one that waits and has parked or alarmed, or a promise
abbrev pub IsStill : Phase → Type 0
IsStill phase.Unborn = ⊥
IsStill phase.Ready = ⊥
IsStill phase.Running = ⊥
IsStill phase.Ended = Unit {0}
IsStill phase.Promise = Unit {0}
IsStill (phase.Waiting c way walk.Walking) = ⊥
IsStill (phase.Waiting c way walk.Parked) = Unit {0}
IsStill (phase.Waiting c way walk.Alarmed) = Unit {0}

module _ (cells : List RestCell) where
  -- the words show this of cell c
  abbrev pub IsShown : ℕ → RestCell → Type 0
  IsShown c x = get_elem? cells c ≡ some x

  -- cell c is a promise
  abbrev pub IsPromise : ℕ → Type 0
  IsPromise c = (x : RestCell) × IsShown c x × (x.phase ≡ phase.Promise)

  -- task t waits for cell c
  abbrev pub Waits : ℕ → CellId → Type 0
  Waits t c = (x : RestCell) × (way : Way) × (w : Walk) × IsShown t x × (x.phase ≡ phase.Waiting c way w)

  -- task t has alarmed
  abbrev pub HasAlarmed : ℕ → Type 0
  HasAlarmed t = (x : RestCell) × (c : CellId) × (way : Way) × IsShown t x
      × (x.phase ≡ phase.Waiting c way walk.Alarmed)

  -- task u owns cell c
  abbrev pub Owns : ℕ → CellId → Type 0
  Owns u c = (x : RestCell) × IsShown c.0 x × (x.own ≡ Some (cell u))

  -- t leads to u: it waits for a cell that u owns
  abbrev pub Leads : ℕ → ℕ → Type 0
  Leads t u = (c : CellId) × Waits t c × Owns u c

  -- a standing cycle: distinct tasks, each leading to the next and the last to the first
  abbrev pub IsCycle : List ℕ → Type 0
  IsCycle = graph.IsCycle Leads nat_eq

  -- rest: no task is yet to run, runs or walks, and nothing has become of a cell that a task waits for
  pub record AreAtRest : Type 0 where
    pub still : (c : ℕ) (x : RestCell) → IsShown c x → IsStill x.phase
    pub waits_open : (t : ℕ) (c : CellId) → Waits t c → (x : RestCell) × IsShown c.0 x × (x.tag ≡ 0)

  -- each standing cycle has a member that has alarmed
  abbrev pub AreCyclesAlarmed : Type 0
  AreCyclesAlarmed = (tasks : List ℕ) → IsCycle tasks → (u : ℕ) × Contains tasks u × HasAlarmed u

  -- each task that has alarmed is the first of a standing cycle
  abbrev pub AreAlarmsOnCycles : Type 0
  AreAlarmsOnCycles = (t : ℕ) → HasAlarmed t → (ts : List ℕ) × IsCycle (t ∷ ts)

  -- the cells are these references, by PARENT, KID and PHASE: the root is the first, and each other one's name is that
  -- of its maker, which comes before it, and its number among the things that the maker made
  pub record AreNamed (born : List Reference) : Type 0 where
    pub all : length born ≡ length cells
    pub root : IsCell born 0 (to_task [])
    pub root_words : (x : RestCell) → IsShown 0 x → (x.parent.0 ≡ 0) × (x.kid ≡ 0)
    pub named : (c : ℕ) (x : RestCell) (r : Reference) → c ≢ 0 → IsShown c x → IsCell born c r
        → (x.parent.0 < c) × ((maker : Reference) × IsCell born x.parent.0 maker × (r.name ≡ child maker.name x.kid))
    pub sorts : (c : ℕ) (x : RestCell) (r : Reference) → IsShown c x → IsCell born c r → r.sort ≡ phase_sort x.phase
