-- The wait graph by the words of a table alone: who waits for which cell by PHASE, and who owns it by OWN.
use Rattle.std.specs.Prelude.{◌≡◌, ◌⊎◌, ℕ, nat_eq, Bool, List, ◌∷◌, Some, Contains}
use Rattle.tj_base.specs.Cycles as graph
use Rattle.tj_base.specs.declared.cell.CellId.{CellId}
use Rattle.tj_body.specs.Programs.{Program}
use Rattle.tj_events.specs.StateLaws.{HasOpenWalk}
use Rattle.tj_events.specs.declared.walk.Way.{Way}
use Rattle.tj_words.specs.declared.phase.Walk.{Walk}
use Rattle.tj_words.specs.declared.phase.Walk.TheVariants as walk
use Rattle.tj_words.specs.declared.phase.Phase.TheVariants as phase
use Rattle.tj_words.specs.declared.table.Key.{Key}
use Rattle.tj_words.specs.CallLaws.RestedRuns.{Ruled}
use Rattle.tj_words.specs.LawParts.Contents.{Contents}
use Rattle.tj_runs.specs.Moments.{Always, EverAfter, contents_at, shown_at}

module _ {B : Type 0} (x : Contents B) where
  -- PHASE of t says that t waits for cell c
  abbrev pub Waits : ℕ → CellId → Type 0
  Waits t c = (way : Way) × (w : Walk) × (x.words.phase t ≡ phase.Waiting c way w)

  -- PHASE of t is Alarmed
  abbrev pub HasAlarmed : ℕ → Type 0
  HasAlarmed t = (c : CellId) × (way : Way) × (x.words.phase t ≡ phase.Waiting c way walk.Alarmed)

  -- t leads to u: it waits for a cell whose OWN is u
  abbrev pub Leads : ℕ → ℕ → Type 0
  Leads t u = (c : CellId) × Waits t c × (x.words.own c.0 ≡ Some u)

  -- a cycle of waits that stands: distinct tasks, each leading to the next and the last to the first
  abbrev pub IsCycle : List ℕ → Type 0
  IsCycle tasks = graph.IsCycle Leads nat_eq tasks

  -- a task that has alarmed is the first of a cycle of waits that stands
  abbrev pub AlarmsAreOnCycles : Type 0
  AlarmsAreOnCycles = (t : ℕ) → HasAlarmed t → (ts : List ℕ) × IsCycle (t ∷ ts)

  -- where OTHERS is 0, no cycle of waits stands
  abbrev pub NoneWhereNoOther : Type 0
  NoneWhereNoOther = x.words.others ≡ 0 → (tasks : List ℕ) → ¬ IsCycle tasks

module _ {B : Type 0} (x y : Contents B) where
  -- a cycle of waits that stands at x stands at y, with the same members, each of which waits for the same cell
  abbrev pub CyclesStay : Type 0
  CyclesStay = (tasks : List ℕ) → IsCycle x tasks → IsCycle y tasks
      × ((t : ℕ) (c : CellId) → Contains tasks t → Waits x t c → Waits y t c)

  -- a task that has alarmed at x has at y
  abbrev pub AlarmsStay : Type 0
  AlarmsStay = (t : ℕ) → HasAlarmed x t → HasAlarmed y t

module _ {B : Type 0} (program : Bool → B → Program B) (key : Key B) (u : Ruled program key) where
  -- each cycle of waits that stands has a member that has alarmed, or that walks and isn't at its walk's end
  abbrev pub CyclesAreWatched : Type 0
  CyclesAreWatched = (tasks : List ℕ) → IsCycle (contents_at program key u) tasks
      → (m : ℕ) × Contains tasks m
      × (HasAlarmed (contents_at program key u) m ⊎ HasOpenWalk (shown_at program key u) m)

-- At every moment a task that has alarmed is on a cycle of waits that stands, by the words themselves, and each cycle
-- of waits that stands has a member that has alarmed or whose walk isn't at its end; and ever after that task has
-- alarmed, and that cycle stands, with the same members and cells.
abbrev pub EveryMoment : Type 0 → Type 0
EveryMoment B = EverAfter B (λ program key u w.
    AlarmsAreOnCycles (contents_at program key u)
    × CyclesAreWatched program key u
    × AlarmsStay (contents_at program key u) (contents_at program key w)
    × CyclesStay (contents_at program key u) (contents_at program key w))

-- at every moment at which OTHERS is 0 no cycle of waits stands
abbrev pub NoOtherWaitNoCycle : Type 0 → Type 0
NoOtherWaitNoCycle B = Always B (λ program key u. NoneWhereNoOther (contents_at program key u))
