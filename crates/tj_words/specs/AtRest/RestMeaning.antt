-- What stands in closed words and records is the meaning of the program: its cells, what has become of them, and its
-- histories.
use Rattle.std.specs.Prelude.{◌≡◌, ◌≢◌, ◌↔◌, ℕ, List, map, Option, Some, None}
use mathlib.Core.Option.{some}
use lib.ListN.{get_elem?}
use Rattle.tj_base.specs.Cycles as graph
use Rattle.tj_base.specs.ForkOrder.{Name}
use Rattle.tj_base.specs.declared.cell.CellId.{CellId}
use Rattle.tj_base.specs.declared.cell.Sort.TheVariants as sort
use Rattle.tj_body.specs.Names.{same}
use Rattle.tj_body.specs.History.{to_task, owned}
use Rattle.tj_body.specs.Laws.{AreDistinct}
use Rattle.tj_body.specs.Points.{IsIn}
use Rattle.tj_body.specs.Programs.{Program}
use Rattle.tj_body.specs.Rounds.{given, cells, meaning, last_round, IsFull}
use Rattle.tj_body.specs.WaitGraph.{WaitsFor}
use Rattle.tj_body.specs.declared.point.Reference.{Reference}
use Rattle.tj_body.specs.declared.point.Entry.{Entry}
use Rattle.tj_body.specs.declared.point.PointStage.{PointStage}
use Rattle.tj_body.specs.declared.point.PointStage.TheVariants as stage
use Rattle.tj_body.specs.declared.point.Point.{Point}
use Rattle.tj_events.specs.declared.walk.Way.{Way}
use Rattle.tj_words.specs.declared.closed.RestCell.{RestCell}
use Rattle.tj_words.specs.declared.phase.Walk.{Walk}
use Rattle.tj_words.specs.declared.phase.Walk.TheVariants as walk
use Rattle.tj_words.specs.declared.phase.Phase.{Phase}
use Rattle.tj_words.specs.declared.phase.Phase.TheVariants as phase
use Rattle.tj_record.specs.declared.record.Rec.{Rec}
use Rattle.tj_words.specs.AtRest.ClosedCells.{IsShown, Owns, HasAlarmed, AreNamed}
use Rattle.tj_words.specs.LawParts.Telling.{tag_of, Tells, TellsStage}
use Rattle.tj_words.specs.LawParts.TreeWords.{IsCell}

-- TAG of a cell by its entry, if it has one
abbrev pub tag_for : Option Entry → ℕ
tag_for None = 0
tag_for (Some e) = tag_of e

-- the names of cells
abbrev pub names : List Reference → List Name
names born = map (λ (r : Reference). r.name) born

module _ (born : List Reference) where
  -- PHASE of a task whose history stops at this stage: it has ended, or has parked or alarmed on the cell for which the
  -- history waits
  abbrev pub IsPhaseAt : PointStage → Phase → Type 0
  IsPhaseAt (stage.Answered a) p = ⊥
  IsPhaseAt (stage.Waits q spare) p = (c : CellId) × (way : Way) × (w : Walk) × (r : Reference)
      × (p ≡ phase.Waiting c way w) × (w ≢ walk.Walking) × IsCell born c.0 r × (r.name ≡ q)
  IsPhaseAt (stage.Closed e) p = p ≡ phase.Ended

  module _ {B : Type 0} where
    -- the words show of the task of cell c that p is its history
    pub record ShowsHistory (shown : List RestCell) (c : ℕ) (p : Point B) : Type 0 where
      pub is : IsCell born c (to_task p.name)
      pub x : RestCell
      pub is_shown : IsShown shown c x
      pub phase_is : IsPhaseAt p.stage x.phase
      pub owns : (d : CellId) (r : Reference) → IsCell born d.0 r → Owns shown c d ↔ IsIn r.name (owned p)

    -- the record of the task of cell c tells the history p
    pub record TellsHistory (records : List (Option (Rec B))) (c : ℕ) (p : Point B) : Type 0 where
      pub r : Rec B
      pub lies : get_elem? records c ≡ some (Some r)
      pub own : r.cell.0 ≡ c
      pub tells : Tells born r p
      pub tells_stage : TellsStage born r.finish r.answer r.spare p

module _ {B : Type 0} (program : Program B) (N : ℕ) where
  -- The words are those of the meaning with limit N: it isn't full; its cells are these, each once; TAG of each is that
  -- of its entry; owners are tasks; and the words show the history of each task, of tasks of the meaning alone.
  pub record AreWordsOf (born : List Reference) (shown : List RestCell) : Type 0 where
    pub fits : ¬ IsFull program N
    pub named : AreNamed shown born
    pub once : AreDistinct (names born)
    pub all : (q : Name) → IsIn q (names born) ↔ IsIn q (cells program (last_round N))
    pub entries : (c : ℕ) (x : RestCell) (r : Reference) → IsShown shown c x → IsCell born c r
        → x.tag ≡ tag_for (given program (last_round N) r.name)
    pub owners : (u : ℕ) (c : CellId) → Owns shown u c → (r : Reference) × IsCell born u r × (r.sort ≡ sort.Task)
    pub histories : (p : Point B) → IsIn p (meaning program N) → (c : ℕ) × ShowsHistory born shown c p
    pub tasks : (c : ℕ) (r : Reference) → IsCell born c r → r.sort ≡ sort.Task
        → (p : Point B) × IsIn p (meaning program N) × ShowsHistory born shown c p

  -- the records are its histories, each in the slot of its task, and no others
  pub record AreRecordsOf (born : List Reference) (records : List (Option (Rec B))) : Type 0 where
    pub histories : (p : Point B) → IsIn p (meaning program N) → (c : ℕ) × TellsHistory born records c p
    pub tasks : (c : ℕ) (r : Rec B) → get_elem? records c ≡ some (Some r)
        → (p : Point B) × IsIn p (meaning program N) × TellsHistory born records c p

  -- the words are those of the meaning
  abbrev pub HaveWords : List RestCell → Type 0
  HaveWords shown = (born : List Reference) × AreWordsOf born shown

  -- and so are the records
  abbrev pub HaveMeaning : List RestCell → List (Option (Rec B)) → Type 0
  HaveMeaning shown records = (born : List Reference) × AreWordsOf born shown × AreRecordsOf born records

  -- each cycle of the meaning's waits has a member that has alarmed
  abbrev pub AreCyclesOfMeaningAlarmed : List RestCell → Type 0
  AreCyclesOfMeaningAlarmed shown = (tasks : List Name) → graph.IsCycle (WaitsFor (meaning program N)) same tasks
      → (born : List Reference) → AreWordsOf born shown
      → (u : ℕ) × (r : Reference) × IsCell born u r × IsIn r.name tasks × HasAlarmed shown u
