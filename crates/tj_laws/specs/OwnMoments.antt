-- What the laws of whole runs say of the run that a table has, up to what stands, and of the closed words at its end.
use Rattle.std.specs.Prelude.{◌≡◌, ℕ, Bool, List, map, Option}
use Rattle.atomic_table.specs.Table.{State}
use Rattle.tj_base.specs.Cycles as graph
use Rattle.tj_body.specs.Names.{same}
use Rattle.tj_body.specs.Programs.{Program}
use Rattle.tj_body.specs.Rounds.{meaning}
use Rattle.tj_body.specs.WaitGraph.{WaitsFor}
use Rattle.tj_body.specs.declared.point.Reference.{Reference}
use Rattle.tj_log.specs.Shown.{SeatShown}
use Rattle.tj_words.specs.AtRest.ClosedCells as closed
use Rattle.tj_words.specs.AtRest.EndedRuns.{EndsRun}
use Rattle.tj_words.specs.AtRest.RestMeaning.{AreWordsOf}
use Rattle.tj_words.specs.CallLaws.LoggedRuns.{HasRun}
use Rattle.tj_runs.specs.OwnRuns.{AreTheLast}
use Rattle.tj_words.specs.CallLaws.RestedRuns.{Ruled}
use Rattle.tj_words.specs.LawParts.Contents.{Contents, contents_of}
use Rattle.tj_words.specs.LawParts.ShownState.{reference_of}
use Rattle.tj_words.specs.declared.closed.RestCell.{RestCell}
use Rattle.tj_record.specs.declared.record.Rec.{Rec}
use Rattle.tj_words.specs.declared.table.Key.{Key}
use Rattle.tj_words.specs.declared.view.View.{View}
use Rattle.tj_runs.specs.Moments.{contents_at}
use Rattle.tj_runs.specs.PhaseChanges.{LastPhasesStay}
use Rattle.tj_laws.specs.RestedTables.{IsStill, StopStays}
use Rattle.tj_laws.specs.TableWaits.{AlarmsAreOnCycles, AlarmsStay, CyclesAreWatched, CyclesStay, HasAlarmed, IsCycle}

-- what was so of the contents x is so of the contents y
pub record KeepsTo {B : Type 0} (cells : ℕ) (x y : Contents B) : Type 0 where
  pub alarms : AlarmsStay x y
  pub cycles : CyclesStay x y
  pub phases : LastPhasesStay x y
  pub stop : StopStays x y
  pub still : x.words.live ≡ 0 → IsStill x y cells

-- At each moment of the run of a table each task that has alarmed is on a cycle, and each cycle is watched; and what
-- has alarmed, stands, has ended, was stopped or has come to rest at that moment is so still of what stands now.
abbrev pub OwnMomentsStand : Type 0 → Type 0
OwnMomentsStand B = (program : Bool → B → Program B) (key : Key B) (s : State (Option (Rec B)) (View B))
    (run : HasRun program key s) (w : Ruled program key) (more : List (Ruled program key))
    → AreTheLast program key run.first run.later w more
    → AlarmsAreOnCycles (contents_at program key w) × CyclesAreWatched program key w
    × KeepsTo key.cells (contents_at program key w) (contents_of s)

-- What has alarmed at some moment of the run of a closed table has alarmed by its closed words, and a cycle of waits
-- that stood then is one of them.
abbrev pub AlarmsAreClosed : Type 0 → Type 0
AlarmsAreClosed B = (program : Bool → B → Program B) (limit : ℕ) (strict : Bool) (root : B)
    (seat : SeatShown (Option (Rec B)) (View B)) (cells : List RestCell) (records : List (Option (Rec B)))
    (e : EndsRun program limit strict root seat cells records)
    (w : Ruled program e.key) (more : List (Ruled program e.key))
    → AreTheLast program e.key e.run.first e.run.later w more
    → ((t : ℕ) → HasAlarmed (contents_at program e.key w) t → closed.HasAlarmed cells t)
    × ((tasks : List ℕ) → IsCycle (contents_at program e.key w) tasks → closed.IsCycle cells tasks)

-- Each cycle of waits by closed words of a meaning is one of the meaning's waits, by the names of its tasks: so it is
-- one of the outcome, and of its report.
abbrev pub ClosedCyclesAreMeant : Type 0 → Type 0
ClosedCyclesAreMeant B = (program : Program B) (N : ℕ) (shown : List RestCell) (born : List Reference)
    → AreWordsOf program N born shown → (tasks : List ℕ) → closed.IsCycle shown tasks
    → graph.IsCycle (WaitsFor (meaning program N)) same (map (λ t. (reference_of born t).name) tasks)
