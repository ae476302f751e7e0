-- Runs that come to a task's end: where the root ends at its first ask, its table has a run in which it has ended.
use Rattle.std.specs.Prelude.{◌≡◌, ℕ, ◌<◌, ◌≤◌, ◌^◌, Bool, List, [], ◌∷◌, Option, Some}
use Rattle.std.specs.Int.{cast_signed, w64}
use mathlib.Core.Option.{some}
use lib.ListN.{get_elem?}
use Rattle.atomic_table.specs.Table.{Act, State}
use Rattle.tj_base.specs.declared.cell.TheConstants.{MAX_CELLS}
use Rattle.tj_body.specs.Asks.{Await, IsFresh}
use Rattle.tj_body.specs.History.{Assignment, point_after, to_task}
use Rattle.tj_body.specs.Points.{IsIn}
use Rattle.tj_body.specs.Programs.{Program, program_of, root_task}
use Rattle.tj_body.specs.declared.ask.Answer.{Answer}
use Rattle.tj_body.specs.declared.ask.Ask.{Ask}
use Rattle.tj_body.specs.declared.point.Close.{Close}
use Rattle.tj_body.specs.declared.point.Close.TheVariants as close
use Rattle.tj_body.specs.declared.point.PointStage.TheVariants as stage
use Rattle.tj_body.specs.declared.point.Value.TheVariants as value
use Rattle.tj_log.specs.Laws.{StandsIn}
use Rattle.tj_log.specs.Runs.{Past, steps}
use Rattle.tj_record.specs.declared.record.Finish.{Finish}
use Rattle.tj_record.specs.declared.record.Rec.{Rec}
use Rattle.tj_words.specs.CallLaws.LoggedRuns.{HasRun}
use Rattle.tj_words.specs.CallLaws.StepCalls as call
use Rattle.tj_words.specs.CallLaws.StepLogs.{entry_of}
use Rattle.tj_words.specs.LawParts.Contents.{contents_of}
use Rattle.tj_words.specs.LawParts.Telling.{FinishSays}
use Rattle.tj_words.specs.Words.Phases.{phase_in}
use Rattle.tj_words.specs.declared.phase.Phase.TheVariants as phase
use Rattle.tj_words.specs.declared.table.Key.{Key}
use Rattle.tj_words.specs.declared.view.View.{View}
use Rattle.tj_runs.specs.HomeRecords.{LiesEnded}

module _ {B : Type 0} where
  -- the run to this state has a step that stored Ended for t
  abbrev pub HasEndedStore : ℕ → State (Option (Rec B)) (View B) → Past (Option (Rec B)) (View B) → Type 0
  HasEndedStore t last past = (x y : State (Option (Rec B)) (View B)) × (came : Past (Option (Rec B)) (View B))
      × (id n : ℕ) × (slots : List (ℕ × Option (Rec B))) × (act : Act (Option (Rec B)))
      × (phase_in n ≡ phase.Ended)
      × StandsIn y (steps came x id (entry_of (call.puts_phase t) n 0 n) slots act) last past

  -- the table has a run in which its root has ended like this: a step of it stored Ended for the root; the view of a
  -- seat says at its end that the seat's steps put this record home; and the record lies at home then, no seat holds
  -- the root, and LIVE is 0
  pub record HasEndedRun (program : Bool → B → Program B) (key : Key B) (f : Finish) : Type 0 where
    pub last : State (Option (Rec B)) (View B)
    pub run : HasRun program key last
    pub stored : HasEndedStore 0 last run.past
    pub id : ℕ
    pub view : View B
    pub at : get_elem? last.views id ≡ some view
    pub record_of : Rec B
    pub put : IsIn record_of view.put_home
    pub finish : record_of.finish ≡ Some f
    pub lies : LiesEnded (contents_of last) 0 record_of
    pub live : (contents_of last).words.live ≡ 0

-- the number with which a task ends, where it ends with one, is of 64 bits
abbrev pub HasBits : Close → Type 0
HasBits (close.Done (value.Num i)) = (bits : ℕ) × (bits < 2 ^ 64) × (cast_signed w64 bits ≡ i)
HasBits e = Unit {0}

-- where by its meaning the root ends at its first ask, its table has a run in which the root has ended so: the finish
-- says it, where the cell 0 is the root
abbrev pub RootsEnd : {B : Type 0} (places : B → ℕ) (awaits : B → Await) (left : B → ℕ) (asks : B → Answer → Ask B)
    (then : B → Answer → B) → Type 0
RootsEnd {B} places awaits left asks then = (key : Key B) → 0 < key.cells → key.cells ≤ MAX_CELLS
    → IsFresh places awaits left 1 key.root.value → (V : Assignment) (e : Close)
    → (point_after (program_of places awaits left asks then key.strict key.root.value).rules V 1
    (root_task key.root.value)).stage ≡ stage.Closed e → HasBits e
    → (f : Finish) × FinishSays (to_task [] ∷ []) f e
    × HasEndedRun (program_of places awaits left asks then) key f
