-- Where the record of a task that has ended lies: at home, from the step on by which its seat put it there.
use Rattle.std.specs.Prelude.{◌≡◌, ℕ, Bool, List, Option, Some}
use mathlib.Core.Option.{some}
use lib.ListN.{get_elem?}
use Rattle.atomic_table.specs.Table.{State}
use Rattle.tj_body.specs.Points.{IsIn}
use Rattle.tj_body.specs.Programs.{Program}
use Rattle.tj_record.specs.declared.record.Finish.{Finish}
use Rattle.tj_record.specs.declared.record.Rec.{Rec}
use Rattle.tj_words.specs.CallLaws.LoggedRuns.{HasRun}
use Rattle.tj_words.specs.CallLaws.RestedRuns.{Ruled}
use Rattle.tj_words.specs.LawParts.Contents.{Contents, contents_of, home_of}
use Rattle.tj_words.specs.declared.phase.Phase.TheVariants as phase
use Rattle.tj_words.specs.declared.table.Key.{Key}
use Rattle.tj_words.specs.declared.view.View.{View}
use Rattle.tj_runs.specs.OwnRuns.{AreTheLast}
use Rattle.tj_runs.specs.Moments.{EverAfter, contents_at}
use Rattle.tj_runs.specs.TaskHolders.{IsFree}

module _ {B : Type 0} where
  -- the record says how its task ended
  abbrev pub HasFinish : Rec B → Type 0
  HasFinish r = (f : Finish) × (r.finish ≡ Some f)

  -- t has ended, no seat holds it, and this record of it lies at home
  pub record LiesEnded (x : Contents B) (t : ℕ) (r : Rec B) : Type 0 where
    pub ended : x.words.phase t ≡ phase.Ended
    pub free : IsFree x t
    pub home : home_of x t ≡ Some r

  -- in each table in whose run a seat has had this view, at whatever moment: by what stands t has ended, no seat holds
  -- it, and this record of it lies at home
  abbrev pub LiesForGood : (Bool → B → Program B) → ℕ → Rec B → View B → Type 0
  LiesForGood program t r v = (key : Key B) (s : State (Option (Rec B)) (View B)) (run : HasRun program key s)
      (w : Ruled program key) (more : List (Ruled program key)) → AreTheLast program key run.first run.later w more
      → (id : ℕ) → get_elem? w.now.views id ≡ some v → LiesEnded (contents_of s) t r

module _ (B : Type 0) where
  -- the record that lies at home of a task which has ended lies there ever after, and no seat holds the task
  abbrev pub EndedRecordsStay : Type 0
  EndedRecordsStay = EverAfter B (λ program key u w. (t : ℕ) (r : Rec B)
      → (contents_at program key u).words.phase t ≡ phase.Ended → home_of (contents_at program key u) t ≡ Some r
      → LiesEnded (contents_at program key w) t r)

  -- each record with a finish that a seat's steps had put home, by its view, lies there for good
  abbrev pub EndedRecordsLie : Type 0
  EndedRecordsLie = (program : Bool → B → Program B) (v : View B) (r : Rec B) → IsIn r v.put_home → HasFinish r
      → LiesForGood program r.cell.0 r v
