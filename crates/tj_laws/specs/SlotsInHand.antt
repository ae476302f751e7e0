-- The slots in the run that a table has: one that a seat has in hand isn't at home, no other seat has it, and a record
-- that lies at home stays as it is until a step takes it.
use Rattle.std.specs.Prelude.{◌≡◌, ◌⊎◌, ℕ, Bool, List, Option}
use mathlib.Core.Option.{none, some}
use lib.ListN.{get_elem?}
use Rattle.atomic_table.specs.Table.{Act, State, takes}
use Rattle.tj_body.specs.Points.{IsIn}
use Rattle.tj_body.specs.Programs.{Program}
use Rattle.tj_log.specs.Laws.{StandsIn}
use Rattle.tj_log.specs.Runs.{Past, slots_of, steps}
use Rattle.tj_log.specs.declared.entry.Entry.{Entry}
use Rattle.tj_words.specs.CallLaws.LoggedRuns.{HasRun}
use Rattle.tj_words.specs.Words.Lists.{AreApart}
use Rattle.tj_record.specs.declared.record.Rec.{Rec}
use Rattle.tj_words.specs.declared.table.Key.{Key}
use Rattle.tj_words.specs.declared.view.View.{View}

-- what the seats have in hand is out, no slot twice and none with two seats
pub record AreOut {S V : Type 0} (now : State S V) (past : Past S V) : Type 0 where
  pub out : (j k : ℕ) → IsIn k (slots_of j past) → get_elem? now.homes k ≡ some none
  pub one : (i j k : ℕ) → IsIn k (slots_of i past) → IsIn k (slots_of j past) → i ≡ j
  pub apart : (j : ℕ) → AreApart (slots_of j past)

module _ (B : Type 0) where
  -- at each moment of the run of a table a slot that a seat has in hand isn't at home, and no other seat has it
  abbrev pub HandsAreApart : Type 0
  HandsAreApart = (program : Bool → B → Program B) (key : Key B) (s : State (Option (Rec B)) (View B))
      (run : HasRun program key s) (t : State (Option (Rec B)) (View B)) (came : Past (Option (Rec B)) (View B))
      → StandsIn t came s run.past → AreOut t came

  -- at each step of the run of a table what lies at home in a slot stays there as it is, or that step takes it: so no
  -- record is laid for a task whose record lies at home, whether a seat holds the task or not
  abbrev pub RecordsStayHome : Type 0
  RecordsStayHome = (program : Bool → B → Program B) (key : Key B) (s : State (Option (Rec B)) (View B))
      (run : HasRun program key s) (x t : State (Option (Rec B)) (View B)) (came : Past (Option (Rec B)) (View B))
      (id : ℕ) (e : Entry) (slots : List (ℕ × Option (Rec B))) (act : Act (Option (Rec B)))
      → StandsIn t (steps came x id e slots act) s run.past → (k : ℕ) (y : Option (Rec B))
      → get_elem? x.homes k ≡ some (some y) → (act ≡ takes k y) ⊎ (get_elem? t.homes k ≡ some (some y))
