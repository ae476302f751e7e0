-- Runs of a table by its calls, and what their moments show.
use Rattle.std.specs.Prelude.{◌≡◌, Bool, List}
use Rattle.atomic_table.specs.Table.{opening}
use Rattle.tj_body.specs.Programs.{Program}
use Rattle.tj_events.specs.CoreState.{CoreState}
use Rattle.tj_words.specs.declared.table.Key.{Key}
use Rattle.tj_words.specs.LawParts.Contents.{Contents, contents_of}
use Rattle.tj_words.specs.LawParts.FirstState.{first_slots, first_view, first_words}
use Rattle.tj_words.specs.CallLaws.CallRuns.{AreAskedMoments, under}
use Rattle.tj_words.specs.CallLaws.RestedRuns.{Ruled, last_moment}
use Rattle.tj_words.specs.Steps.TableRuns.{state_of}

module _ {B : Type 0} (program : Bool → B → Program B) (key : Key B) where
  -- what the table has at a moment
  abbrev pub contents_at : Ruled program key → Contents B
  contents_at u = contents_of u.now

  -- the core state that it shows
  abbrev pub shown_at : Ruled program key → CoreState
  shown_at u = state_of (program key.strict key.root.value) key.cells (under program key u)

  -- the program of the table
  abbrev pub program_at : Program B
  program_at = program key.strict key.root.value

  -- the table is new: the root alone is drawn and ready, and there is one seat
  abbrev pub IsNew : Ruled program key → Type 0
  IsNew u = u.now ≡ opening (first_words key.cells) (first_slots key.cells key.root.value)
      (first_view key.cells key.root.value key.strict)

module _ (B : Type 0) where
  -- this is so at each moment under the rule of its table: so at each moment of each run from a new table on
  abbrev pub Always : ((program : Bool → B → Program B) (key : Key B) → Ruled program key → Type 0) → Type 0
  Always F = (program : Bool → B → Program B) (key : Key B) (u : Ruled program key) → F program key u

  -- this is so of each such moment and each later one, to which calls, splits and merges lead
  abbrev pub EverAfter : ((program : Bool → B → Program B) (key : Key B) → Ruled program key → Ruled program key
      → Type 0) → Type 0
  EverAfter R = (program : Bool → B → Program B) (key : Key B) (u : Ruled program key)
      (later : List (Ruled program key)) → AreAskedMoments program key u later
      → R program key u (last_moment program key u later)

  -- this is so at each moment of each run from a new table on
  abbrev pub InEachRun : ((program : Bool → B → Program B) (key : Key B) → Ruled program key → Type 0) → Type 0
  InEachRun F = (program : Bool → B → Program B) (key : Key B) (u : Ruled program key)
      (later : List (Ruled program key)) → IsNew program key u → AreAskedMoments program key u later
      → F program key (last_moment program key u later)
