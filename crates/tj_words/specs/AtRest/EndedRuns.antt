-- The run of a closed table: its words and records are the end of a run from the first state.
use Rattle.std.specs.Prelude.{◌≡◌, ℕ, Bool, List, Option}
use mathlib.Core.Option.{some}
use lib.ListN.{get_elem?}
use Rattle.atomic_table.specs.Table.{State}
use Rattle.tj_body.specs.Programs.{Program}
use Rattle.tj_log.specs.Runs.{befores_of, log_of, took_befores_of, took_of}
use Rattle.tj_log.specs.Shown.{SeatShown}
use Rattle.tj_words.specs.declared.closed.RestCell.{RestCell}
use Rattle.tj_record.specs.declared.record.Rec.{Rec}
use Rattle.tj_words.specs.declared.table.Key.{Key}
use Rattle.tj_words.specs.declared.view.View.{View}
use Rattle.tj_words.specs.AtRest.RestShown.{RestShown}
use Rattle.tj_words.specs.AtRest.ShownCells.{AreCellsOf}
use Rattle.tj_words.specs.CallLaws.LoggedRuns.{HasRun}

-- These cells and records are what stood last in a table of so many cells for this program, which had come by a run
-- from what stands at first; and the seat was one of that table, with the view that it has.
pub record EndsRun {B : Type 0} (program : Bool → B → Program B) (limit : ℕ) (strict : Bool) (root : B)
    (seat : SeatShown (Option (Rec B)) (View B)) (cells : List RestCell) (records : List (Option (Rec B)))
    : Type 0 where
  pub key : Key B
  pub key_cells : key.cells ≡ limit
  pub key_strict : key.strict ≡ strict
  pub key_root : key.root.value ≡ root
  pub last : State (Option (Rec B)) (View B)
  pub run : HasRun program key last
  pub seat_is : get_elem? last.views seat.id ≡ some seat.me.0
  -- its log has its own steps of that run, and beside it it has the logs of the seats that it has taken in
  pub log : seat.log ≡ log_of seat.id run.past
  pub took : seat.took ≡ took_of seat.id run.past
  -- and with each step of these logs the view before it
  pub befores : seat.befores ≡ befores_of seat.id run.past
  pub took_befores : seat.took_befores ≡ took_befores_of seat.id run.past
  pub shown : AreCellsOf last.words limit cells
  -- what lies at home is what the slot has
  pub home : (c : ℕ) (r : Option (Rec B)) → get_elem? last.homes c ≡ some (some r) → get_elem? records c ≡ some r

-- So it is of a table closed at rest, of which all words are at hand: each of them is the one that the run ended with.
pub record RestEndsRun {B : Type 0} (program : Bool → B → Program B) (limit : ℕ) (strict : Bool) (root : B)
    (seat : SeatShown (Option (Rec B)) (View B)) (r : RestShown B) : Type 0 where
  pub ends : EndsRun program limit strict root seat r.cells r.records
  pub words : ends.last.words ≡ r.words
