-- What stands after a run.
use Rattle.std.specs.Prelude.{◌≡◌, ℕ, ◌*◌, ◌<◌, ◌≤◌, Bool, List, Option, length}
use Rattle.tj_body.specs.Programs.{Program}
use Rattle.tj_log.specs.Shown.{SeatShown}
use Rattle.tj_record.specs.declared.record.Rec.{Rec}
use Rattle.tj_words.specs.declared.closed.RestCell.{RestCell}
use Rattle.tj_words.specs.declared.view.View.{View}
use Rattle.tj_words.specs.LawParts.Lots.{least_lot}
use Rattle.tj_words.specs.AtRest.ClosedCells.{AreAtRest, AreCyclesAlarmed, AreAlarmsOnCycles}
use Rattle.tj_words.specs.AtRest.EndedRuns.{EndsRun, RestEndsRun}
use Rattle.tj_words.specs.AtRest.RestMeaning.{HaveMeaning, AreCyclesOfMeaningAlarmed}
use Rattle.tj_words.specs.AtRest.RestShown.{RestShown}
use Rattle.tj_words.specs.AtRest.RestValues.{AreValuesOfMeaning}

module _ {B : Type 0} where
  -- there are so many workers, one at least and 64 at most, and the seat's lot can be split among them
  pub record HasLots (workers : ℕ) (v : View B) : Type 0 where
    pub some : 0 < workers
    pub few : workers ≤ 64
    pub lot : least_lot * workers ≤ v.lot

  -- all words and the records are the end of a run of a table from its first state, which its last seat closed
  abbrev pub EndsItsRun : (Bool → B → Program B) → B → ℕ → Bool → RestShown B → Type 0
  EndsItsRun program root limit strict r = (seat : SeatShown (Option (Rec B)) (View B))
      × RestEndsRun program limit strict root seat r

  -- these closed words are those of the end of such a run
  abbrev pub AreEndOfRun : (Bool → B → Program B) → B → ℕ → Bool → List RestCell → Type 0
  AreEndOfRun program root limit strict cells = (seat : SeatShown (Option (Rec B)) (View B))
      × (records : List (Option (Rec B))) × EndsRun program limit strict root seat cells records

  -- nothing goes on, no wake was lost, and the words and the records are those of the meaning, with the value of each
  -- cell; each cycle of waits, shown or meant, has a task that alarmed, and each task that alarmed is on one; and all
  -- this is the end of a run of the table from its first state
  pub record RestsAt (program : Bool → B → Program B) (root : B) (limit : ℕ) (strict : Bool) (r : RestShown B) :
      Type 0 where
    pub names_limit : r.limit ≡ limit
    pub names_root : r.root ≡ root
    pub names_strict : r.strict ≡ strict
    pub drawn : length r.cells ≤ limit
    pub rest : AreAtRest r.cells
    pub meaning : HaveMeaning (program strict root) limit r.cells r.records
    pub cycles : AreCyclesAlarmed r.cells
    pub alarms : AreAlarmsOnCycles r.cells
    pub meant_cycles : AreCyclesOfMeaningAlarmed (program strict root) limit r.cells
    pub values : AreValuesOfMeaning (program strict root) limit r.cells r.words
    pub run : EndsItsRun program root limit strict r
