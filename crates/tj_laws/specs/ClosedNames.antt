-- The names that seats know in the run of a closed table are those of its closed words.
use Rattle.std.specs.Prelude.{◌≡◌, ℕ, Bool, List, Option}
use mathlib.Core.Option.{some}
use lib.ListN.{get_elem?}
use Rattle.tj_body.specs.Programs.{Program}
use Rattle.tj_body.specs.declared.point.Reference.{Reference}
use Rattle.tj_log.specs.Shown.{SeatShown}
use Rattle.tj_words.specs.AtRest.ClosedCells.{AreNamed}
use Rattle.tj_words.specs.AtRest.EndedRuns.{EndsRun}
use Rattle.tj_runs.specs.OwnRuns.{AreTheLast}
use Rattle.tj_words.specs.CallLaws.RestedRuns.{Ruled, live_in}
use Rattle.tj_words.specs.LawParts.TreeWords.{IsCell}
use Rattle.tj_words.specs.declared.closed.RestCell.{RestCell}
use Rattle.tj_record.specs.declared.record.Rec.{Rec}
use Rattle.tj_words.specs.declared.view.View.{View}

-- Where LIVE is 0 at the end of the run of a closed table: a cell that a seat's view names at some moment of that run
-- has this name by the closed words, and so in the meaning to which they belong.
abbrev pub KnownNamesAreClosed : Type 0 → Type 0
KnownNamesAreClosed B = (program : Bool → B → Program B) (limit : ℕ) (strict : Bool) (root : B)
    (seat : SeatShown (Option (Rec B)) (View B)) (cells : List RestCell) (records : List (Option (Rec B)))
    (e : EndsRun program limit strict root seat cells records) → live_in e.last ≡ 0
    → (born : List Reference) → AreNamed cells born
    → (w : Ruled program e.key) (more : List (Ruled program e.key))
    → AreTheLast program e.key e.run.first e.run.later w more
    → (id : ℕ) (v : View B) → get_elem? w.now.views id ≡ some v → (c : ℕ) (r : Reference) → IsCell v.born c r
    → (x : Reference) × IsCell born c x × (x.name ≡ r.name)
