-- What the verdicts Walked and Skipped say of a run: no cycle through the task stood just after the call had published.
use Rattle.std.specs.Prelude.{◌≡◌, ◌≢◌, ℕ, Bool, List}
use mathlib.Core.Option.{some}
use lib.ListN.{get_elem?}
use Rattle.tj_body.specs.Programs.{Program}
use Rattle.tj_events.specs.declared.walk.Way.{Way}
use Rattle.tj_words.specs.declared.table.Key.{Key}
use Rattle.tj_words.specs.declared.view.View.{View}
use Rattle.tj_words.specs.CallLaws.CallRuns.{AreAskedMoments}
use Rattle.tj_words.specs.CallLaws.RestedRuns.{Ruled, last_moment}
use Rattle.tj_runs.specs.Verdicts.{IsOnCycleAt, PublishesAt}
use Rattle.tj_detect.specs.Blocks.{Blocks, MayBlock}
use Rattle.tj_detect.specs.declared.blocking.Verdict.{Verdict}
use Rattle.tj_detect.specs.declared.blocking.Verdict.TheVariants.{Alarm}

-- where a call told Walked or Skipped, and its seat's view is as the call left it, no cycle through t stood just after
-- a publish of t in the run up to there: so none did just after this call's own
abbrev pub VerdictsAreOffCycles : Type 0 → Type 0
VerdictsAreOffCycles B = (program : Bool → B → Program B) (key : Key B) (u w : Ruled program key)
    (later : List (Ruled program key)) (t q p id old new : ℕ) (way : Way) (verdict : Verdict) (v v' : View B)
    → PublishesAt program key u w t p → AreAskedMoments program key w later
    → get_elem? (last_moment program key w later).now.views id ≡ some v'
    → MayBlock t q way v → Blocks verdict t q way old new v v' → verdict ≢ Alarm
    → ¬ IsOnCycleAt program key t w
