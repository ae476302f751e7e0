-- What a walk that has ended says of cycles: no cycle through its task stood just after the task had published its
-- wait, whatever was done between.
use Rattle.std.specs.Prelude.{◌≡◌, ℕ, Bool, List}
use mathlib.Core.Option.{some}
use lib.ListN.{get_elem?}
use Rattle.tj_body.specs.Programs.{Program}
use Rattle.tj_events.specs.Events.{MaySettle}
use Rattle.tj_events.specs.WaitGraph.{IsOnCycle}
use Rattle.tj_events.specs.declared.walk.Way.{Way}
use Rattle.tj_words.specs.declared.phase.Phase.TheVariants as phase
use Rattle.tj_words.specs.declared.phase.Walk.TheVariants as walk
use Rattle.tj_words.specs.declared.table.Key.{Key}
use Rattle.tj_words.specs.declared.view.View.{View}
use Rattle.tj_words.specs.Calls.WalkViews.{IsWalking}
use Rattle.tj_words.specs.CallLaws.CallRuns.{AreAskedMoments, IsAskedCall, under}
use Rattle.tj_words.specs.CallLaws.RestedRuns.{Ruled, last_moment}
use Rattle.tj_words.specs.CallLaws.StepCalls as call
use Rattle.tj_words.specs.Steps.TableRuns.{state_of}
use Rattle.tj_words.specs.Words.Lists.{cell}
use Rattle.tj_words.specs.Words.Phases.{phase_in}

module _ {B : Type 0} where
  -- a seat with this view holds t, whose walk is at its end: OTHERS was read as 0, or the last load of the walk ends it
  abbrev pub HasEndedWalk : ℕ → View B → Type 0
  HasEndedWalk t v = IsWalking t (λ p way w. MaySettle w) v

  module _ (program : Bool → B → Program B) (key : Key B) where
    -- a call by which t publishes that it waits for p
    pub record PublishesAt (u w : Ruled program key) (t p : ℕ) : Type 0 where
      pub publish : IsAskedCall program key u.now w.now
      pub is : publish.made.call ≡ call.puts_phase t
      pub way : Way
      pub waits : phase_in publish.made.operands.first ≡ phase.Waiting (cell p) way walk.Walking

    -- at this moment t is on a standing cycle
    abbrev pub IsOnCycleAt : ℕ → Ruled program key → Type 0
    IsOnCycleAt t u =
        IsOnCycle (state_of (program key.strict key.root.value) key.cells (under program key u)).cells t

-- where a seat's walk of t is at its end, no cycle through t stood just after t had published
abbrev pub EndedWalksAreOffCycles : Type 0 → Type 0
EndedWalksAreOffCycles B = (program : Bool → B → Program B) (key : Key B) (u w : Ruled program key)
    (later : List (Ruled program key)) (t p id : ℕ) (v : View B) → PublishesAt program key u w t p
    → AreAskedMoments program key w later
    → get_elem? (last_moment program key w later).now.views id ≡ some v → HasEndedWalk t v
    → ¬ IsOnCycleAt program key t w
