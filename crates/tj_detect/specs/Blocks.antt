-- What a call that blocks on a wait needs of its seat and makes of it, and what its verdict says of standing cycles.
use Rattle.std.specs.Prelude.{◌≡◌, ◌≢◌, ◌⊎◌, ℕ, ◌+◌, ◌*◌, ◌<◌, ◌≤◌, Bool, Option, Some, None}
use mathlib.Core.Option.{some}
use lib.ListN.{get_elem?}
use Rattle.atomic_table.specs.Table.{State}
use Rattle.tj_body.specs.Points.{IsIn}
use Rattle.tj_body.specs.Programs.{Program}
use Rattle.tj_events.specs.declared.walk.Way.{Way}
use Rattle.tj_events.specs.declared.walk.Way.TheVariants.{Along, Other}
use Rattle.tj_events.specs.declared.walk.Walker.{Walker}
use Rattle.tj_events.specs.declared.walk.LastRead.{LastRead}
use Rattle.tj_events.specs.declared.walk.LastRead.TheVariants.{Published, SawOthers, Counted, SawOwner, SawWait, Passed}
use Rattle.tj_events.specs.declared.walk.LastRead.TheVariants.{Changed}
use Rattle.tj_events.specs.CoreState.{CoreState, stage}
use Rattle.tj_events.specs.Events.{start_walk, others_read, count_read, owner_read, wait_found, owner_found, is_owner}
use Rattle.tj_events.specs.Events.{MayReadOthers, MayCount, MayReadOwner, MaySettle}
use Rattle.tj_events.specs.Facts.{Watches}
use Rattle.tj_events.specs.WaitGraph.{Reaches, IsOnCycle, IsOnCycleOf}
use Rattle.tj_record.specs.declared.record.Rec.{Rec}
use Rattle.tj_words.specs.declared.table.Key.{Key}
use Rattle.tj_words.specs.declared.view.Custody.{Custody}
use Rattle.tj_words.specs.declared.view.Does.{Does}
use Rattle.tj_words.specs.declared.view.Does.TheVariants as does
use Rattle.tj_words.specs.declared.view.View.{View}
use Rattle.tj_words.specs.LawParts.Contents.{contents_of, core_shown}
use Rattle.tj_words.specs.LawParts.Holding.{held_in}
use Rattle.tj_words.specs.Law.{Rule}
use Rattle.tj_words.specs.LawParts.LiveCount.{HasWakeToCome}
use Rattle.tj_words.specs.Steps.StepEvents.{MayAct}
use Rattle.tj_words.specs.SeatViews.TaskLists.{noted}
use Rattle.tj_words.specs.Calls.WaitViews.{now_does}
use Rattle.tj_words.specs.Steps.WalkSteps.{way_by}
use Rattle.tj_words.specs.Calls.WalkViews.{MayLoadWait}
use Rattle.tj_detect.specs.declared.blocking.Verdict.{Verdict}
use Rattle.tj_detect.specs.declared.blocking.Verdict.TheVariants.{Alarm, Walked, Skipped}

-- what was read last is an owner, or what an owner waits for
abbrev pub IsLoad : LastRead → Type 0
IsLoad Published = ⊥
IsLoad (SawOthers n) = ⊥
IsLoad Counted = ⊥
IsLoad (SawOwner o) = Unit {0}
IsLoad (SawWait u o) = Unit {0}
IsLoad Passed = Unit {0}
IsLoad Changed = Unit {0}

-- a walk of t from the first walker on, whatever its reads found: each of them is one that may come next there
pub data IsWalkFrom (t : ℕ) (way : Way) (first : Walker) : Walker → Type 0 where
  walk_first : IsWalkFrom t way first first
  walk_others : (w : Walker) (n : ℕ) → IsWalkFrom t way first w → MayReadOthers way w
      → IsWalkFrom t way first (others_read n w)
  walk_count : (w : Walker) (n : ℕ) → IsWalkFrom t way first w → MayCount way w
      → IsWalkFrom t way first (count_read n w)
  walk_owner : (w : Walker) (o : Option ℕ) → IsWalkFrom t way first w → MayReadOwner w
      → IsWalkFrom t way first (owner_read o w)
  walk_wait : (w : Walker) (u : ℕ) (o : Option ℕ) → IsWalkFrom t way first w → MayLoadWait t u w
      → IsWalkFrom t way first (wait_found u o w)
  walk_again : (w : Walker) (u v : ℕ) (o : Option ℕ) → IsWalkFrom t way first w → w.last ≡ SawWait u (Some v)
      → IsWalkFrom t way first (owner_found (is_owner o u) u v w)

-- a walk of t from the publish of its wait on
abbrev pub IsWalkOf : ℕ → Way → Walker → Type 0
IsWalkOf t way w = IsWalkFrom t way start_walk w

-- a walk that was needed: the way is other, or the walk has read OTHERS above 0 first, and has gone on from there
abbrev pub IsNeeded : ℕ → Way → Walker → Type 0
IsNeeded t way w = (way ≡ Other) ⊎ ((n : ℕ) × (0 < n) × IsWalkFrom t way (others_read n start_walk) w)

-- what t does after the call, with this walk
abbrev pub does_after : Verdict → ℕ → Way → Walker → Does
does_after Alarm q way w = does.Alarmed q way w
does_after Walked q way w = does.Walking q way w
does_after Skipped q way w = does.Walking q way w

-- how many tokens more the seat has
abbrev pub tokens_given : Verdict → ℕ
tokens_given Alarm = 1
tokens_given Walked = 0
tokens_given Skipped = 0

-- where the walk has ended: at t itself as an owner; by a load after which it may settle; or OTHERS was read as 0
abbrev pub EndsWith : Verdict → ℕ → Way → Walker → Type 0
EndsWith Alarm t way w = w.last ≡ SawOwner (Some t)
EndsWith Walked t way w = MaySettle w × IsLoad w.last
EndsWith Skipped t way w = (way ≡ Along) × (w.last ≡ SawOthers 0)

-- a walk that has ended without an alarm was needed
abbrev pub WasNeeded : Verdict → ℕ → Way → Walker → Type 0
WasNeeded Alarm t way w = Unit {0}
WasNeeded Walked t way w = IsNeeded t way w
WasNeeded Skipped t way w = Unit {0}

-- how many steps the call may make, with so many cells counted: two where the walk is skipped
abbrev pub IsStepCount : Verdict → ℕ → ℕ → Type 0
IsStepCount Alarm cells n = n ≤ 3 * cells + 3
IsStepCount Walked cells n = n ≤ 3 * cells + 3
IsStepCount Skipped cells n = n ≡ 2

module _ {B : Type 0} where
  -- t is a running task of the seat, which has its record and its result; the seat knows t and q, has room for a token,
  -- and has one already where it has a step of a chain to come; the way is that of a wait of t for q
  pub record MayBlock (t q : ℕ) (way : Way) (v : View B) : Type 0 where
    pub custody : Custody B
    pub held : held_in v.tasks t ≡ Some custody
    pub out : custody.home ≡ None
    pub runs : MayAct custody.does
    pub result : IsIn t custody.owned
    pub task_known : IsIn t v.known
    pub cell_known : IsIn q v.known
    pub its_way : way ≡ way_by v.born t q
    pub wakes : HasWakeToCome v → 0 < v.tokens
    pub room : v.tokens < v.lot

  -- the view after so many steps, with so many tokens more, where t does this from now on
  abbrev pub doing : ℕ → Does → ℕ → ℕ → View B → View B
  doing t d steps tokens v = record v {
    steps = steps + v.steps;
    tokens = tokens + v.tokens;
    tasks = noted t (now_does d) v.tasks;
  }

  -- what the call makes of the view of its seat, by its verdict, with the counts of steps before and after it: the walk
  -- of t is one of this call; it makes at most three loads for each cell counted
  pub record Blocks (verdict : Verdict) (t q : ℕ) (way : Way) (old new : ℕ) (v w : View B) : Type 0 where
    pub walker : Walker
    pub steps : ℕ
    pub walk : IsWalkOf t way walker
    pub ends : EndsWith verdict t way walker
    pub needed : WasNeeded verdict t way walker
    pub few_loads : walker.loads ≤ 3 * walker.bound
    pub few_steps : IsStepCount verdict walker.bound steps
    pub counted : new ≡ old + steps
    pub view : w ≡ doing t (does_after verdict q way walker) steps (tokens_given verdict) v

  -- t waits for q along the order, and its walker has read OTHERS as 0
  pub record HasReadNoOthers (t q : ℕ) (v : View B) : Type 0 where
    pub custody : Custody B
    pub walker : Walker
    pub held : held_in v.tasks t ≡ Some custody
    pub walks : custody.does ≡ does.Walking q Along walker
    pub last : walker.last ≡ SawOthers 0

  module _ (program : Bool → B → Program B) where
    -- the core state that a table under the law shows
    abbrev pub shown : (key : Key B) (s : State (Option (Rec B)) (View B)) → Rule program key s → CoreState
    shown key s r = core_shown key.cells r.law.born r.law.maker (contents_of s)

    -- in each table under the law in which a seat has this view, F holds of the core state shown
    abbrev pub InEachTable : View B → (CoreState → Type 0) → Type 0
    InEachTable v F = (key : Key B) (s : State (Option (Rec B)) (View B)) (r : Rule program key s) (id : ℕ)
        → get_elem? s.views id ≡ some v
        → F (shown key s r)

-- t is on a standing cycle
abbrev pub StandsOnCycle : ℕ → CoreState → Type 0
StandsOnCycle t s = IsOnCycle s.cells t

-- each standing cycle through t has another member that has alarmed or is on course
abbrev pub OthersWatch : ℕ → CoreState → Type 0
OthersWatch t s = (n : ℕ) → IsOnCycleOf s.cells t n
    → (k u : ℕ) × Reaches s.cells t k u × (u ≢ t) × Watches s.cells n (stage s.cells u)
