-- Who holds a task, and what is so of it from a claim to the step by which it leaves.
use Rattle.std.specs.Prelude.{◌≡◌, ℕ, ◌+◌, Bool, true, false, cond, not, ◌&&◌, List, [], ◌∷◌, Some}
use mathlib.Core.Option.{some}
use lib.ListN.{get_elem?}
use Rattle.tj_body.specs.Programs.{Program}
use Rattle.tj_words.specs.declared.phase.Phase.{Phase}
use Rattle.tj_words.specs.declared.phase.Phase.TheVariants as phase
use Rattle.tj_words.specs.declared.phase.Walk.TheVariants as walk
use Rattle.tj_record.specs.declared.record.Rec.{Rec}
use Rattle.tj_words.specs.declared.table.Key.{Key}
use Rattle.tj_words.specs.declared.view.Custody.{Custody}
use Rattle.tj_words.specs.declared.view.View.{View}
use Rattle.tj_words.specs.CallLaws.CallRuns.{AreAskedMoments}
use Rattle.tj_words.specs.CallLaws.RestedRuns.{Ruled, last_moment}
use Rattle.tj_words.specs.LawParts.Contents.{home_of}
use Rattle.tj_words.specs.LawParts.Holding.{held_in}
use Rattle.tj_words.specs.LawParts.Lots.{all_lots}
use Rattle.tj_runs.specs.Moments.{Always, contents_at}
use Rattle.tj_runs.specs.TaskHolders.{Holds, HoldersAreOne, IsFree}

-- at every moment one seat at most holds a task
abbrev pub OneSeatHolds : Type 0 → Type 0
OneSeatHolds B = Always B (λ program key u. HoldersAreOne (contents_at program key u))

module _ {B : Type 0} (program : Bool → B → Program B) (key : Key B) (t : ℕ) where
  -- at each of these moments some seat holds t
  abbrev pub AreHeld : List (Ruled program key) → Type 0
  AreHeld [] = Unit {0}
  AreHeld (w ∷ ws) = ¬ IsFree (contents_at program key w) t × AreHeld ws

  -- at none of them a seat holds t
  abbrev pub AreFree : List (Ruled program key) → Type 0
  AreFree [] = Unit {0}
  AreFree (w ∷ ws) = IsFree (contents_at program key w) t × AreFree ws

-- while a task is held, the same seat holds it: so from a claim to the step by which it leaves
abbrev pub HeldThroughout : Type 0 → Type 0
HeldThroughout B = (program : Bool → B → Program B) (key : Key B) (t j : ℕ) (u : Ruled program key)
    (later : List (Ruled program key)) → AreAskedMoments program key u later
    → Holds (contents_at program key u) j t → AreHeld program key t later
    → Holds (contents_at program key (last_moment program key u later)) j t

-- while no seat holds a task, its record at home stays as it is
abbrev pub LaidThroughout : Type 0 → Type 0
LaidThroughout B = (program : Bool → B → Program B) (key : Key B) (t : ℕ) (r : Rec B) (u : Ruled program key)
    (later : List (Ruled program key)) → AreAskedMoments program key u later
    → IsFree (contents_at program key u) t → home_of (contents_at program key u) t ≡ Some r
    → AreFree program key t later
    → home_of (contents_at program key (last_moment program key u later)) t ≡ Some r

-- whether the phase is Ready
abbrev pub is_ready : Phase → Bool
is_ready phase.Unborn = false
is_ready phase.Ready = true
is_ready phase.Running = false
is_ready phase.Ended = false
is_ready phase.Promise = false
is_ready (phase.Waiting c way walk) = false

-- whether the phase is Running
abbrev pub is_running : Phase → Bool
is_running phase.Unborn = false
is_running phase.Ready = false
is_running phase.Running = true
is_running phase.Ended = false
is_running phase.Promise = false
is_running (phase.Waiting c way walk) = false

-- 1 where it is so
abbrev pub one_if : Bool → ℕ
one_if b = cond b 1 0

module _ {B : Type 0} (program : Bool → B → Program B) (key : Key B) (t : ℕ) where
  -- PHASE of t at a moment
  abbrev pub phase_then : Ruled program key → Phase
  phase_then u = (contents_at program key u).words.phase t

  -- how often PHASE of t changes from Ready to Running in these moments
  abbrev pub claims : Ruled program key → List (Ruled program key) → ℕ
  claims u [] = 0
  claims u (w ∷ ws) = one_if (is_ready (phase_then u) && is_running (phase_then w)) + claims w ws

  -- how often it changes to Ready
  abbrev pub readied : Ruled program key → List (Ruled program key) → ℕ
  readied u [] = 0
  readied u (w ∷ ws) = one_if (not (is_ready (phase_then u)) && is_ready (phase_then w)) + readied w ws

-- Between a claim of t and the next one PHASE of t changes to Ready exactly once: u is just after the one, and the last
-- moment just before the other.
abbrev pub ReadiedOncePerClaim : Type 0 → Type 0
ReadiedOncePerClaim B = (program : Bool → B → Program B) (key : Key B) (t : ℕ) (u : Ruled program key)
    (later : List (Ruled program key)) → AreAskedMoments program key u later
    → phase_then program key t u ≡ phase.Running
    → phase_then program key t (last_moment program key u later) ≡ phase.Ready
    → claims program key t u later ≡ 0
    → readied program key t u later ≡ 1

-- a task in this phase runs, or walks
abbrev pub IsUnderWay : Phase → Type 0
IsUnderWay phase.Unborn = ⊥
IsUnderWay phase.Ready = ⊥
IsUnderWay phase.Running = Unit {0}
IsUnderWay phase.Ended = ⊥
IsUnderWay phase.Promise = ⊥
IsUnderWay (phase.Waiting c way walk.Walking) = Unit {0}
IsUnderWay (phase.Waiting c way walk.Parked) = ⊥
IsUnderWay (phase.Waiting c way walk.Alarmed) = ⊥

-- At every moment a seat with all lots holds each task that runs or walks: so with one seat alone nobody else does.
abbrev pub LoneSeatsHold : Type 0 → Type 0
LoneSeatsHold B = Always B (λ program key u. (id t : ℕ) (v : View B) → get_elem? u.now.views id ≡ some v
    → v.lot ≡ all_lots → IsUnderWay ((contents_at program key u).words.phase t)
    → (k : Custody B) × (held_in v.tasks t ≡ Some k))
