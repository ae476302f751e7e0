-- New tables: the runs of which the laws speak begin.
use Rattle.std.specs.Prelude.{◌≡◌, ℕ, ◌<◌, ◌≤◌, false, List, pos}
use Rattle.tj_base.specs.declared.cell.TheConstants.{MAX_CELLS}
use Rattle.tj_body.specs.Asks.{Await, IsFresh}
use Rattle.tj_body.specs.Programs.{program_of}
use Rattle.tj_body.specs.Rounds.{IsFull}
use Rattle.tj_body.specs.declared.ask.Answer.{Answer}
use Rattle.tj_body.specs.declared.ask.Answer.TheVariants as answer
use Rattle.tj_body.specs.declared.ask.Ask.{Ask}
use Rattle.tj_body.specs.declared.ask.Ask.TheVariants as ask
use Rattle.tj_base.specs.declared.value.Pay.TheVariants as pay
use Rattle.tj_words.specs.declared.offsets.Once.TheVariants as once
use Rattle.tj_words.specs.declared.phase.Phase.TheVariants as phase
use Rattle.tj_words.specs.declared.table.Key.{Key}
use Rattle.tj_words.specs.CallLaws.CallRuns.{AreAskedMoments, IsAskedStep}
use Rattle.tj_words.specs.CallLaws.RestedRuns.{Ruled, last_moment}
use Rattle.tj_laws.specs.Holders.{claims, phase_then}
use Rattle.tj_runs.specs.Moments.{IsNew, contents_at}
use Rattle.tj_runs.specs.TaskHolders.{Holds}
use Rattle.tj_laws.specs.TableWaits.{HasAlarmed}

module _ {B : Type 0} (places : B → ℕ) (awaits : B → Await) (left : B → ℕ) (asks : B → Answer → Ask B)
    (then : B → Answer → B) where
  -- A new table of a root that has asked nothing yet is under its rule: LIVE is 1, and the root is ready. From there on
  -- a step may be made.
  abbrev pub NewTablesGoOn : Type 0
  NewTablesGoOn = (key : Key B) → 0 < key.cells → key.cells ≤ MAX_CELLS → IsFresh places awaits left 1 key.root.value
      → (u : Ruled (program_of places awaits left asks then) key)
      × (w : Ruled (program_of places awaits left asks then) key)
      × IsNew (program_of places awaits left asks then) key u
      × IsAskedStep (program_of places awaits left asks then) key u.now w.now
      × ((contents_at (program_of places awaits left asks then) key u).words.phase 0 ≡ phase.Ready)
      × ((contents_at (program_of places awaits left asks then) key u).words.live ≡ 1)

  -- And the first seat may claim the root there: PHASE of the root is Running then, and the seat holds it.
  abbrev pub RootsAreClaimed : Type 0
  RootsAreClaimed = (key : Key B) → 0 < key.cells → key.cells ≤ MAX_CELLS → IsFresh places awaits left 1 key.root.value
      → (u : Ruled (program_of places awaits left asks then) key)
      × (w : Ruled (program_of places awaits left asks then) key)
      × IsNew (program_of places awaits left asks then) key u
      × IsAskedStep (program_of places awaits left asks then) key u.now w.now
      × ((contents_at (program_of places awaits left asks then) key w).words.phase 0 ≡ phase.Running)
      × Holds (contents_at (program_of places awaits left asks then) key w) 0 0

  -- And from there on some run by calls comes to a moment at which the root has alarmed, by the words themselves.
  abbrev pub RootsAlarm : Type 0
  RootsAlarm = (key : Key B) → 0 < key.cells → key.cells ≤ MAX_CELLS → IsFresh places awaits left 1 key.root.value
      → (u : Ruled (program_of places awaits left asks then) key)
      × (later : List (Ruled (program_of places awaits left asks then) key))
      × IsNew (program_of places awaits left asks then) key u
      × AreAskedMoments (program_of places awaits left asks then) key u later
      × HasAlarmed (contents_at (program_of places awaits left asks then) key
      (last_moment (program_of places awaits left asks then) key u later)) 0

  -- And without the strict rule, where the root first asks to join itself, some run comes to a moment at which LIVE is
  -- 0 and the root has alarmed.
  abbrev pub JoinersRest : Type 0
  JoinersRest = (key : Key B) → 0 < key.cells → key.cells ≤ MAX_CELLS → IsFresh places awaits left 1 key.root.value
      → key.strict ≡ false → asks key.root.value answer.Start ≡ ask.Join 0
      → (u : Ruled (program_of places awaits left asks then) key)
      × (later : List (Ruled (program_of places awaits left asks then) key))
      × IsNew (program_of places awaits left asks then) key u
      × AreAskedMoments (program_of places awaits left asks then) key u later
      × ((contents_at (program_of places awaits left asks then) key
      (last_moment (program_of places awaits left asks then) key u later)).words.live ≡ 0)
      × HasAlarmed (contents_at (program_of places awaits left asks then) key
      (last_moment (program_of places awaits left asks then) key u later)) 0

  -- And where the root first asks to end with 0, some run comes to a moment at which TAG of the root is set: it says
  -- that the root's result is a number; and its meaning isn't full.
  abbrev pub EndersAreTagged : Type 0
  EndersAreTagged = (key : Key B) → 0 < key.cells → key.cells ≤ MAX_CELLS → IsFresh places awaits left 1 key.root.value
      → asks key.root.value answer.Start ≡ ask.End (pay.Num (pos 0))
      → (u : Ruled (program_of places awaits left asks then) key)
      × (later : List (Ruled (program_of places awaits left asks then) key))
      × IsNew (program_of places awaits left asks then) key u
      × AreAskedMoments (program_of places awaits left asks then) key u later
      × ((contents_at (program_of places awaits left asks then) key
      (last_moment (program_of places awaits left asks then) key u later)).words.once 0 once.Tag ≡ 1)
      × ¬ IsFull (program_of places awaits left asks then key.strict key.root.value) key.cells

  -- And where the root first asks for a promise, sets it to 0 and waits for it, and there are two cells, the root may be
  -- claimed, and some run from there on comes to a moment at which PHASE of the root is Ready again, with no claim
  -- between. By the next step it may be claimed again.
  abbrev pub WaitersAreClaimedAgain : Type 0
  WaitersAreClaimedAgain = (key : Key B) → 1 < key.cells → key.cells ≤ MAX_CELLS
      → IsFresh places awaits left 1 key.root.value
      → asks key.root.value answer.Start ≡ ask.New
      → asks (then key.root.value answer.Start) (answer.Local 1) ≡ ask.Set 1 (pay.Num (pos 0))
      → asks (then (then key.root.value answer.Start) (answer.Local 1)) answer.Done ≡ ask.Get 1
      → (u : Ruled (program_of places awaits left asks then) key)
      × (claimed : Ruled (program_of places awaits left asks then) key)
      × (later : List (Ruled (program_of places awaits left asks then) key))
      × (again : Ruled (program_of places awaits left asks then) key)
      × IsNew (program_of places awaits left asks then) key u
      × IsAskedStep (program_of places awaits left asks then) key u.now claimed.now
      × (phase_then (program_of places awaits left asks then) key 0 claimed ≡ phase.Running)
      × AreAskedMoments (program_of places awaits left asks then) key claimed later
      × (phase_then (program_of places awaits left asks then) key 0
      (last_moment (program_of places awaits left asks then) key claimed later) ≡ phase.Ready)
      × (claims (program_of places awaits left asks then) key 0 claimed later ≡ 0)
      × IsAskedStep (program_of places awaits left asks then) key
      (last_moment (program_of places awaits left asks then) key claimed later).now again.now
      × (phase_then (program_of places awaits left asks then) key 0 again ≡ phase.Running)
