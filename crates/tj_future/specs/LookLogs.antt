-- What one look at a cell leaves in the log of its seat: which words it loaded, in which order, and what it found.
use Rattle.std.specs.Prelude.{◌⊎◌, ℕ, ◌<◌, List, [], ◌∷◌, Option, Some, None}
use Rattle.tj_log.specs.declared.entry.Entry.{Entry}
use Rattle.tj_cells.specs.CallLogs.{Makes, Seat}
use Rattle.tj_cells.specs.SeenValues.{seen_in}
use Rattle.tj_cells.specs.ValueLogs.{LoadsEntry}
use Rattle.tj_cells.specs.declared.seen.Seen.{Seen}
use Rattle.tj_cells.specs.declared.seen.Seen.TheVariants as seen
use Rattle.tj_run.specs.Leaving.{stop_word}
use Rattle.tj_words.specs.CallLaws.StepCalls as call
use Rattle.tj_words.specs.CallLaws.StepLogs.{entry_of}
use Rattle.tj_words.specs.declared.offsets.Once.TheVariants as once
use Rattle.tj_future.specs.declared.watched.Watched.{Watched}
use Rattle.tj_future.specs.declared.watched.Watched.TheVariants as watched

-- the loads of TAG of p as 0, of STOP and of LIVE
abbrev pub tag_load : ℕ → Entry
tag_load p = entry_of (call.sees_once p once.Tag) 0 0 0

abbrev pub stop_load : ℕ → Entry
stop_load n = entry_of call.sees_stop 0 0 n

abbrev pub live_load : ℕ → Entry
live_load n = entry_of call.sees_live 0 0 n

-- TAG was loaded as 0, then STOP as 0, and then LIVE as n; the last load stands first
abbrev pub loads_to : ℕ → ℕ → List Entry
loads_to p n = live_load n ∷ stop_load 0 ∷ tag_load p ∷ []

module _ {B : Type 0} where
  -- TAG and BITS were loaded as they stand for this: at once, or after LIVE was loaded as 0
  abbrev pub MakesFind : ℕ → Seen → Seat B → Seat B → Type 0
  MakesFind p s old new = LoadsEntry p s old new ⊎ ((at_rest : Seat B) × Makes (loads_to p 0) old at_rest
      × LoadsEntry p s at_rest new)

  -- the steps of a look that was answered like this
  abbrev pub MakesLook : ℕ → Option Watched → Seat B → Seat B → Type 0
  MakesLook p None old new = (n : ℕ) × (0 < n) × Makes (loads_to p n) old new
  MakesLook p (Some (watched.Value f)) old new = MakesFind p (seen_in (Some f)) old new
  MakesLook p (Some watched.Broken) old new = MakesFind p seen.Broken old new
  MakesLook p (Some watched.Rested) old new = Makes (tag_load p ∷ loads_to p 0) old new
  MakesLook p (Some (watched.Stopped why)) old new = Makes (stop_load (stop_word why) ∷ tag_load p ∷ []) old new

  -- looks were made one after the other, each of which answered nothing, and then one that was answered like this; and
  -- no other step
  pub data MakesLooks (p : ℕ) (answer : Watched) : Seat B → Seat B → Type 0 where
    at_once : (old new : Seat B) → MakesLook p (Some answer) old new → MakesLooks p answer old new
    again : (old between new : Seat B) → MakesLook p None old between → MakesLooks p answer between new
        → MakesLooks p answer old new
