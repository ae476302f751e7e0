-- That a moment has one holder of each task, and one chain of each cell: whatever else the law has beside the words,
-- the seats that hold tasks, the chains and the pushes to come are those that words and views tell.
use Rattle.std.specs.Prelude.{◌≡◌, ℕ}
use Rattle.tj_words.specs.Law.{Law}
use Rattle.tj_runs.specs.OneStates.{Moment}

module _ (B : Type 0) where
  -- two laws of the same contents have the same seat as the holder of a task, or both have none
  abbrev pub OneSeatHolds : Type 0
  OneSeatHolds = (m : Moment B) (r : Law m.program m.cells m.now) (t : ℕ)
      → r.custody.holder t ≡ m.law.custody.holder t

  -- the same line of a cell: its chain, or once its head is shut the rest of it
  abbrev pub OneLineStands : Type 0
  OneLineStands = (m : Moment B) (r : Law m.program m.cells m.now) (p : ℕ) → r.chains.line p ≡ m.law.chains.line p

  -- and the same seat that has the push of a task to come
  abbrev pub OneSeatPushes : Type 0
  OneSeatPushes = (m : Moment B) (r : Law m.program m.cells m.now) (t : ℕ)
      → r.chains.pusher t ≡ m.law.chains.pusher t
