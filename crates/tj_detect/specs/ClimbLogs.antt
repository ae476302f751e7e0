-- What a walk up the tree of forks leaves in the log of its seat.
use Rattle.std.specs.Prelude.{◌≡◌, ℕ, ◌+◌, ◌*◌, List, length}
use Rattle.tj_log.specs.declared.entry.Entry.{Entry}
use Rattle.tj_words.specs.CallLaws.StepCalls as call
use Rattle.tj_words.specs.CallLaws.StepLogs.{entry_of}
use Rattle.tj_words.specs.Words.Lists.{All}
use Rattle.tj_words.specs.declared.offsets.Once.{Once}
use Rattle.tj_detect.specs.BlockLogs.{Makes, Seat}

-- a load of a word that is written once
abbrev pub IsOnceLoad : Entry → Type 0
IsOnceLoad e = (c n : ℕ) × (f : Once) × (e ≡ entry_of (call.sees_once c f) 0 0 n)

-- as the count of a walk went from m to n, the seat made loads of words that are written once, four for each, and no
-- other step
pub record LogsClimb {B : Type 0} (m n : ℕ) (old new : Seat B) : Type 0 where
  pub loads : List Entry
  pub count : 4 * m + length loads ≡ 4 * n
  pub each : All IsOnceLoad loads
  pub makes : Makes loads old new
