-- The monitor as it works acts off: what holds of it, and what it is once an act was tried.
use Rattle.std.specs.Prelude.{◌≡◌, ℕ, Bool}
use Rattle.tj_mean.specs.ActLines.{AreActLines}
use Rattle.tj_known.specs.Inner.Learners.{IsTried, IsUnderWay}
use Rattle.tj_known.specs.declared.work.Monitor.{Monitor}

-- its lines are those of a meaning, and its learners are as far as their acts are worked off
pub record IsAtWork (m : Monitor) : Type 0 where
  pub lines : AreActLines m.lines.now
  pub under_way : IsUnderWay m.lines.now m.learners.items

-- the next act of the task with this index is tried, and the lines stay
pub record HasTried (i : ℕ) (old new : Monitor) (moved : Bool) : Type 0 where
  pub lines : new.lines.now ≡ old.lines.now
  pub act : IsTried old.lines.now i old.learners.items new.learners.items moved
