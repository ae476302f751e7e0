-- What a watch of the root was told, beside the lines of the outcome of the same run.
use Rattle.std.specs.Prelude.{◌≡◌, List, codes}
use Rattle.tj_base.specs.declared.value.Shown.TheVariants as shown
use Rattle.tj_future.specs.declared.watched.Watched.{Watched}
use Rattle.tj_future.specs.declared.watched.Watched.TheVariants as watched
use Rattle.tj_mean.specs.declared.outcome.Ending.TheVariants as ending
use Rattle.tj_mean.specs.declared.outcome.TaskLine.{TaskLine}
use Rattle.tj_record.specs.declared.record.Fill.{Fill}
use Rattle.tj_record.specs.declared.record.Fill.TheVariants as fill
use Rattle.tj_modes.specs.RootLines.{ending_line, root_line}

-- the root's line has the number with which it ended; the name of a reference stands in that line alone
abbrev pub ValueTells : Fill → List TaskLine → Type 0
ValueTells (fill.Num i) lines = root_line lines ≡ ending_line (ending.Done (shown.Num i))
ValueTells (fill.Promise c) lines = Unit {0}
ValueTells (fill.Task c) lines = Unit {0}

-- the root's line has what the watch was told
abbrev pub WatchTells : Watched → List TaskLine → Type 0
WatchTells (watched.Value f) lines = ValueTells f lines
WatchTells watched.Broken lines = root_line lines ≡ codes "root broken\n"
WatchTells watched.Rested lines = root_line lines ≡ codes "root waits\n"
WatchTells (watched.Stopped why) lines = ⊥
