use Rattle.std.proofs.Common.{◌+◌, ◌*◌, length}
use Rattle.tj_run.proofs.crew.+workers.Given as goal

abbrev pub decreases-others : goal.decreases-others
decreases-others g l = 2 * length l.ends.items + 1

abbrev pub decreases-work_more : goal.decreases-work_more
decreases-work_more g l = 2 * length l.ends.items
