use Rattle.std.proofs.Common.{length}
use Rattle.tj_explain.proofs.line.+said_by.Given as goal

-- there are fewer words left
abbrev pub decreases-said_by : goal.decreases-said_by
decreases-said_by l = length l.words.now
