use Rattle.std.proofs.Common.{take}
use Rattle.tj_trace.specs.Inner.StatementCounts.{AreCounts}
use Rattle.tj_trace.proofs.most.counts_of.Given as goal

-- the makers so far are counted
abbrev pub invariant-loop-maker : goal.invariant-loop-maker
invariant-loop-maker l = AreCounts (take l.maker-index l.makers) l.counts
