use Rattle.std.proofs.Common.{take}
use Rattle.tj_trace.proofs.MostSeen.{IsAhead}
use Rattle.tj_trace.proofs.most.most_of.Given as goal

-- it is ahead of the makers so far
abbrev pub invariant-loop-maker : goal.invariant-loop-maker
invariant-loop-maker l = IsAhead l.makers (take l.maker-index l.makers) l.most
