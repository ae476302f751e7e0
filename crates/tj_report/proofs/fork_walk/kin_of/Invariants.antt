use Rattle.std.proofs.Common.{◌≡◌, ◌≤◌, length}
use Rattle.tj_report.proofs.fork_walk.kin_of.Given as goal

abbrev pub invariant-loop-c : goal.invariant-loop-c
invariant-loop-c g l = (length l.kin.items ≡ length l.rest.cells) × (l.c ≤ length l.rest.cells)

abbrev pub decreases-loop-c : goal.decreases-loop-c
decreases-loop-c g l = l.c
