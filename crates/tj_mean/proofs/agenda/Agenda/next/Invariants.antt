use Rattle.std.proofs.Common.{◌-◌, length, vec_len}
use Rattle.tj_mean.proofs.agenda.Agenda.next.Given as goal

abbrev pub decreases-loop-at : goal.decreases-loop-at
decreases-loop-at g l = vec_len l.self.woken

abbrev pub decreases-loop-self : goal.decreases-loop-self
decreases-loop-self g l = length l.points - l.self.fresh
