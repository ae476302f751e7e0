use Rattle.std.proofs.Common.{◌≡◌, ℕ, ◌<◌, ◌≤◌, length}
use Rattle.tj_mean.specs.Inner.Agendas.{IsAhead}
use Rattle.tj_mean.proofs.agenda.Agenda.next_index.Given as goal

-- who is ahead still is
abbrev pub invariant-loop-at : goal.invariant-loop-at
invariant-loop-at l = ((i : ℕ) → i < l.count → IsAhead l.initial.self i → IsAhead l.self i)
    × (l.self.fresh ≡ l.initial.self.fresh) × (l.self.waiting ≡ l.initial.self.waiting)
    × (length l.self.woken.items ≤ length l.initial.self.woken.items)

abbrev pub decreases-loop-at : goal.decreases-loop-at
decreases-loop-at l = goal.left-loop-at l
