use Rattle.std.proofs.Common.{◌≡◌, ◌-◌, ◌++◌, List, vec_len}
use Rattle.std.specs.List.{flat_map}
use Rattle.tj_body.specs.Programs.{Rules}
use Rattle.tj_body.specs.History.{Assignment}
use Rattle.tj_body.specs.Rounds.{family}
use Rattle.tj_body.specs.declared.point.Task.{Task}
use Rattle.tj_mean.specs.Inner.KeptRounds.{still}
use Rattle.tj_mean.proofs.round.push_children.Given as goal

-- the children that were taken from the end come first
abbrev pub invariant-loop-task : goal.invariant-loop-task
invariant-loop-task g l =
    (taken : List (Task g.row.B.Denot)) × (l.fn.children.items ≡ l.children.items ++ taken)
    × ((rules : Rules g.row.B.Denot) (V : Assignment) → still rules V l.pending.items
    ≡ flat_map (family rules V (l.depth - 1)) taken
    ++ still rules V l.initial.pending.items)

abbrev pub decreases-loop-task : goal.decreases-loop-task
decreases-loop-task g l = vec_len l.children
