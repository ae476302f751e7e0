use Rattle.std.proofs.Common.{◌≡◌, ◌++◌, take, drop}
use Rattle.tj_body.specs.Names.{has, without}
use Rattle.tj_mean.proofs.held_names.index_of.Given as goal

-- the name stands only among the names that are left
abbrev pub invariant-loop-i : goal.invariant-loop-i
invariant-loop-i l =
    (without l.q l.names ≡ take l.i l.names ++ without l.q (drop l.i l.names))
    × (has l.q l.names ≡ has l.q (drop l.i l.names))
