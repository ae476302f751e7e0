use Rattle.std.proofs.Common.{◌≡◌, ◌++◌}
use Rattle.tj_chan.specs.ChanBodies as bodies
use Rattle.tj_chan.proofs.rows.add_places.Given as goal

-- the places so far
abbrev pub invariant-loop-k : goal.invariant-loop-k
invariant-loop-k l = l.places.items ≡ l.fn.places.items ++ bodies.places_from l.fn.from l.k
