use Rattle.std.proofs.Common.{◌≡◌, drop}
use Rattle.tj_chan.specs.ChanBodies as bodies
use Rattle.tj_chan.proofs.spawn.without_ends.Given as goal

-- what is left without the other ends is what is wanted
abbrev pub invariant-loop-place : goal.invariant-loop-place
invariant-loop-place l = bodies.AreRows l.left
    × (bodies.without_ends l.fn.rows l.give ≡ bodies.without_ends l.left (drop l.place-index l.give))
