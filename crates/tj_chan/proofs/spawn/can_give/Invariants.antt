use Rattle.std.proofs.Common.{◌≡◌, drop}
use Rattle.tj_chan.specs.ChanBodies as bodies
use Rattle.tj_chan.proofs.spawn.can_give.Given as goal

-- the ends that are left can be given as all could
abbrev pub invariant-loop-place : goal.invariant-loop-place
invariant-loop-place l = bodies.AreRows l.left
    × (bodies.can_give l.rows l.give ≡ bodies.can_give l.left (drop l.place-index l.give))
