use Rattle.std.proofs.Common.{◌≡◌, ◌≤◌, ◌+◌, ◌*◌, ◌++◌, drop, length, []}
use Rattle.tj_chan.specs.Chats.{most_items}
use Rattle.tj_chan.specs.ChanBodies as bodies
use Rattle.tj_chan.proofs.spawn.child_rows.Given as goal

-- the rows so far, and those of what is left
abbrev pub invariant-loop-place : goal.invariant-loop-place
invariant-loop-place l = (bodies.passed_rows l.rows l.give [] 1 l.pass
    ≡ l.made.items ++ bodies.passed_rows l.rows l.give l.firsts.items l.base (drop l.place-index l.pass))
    × (length l.firsts.items ≡ l.place-index)
    × (l.base ≤ 1 + most_items * l.place-index)
