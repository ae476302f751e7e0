use Rattle.std.proofs.Common.{◌≡◌, ◌++◌, map, take}
use Rattle.tj_trace.specs.Logs.{hand_here}
use Rattle.tj_trace.proofs.logged.hand_on.Given as goal

-- the places so far are handed
abbrev pub invariant-loop-place : goal.invariant-loop-place
invariant-loop-place l =
    l.hands.items ≡ l.initial.hands.items ++ map (hand_here l.thing) (take l.place-index l.places)
