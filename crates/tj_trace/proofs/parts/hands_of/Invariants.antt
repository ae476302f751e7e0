use Rattle.std.proofs.Common.{◌≡◌, map, take}
use Rattle.tj_trace.specs.Traces.{hand_of}
use Rattle.tj_trace.proofs.parts.hands_of.Given as goal

-- the notes so far are told
abbrev pub invariant-loop-hand : goal.invariant-loop-hand
invariant-loop-hand l = l.notes.items ≡ map (hand_of l.name l.references) (take l.hand-index l.hands)
