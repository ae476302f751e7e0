use Rattle.std.proofs.Common.{◌≡◌, map, take}
use Rattle.tj_run.specs.Inner.Pieces.{held_at}
use Rattle.tj_run.proofs.pieces.held_at.Given as goal

abbrev pub invariant-loop-place : goal.invariant-loop-place
invariant-loop-place g l = l.found.items ≡ map (held_at l.rec.held) (take l.place-index l.places)
