use Rattle.std.proofs.Common.{length}
use Rattle.tj_words.specs.LawParts.ShownState.{reference_of}
use Rattle.tj_told.proofs.Climbing.{Climbs}
use Rattle.tj_told.proofs.names.name_beside.Given as goal

-- the seat knows what it knew, and has come up to this cell, whose name begins that of the first one
abbrev pub invariant-loop-at : goal.invariant-loop-at
invariant-loop-at g l = Climbs l.laid.cells l.fn.seat l.seat l.fn.c.0 l.at l.parts.items

-- each maker's name is shorter
abbrev pub decreases-loop-at : goal.decreases-loop-at
decreases-loop-at g l = length (reference_of l.seat.me.0.born l.at).name
