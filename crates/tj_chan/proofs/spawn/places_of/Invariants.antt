use Rattle.std.proofs.Common.{◌≡◌, ◌++◌, ℕ, List, drop}
use Rattle.std.specs.List.{flat_map}
use Rattle.tj_chan.specs.ChanBodies as bodies
use Rattle.tj_chan.proofs.spawn.places_of.Given as goal

-- the places so far, and those of what is left
abbrev pub invariant-loop-place : goal.invariant-loop-place
invariant-loop-place l = let places : ℕ → List ℕ = λ k. bodies.places_in (bodies.row_at l.rows k) l.meant in
    flat_map places l.channels ≡ l.places.items ++ flat_map places (drop l.place-index l.channels)
