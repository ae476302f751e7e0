use Rattle.std.proofs.Common.{◌≡◌, map, take}
use Rattle.tj_body.specs.History as history
use Rattle.tj_mean.proofs.ask_steps.references_at.Given as goal

abbrev pub invariant-loop-place : goal.invariant-loop-place
invariant-loop-place g l = l.found.items ≡ map (history.reference l.p) (take l.place-index l.places)
