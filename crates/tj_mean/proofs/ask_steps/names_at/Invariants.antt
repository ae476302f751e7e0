use Rattle.std.proofs.Common.{◌≡◌, map}
use Rattle.std.proofs.Common.{take}
use Rattle.tj_body.specs.History as history
use Rattle.tj_mean.proofs.ask_steps.names_at.Given as goal

abbrev pub invariant-loop-place : goal.invariant-loop-place
invariant-loop-place g l =
    l.names.items ≡ map (λ k. (history.reference l.p k).name) (take l.place-index l.places)
