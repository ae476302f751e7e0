-- A twin stands where the task stands.
use Rattle.std.proofs.Common.{◌∙◌, refl}
use Rattle.tj_eval.specs.declared.placed.Standing.{Standing}
use Rattle.tj_eval.proofs.Ready.{twin_ready, twin_shown}
use Rattle.tj_eval.proofs.placed.PlacedBodyBody.twin.Goals as goal

pub invariant_of-result : goal.invariant_of-result
invariant_of-result c = twin_ready c.self.inside.inner _ c.self.invariant refl c.in_ok-twin.ensures
    c.in_ok-twin-2.ensures

pub returns : goal.returns
returns c = let b = c.self.inside.inner in
    let new : Standing = record { home = b.home; body = c.in_ok-twin.field-0; numbers = c.in_ok-twin-2.field-0 } in
    twin_shown b new c.self.invariant refl c.in_ok-twin.ensures c.in_ok-twin-2.ensures ∙ c.self.view_is
