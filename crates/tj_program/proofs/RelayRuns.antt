-- What the run of a relay's body gives is what the relay's run gives.
use Rattle.tj_program.proofs.Prelude.{List, Option, Report, RestCell, Status, bodies_of, false, relay_rules}
use Rattle.tj_program.proofs.Prelude.{relay_start, root_body, subst, ℕ, ◌≡◌}
use Rattle.tj_chan.specs.Relays.{root_relay}
use Rattle.tj_chan.specs.declared.body.ChanBody.{ChanBody}
use Rattle.tj_chan.specs.declared.relay.Relay.{Relay}
use Rattle.tj_modes.specs.Runs.{started}
use Rattle.tj_program.specs.Inner.ClosedOutputs.{IsRunGiven}

-- what the run of a body gives which is the root's is what the relay's run gives
pub named : (size cells : ℕ) (root : ChanBody Relay) (status : Status) (text : List ℕ)
    (closed : Option (List RestCell)) → root ≡ root_body (root_relay size)
    → IsRunGiven Report (started (bodies_of relay_rules) false cells root) status text closed
    → IsRunGiven Report (relay_start size cells) status text closed
named size cells root status text closed e given =
    subst (λ z. IsRunGiven Report (started (bodies_of relay_rules) false cells z) status text closed) e given
