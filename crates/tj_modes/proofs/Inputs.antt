-- Which commands take no input.
use Rattle.tj_modes.proofs.Prelude.{Command, Gen, Relay, ap, inl, inr, takes_input, ℕ, ◌≡◌, ◌⊎◌}
use Rattle.std.proofs.Common.{false}

-- `gen` and `relay` take no input
pub takes_none : (command : Command)
    → ((size : ℕ) × (workers : ℕ) × (cells : ℕ) × (steps : ℕ) × (command ≡ Gen size workers cells steps))
    ⊎ ((size : ℕ) × (workers : ℕ) × (cells : ℕ) × (command ≡ Relay size workers cells)) → takes_input command ≡ false
takes_none command (inl is) = ap takes_input is.4
takes_none command (inr is) = ap takes_input is.3
