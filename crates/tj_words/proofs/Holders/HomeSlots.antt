-- Which records lie at home after one slot has changed.
use Rattle.tj_words.proofs.Prelude.{None, Rec, Slots, Some, ap, home_in, length, none, record_in, set, set_else}
use Rattle.tj_words.proofs.Prelude.{set_here, some, ℕ, ◌<◌, ◌≡◌, ◌≢◌}

module _ {B : Type 0} (slots : Slots B) (t : ℕ) where
  -- a record has come home
  pub home_laid : (r : Rec B) → t < length slots → home_in (set slots t (some (Some r))) t ≡ Some r
  home_laid r inside = ap record_in (set_here slots t (some (Some r)) inside)

  -- the slot is out with a seat
  pub home_out : t < length slots → home_in (set slots t none) t ≡ None
  home_out inside = ap record_in (set_here slots t none inside)

  -- another slot is as it was, laid or out
  pub home_else_laid : (r : Rec B) (u : ℕ) → u ≢ t → home_in (set slots t (some (Some r))) u ≡ home_in slots u
  home_else_laid r u n = ap record_in (set_else slots t u (some (Some r)) n)

  pub home_else_out : (u : ℕ) → u ≢ t → home_in (set slots t none) u ≡ home_in slots u
  home_else_out u n = ap record_in (set_else slots t u none n)
