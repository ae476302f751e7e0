-- How the order in which a worker takes from its own deque shows in the deque and in what others see of it.
use Rattle.std.specs.Prelude.{ℕ, Bool, true, false}

-- the flavor of the deque, as the library of deques numbers them
abbrev pub flavor_of : Bool → ℕ
flavor_of false = 0
flavor_of true = 1

-- what another end learns of a deque from which it can take nothing: that it was empty, or, where its worker may be
-- taking the newest cell, that it had at most that one
abbrev pub left_there : {V : Type 0} → Bool → (V → Type 0) → (V → Type 0) → V → Type 0
left_there false empty few = empty
left_there true empty few = few
