-- The calls of a port in memory: their numbers, and those that are listed to fail.
use Rattle.std.specs.Prelude.{ℕ, ◌≡◌, ◌+◌, ◌^◌, ◌-◌, [], min, Contains, Vec}
use Rattle.std.specs.declared.alloc.Global.{Global}
use Rattle.tj_ports.specs.declared.calls.Calls.{Calls}

-- the number of the call after so many, which stands still at the greatest u32
abbrev pub number_of_next : ℕ → ℕ
number_of_next made = min (made + 1) (2 ^ 32 - 1)

-- the next call is one of those that fail
abbrev pub IsNextListed : Calls → Type 0
IsNextListed calls = Contains calls.failing.items (number_of_next calls.made)

-- no call fails
abbrev pub ListsNone : Calls → Type 0
ListsNone calls = calls.failing.items ≡ []

-- no call yet, and these will fail
abbrev pub fresh_calls : Vec ℕ Global → Calls
fresh_calls failing = record { made = 0; failing = failing; faults = 0 }
