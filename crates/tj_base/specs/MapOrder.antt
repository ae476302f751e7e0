-- The order in which a map has names for keys.
use Rattle.std.specs.Prelude.{ℕ, List, ◌∷◌, length, reverse}
use Rattle.std.specs.Cmp.Lexicographic.{slice_cmp}
use Rattle.std.specs.Ordering.{nat_cmp, on}
use Rattle.std.specs.declared.cmp.Ordering.{Ordering}
use Rattle.tj_base.specs.ForkOrder.{Name}

-- what decides between two names: their lengths, and then their numbers from the last one on
abbrev pub key : Name → List ℕ
key q = length q ∷ reverse q

-- a shorter name first, and of two of one length that with the lower number behind all that they end with alike
abbrev pub map_order : Name → Name → Ordering
map_order = on key (slice_cmp nat_cmp)
