-- How often each statement stands among what made cells, kept in a map.
use Rattle.std.specs.Prelude.{◌≡◌, ℕ, List}
use Rattle.std.specs.BTreeMap.{BTreeMap, get}
use Rattle.std.specs.Option.{unwrap_or}
use Rattle.std.specs.Ordering.{nat_cmp, ordering_then}
use Rattle.std.specs.declared.cmp.Ordering.{Ordering}
use Rattle.tj_trace.specs.MostOf.{made_count}
use Rattle.tj_trace.specs.declared.line.Maker.{Maker}

-- the order of statements: by declaration, and then by number
abbrev pub statement_cmp : ℕ × ℕ → ℕ × ℕ → Ordering
statement_cmp s t = ordering_then (nat_cmp s.0 t.0) (nat_cmp s.1 t.1)

-- what the map has for the statement, and 0 where it has nothing
abbrev pub count_in : BTreeMap (ℕ × ℕ) ℕ → Maker → ℕ
count_in counts m = unwrap_or (get statement_cmp counts (m.decl, m.at)) 0

-- for each statement the map has how many of these it made
abbrev pub AreCounts : List Maker → BTreeMap (ℕ × ℕ) ℕ → Type 0
AreCounts makers counts = (m : Maker) → count_in counts m ≡ made_count m makers
