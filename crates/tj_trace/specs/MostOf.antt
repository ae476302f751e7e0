-- Which statement made most of some cells.
use Rattle.std.specs.Prelude.{◌≡◌, ◌⊎◌, ℕ, ◌<◌, ◌≤◌, ◌&&◌, nat_eq, Bool, List, count_by}
use Rattle.tj_body.specs.Points.{IsIn}
use Rattle.tj_trace.specs.declared.line.Maker.{Maker}
use Rattle.tj_trace.specs.declared.most.Most.{Most}

-- they are one statement
abbrev pub same_statement : Maker → Maker → Bool
same_statement m k = nat_eq m.decl k.decl && nat_eq m.at k.at

-- how many of these a statement made
abbrev pub made_count : Maker → List Maker → ℕ
made_count m makers = count_by (same_statement m) makers

-- the first stands no later in the script than the second
abbrev pub IsNotAfter : Maker → Maker → Type 0
IsNotAfter m k = (m.decl < k.decl) ⊎ ((m.decl ≡ k.decl) × (m.at ≤ k.at))

-- no statement made more of these, and each that made as many stands no earlier
pub record IsMostOf (makers : List Maker) (most : Most) : Type 0 where
  pub among : IsIn most.maker makers
  pub count : most.count ≡ made_count most.maker makers
  pub none_more : (m : Maker) → IsIn m makers → made_count m makers ≤ most.count
  pub first : (m : Maker) → IsIn m makers → made_count m makers ≡ most.count → IsNotAfter most.maker m
