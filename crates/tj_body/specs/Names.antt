-- Lists of names.
use Rattle.std.specs.Prelude.{Bool, nat_eq, cond, List, [], ◌∷◌}
use Rattle.std.specs.Cmp.Lexicographic.{pointwise, slice_cmp}
use Rattle.std.specs.Ordering.{is_le, nat_cmp}
use Rattle.std.specs.List.{list_any}
use Rattle.tj_base.specs.ForkOrder.{Name}

-- whether two names are equal
abbrev pub same : Name → Name → Bool
same x y = pointwise nat_eq x y

-- whether q is one of the names
abbrev pub has : Name → List Name → Bool
has q names = list_any (same q) names

-- the names without q, where it stands first
abbrev pub without : Name → List Name → List Name
without q [] = []
without q (x ∷ xs) = cond (same q x) xs (x ∷ without q xs)

-- whether x is y or comes before it in the name order
abbrev pub at_most : Name → Name → Bool
at_most x y = is_le (slice_cmp nat_cmp x y)

-- names that are in order, with q in its place among them
abbrev pub put_in : Name → List Name → List Name
put_in q [] = q ∷ []
put_in q (x ∷ xs) = cond (at_most q x) (q ∷ x ∷ xs) (x ∷ put_in q xs)

-- the names in name order
abbrev pub in_order : List Name → List Name
in_order [] = []
in_order (x ∷ xs) = put_in x (in_order xs)
