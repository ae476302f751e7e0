-- Points that are kept without what was handed on.
use Rattle.std.specs.Prelude.{◌≡◌, List, [], ◌∷◌}
use Rattle.tj_base.specs.ForkOrder.{Name}
use Rattle.tj_body.specs.declared.point.Entry.{Entry}
use Rattle.tj_body.specs.declared.point.Task.{Task}
use Rattle.tj_body.specs.declared.point.Point.{Point}

module _ {B : Type 0} where
  -- q is the point p without what was handed on
  pub record IsKept (q p : Point B) : Type 0 where
    pub handed_children : List (Task B)
    pub handed_writes : List (Name × Entry)
    pub stands_for : p ≡ record q { children = handed_children; writes = handed_writes }
    pub no_children : q.children ≡ []
    pub no_writes : q.writes ≡ []

  -- each of the first points is one of the second so
  abbrev pub AreKept : List (Point B) → List (Point B) → Type 0
  AreKept [] [] = Unit {0}
  AreKept [] (p ∷ ps) = ⊥
  AreKept (q ∷ qs) [] = ⊥
  AreKept (q ∷ qs) (p ∷ ps) = IsKept q p × AreKept qs ps
