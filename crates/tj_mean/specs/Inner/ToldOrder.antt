-- What is told of histories, in any order.
use Rattle.std.specs.Prelude.{◌≡◌, ℕ, ◌*◌, List, map}
use Rattle.std.specs.List.Sorted.{IsPermutation}
use Rattle.tj_body.specs.declared.point.Point.{Point}
use Rattle.tj_body.specs.History.{Assignment}
use Rattle.tj_body.specs.Programs.{Program}
use Rattle.tj_body.specs.Rounds.{given, last_round}
use Rattle.tj_mean.specs.Outcomes.{AreTold, body_of}
use Rattle.tj_mean.specs.declared.stopped.Stopped.{Stopped}

-- this is told of the histories, which stand in some order
abbrev pub AreToldInSomeOrder : {B : Type 0} → List (Point B) → List Stopped → Type 0
AreToldInSomeOrder {B} ps ss = (qs : List (Point B)) × IsPermutation ps qs × AreTold qs ss

-- the same is told of the points, with their bodies, as of the histories, which stand in some order
abbrev pub AreRestOf : {B : Type 0} → List (Point B) → List (Point B) → Type 0
AreRestOf {B} ps rest = (qs : List (Point B)) × IsPermutation ps qs × (map body_of qs ≡ map body_of rest)

-- the entries are those of the meaning with limit N, and of the round before its last
pub record AreEntriesOf {B : Type 0} (program : Program B) (N : ℕ) (V : Assignment) : Type 0 where
  pub kept : V ≡ given program (2 * N)
  pub assigned : given program (2 * N) ≡ given program (last_round N)
