-- A task that goes on from a point, and what it hands on to others where it stops.
use Rattle.std.specs.Prelude.{◌≡◌, ◌⊎◌, ℕ, zero, suc, ◌<◌, List, [], length, get_or, Some}
use Rattle.tj_base.specs.ForkOrder.{Name}
use Rattle.tj_body.specs.History.{Assignment, after_step}
use Rattle.tj_body.specs.Points.{HasStopped, IsIn}
use Rattle.tj_body.specs.Programs.{Rules}
use Rattle.tj_body.specs.declared.point.Entry.{Entry}
use Rattle.tj_body.specs.declared.point.Point.{Point}

module _ {B : Type 0} (rules : Rules B) (V : Assignment) where
  -- the point after so many steps from this one
  abbrev pub steps_from : Point B → ℕ → Point B
  steps_from p zero = p
  steps_from p (suc k) = after_step rules V (steps_from p k)

  -- the task comes from the first point to the second
  abbrev pub Reaches : Point B → Point B → Type 0
  Reaches p r = (k : ℕ) × (r ≡ steps_from p k)

-- the index is that of a task that hasn't stopped
abbrev pub CanGoOn : {B : Type 0} → Assignment → List (Point B) → ℕ → Type 0
CanGoOn {B} V points at = (at < length points) × ((d : Point B) → ¬ HasStopped V (get_or points at d))

-- the point without what the task has forked and written
abbrev pub emptied : {B : Type 0} → Point B → Point B
emptied p = record p { children = []; writes = [] }

-- W is V with what was written: each cell that was written or had an entry has one, and no other has
pub record Enters (writes : List (Name × Entry)) (V W : Assignment) : Type 0 where
  pub written : (q : Name) (e : Entry) → IsIn (q, e) writes → (x : Entry) × (W q ≡ Some x)
  pub stays : (q : Name) (e : Entry) → V q ≡ Some e → (x : Entry) × (W q ≡ Some x)
  pub only : (q : Name) (e : Entry) → W q ≡ Some e → IsIn (q, e) writes ⊎ (V q ≡ Some e)
