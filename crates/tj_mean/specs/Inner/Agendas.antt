-- Which tasks of an agenda are ahead, and which are noted under the cells that they wait for.
use Rattle.std.specs.Global.{Global}
use Rattle.std.specs.Prelude.{◌≡◌, ◌⊎◌, ℕ, ◌<◌, ◌≤◌, List, Vec, Some, length, get_or}
use Rattle.tj_base.specs.ForkOrder.{Name}
use Rattle.tj_body.specs.History.{Assignment}
use Rattle.tj_body.specs.Points.{HasStopped, IsIn}
use Rattle.tj_body.specs.declared.point.Point.{Point}
use Rattle.tj_body.specs.declared.point.PointStage.{PointStage}
use Rattle.tj_body.specs.declared.point.PointStage.TheVariants as stage
use Rattle.tj_mean.specs.Inner.NameMaps.{value_at}
use Rattle.tj_mean.specs.declared.agenda.Agenda.{Agenda}
use Rattle.tj_mean.specs.declared.name_map.NameMap.{NameMap}

-- the task with this index is still to be taken up: it was woken, or it has never been
abbrev pub IsAhead : Agenda → ℕ → Type 0
IsAhead a i = IsIn i a.woken.items ⊎ (a.fresh ≤ i)

-- the index is noted under the cell
abbrev pub IsNotedAt : NameMap (Vec ℕ Global) → Name → ℕ → Type 0
IsNotedAt m q i = (indexes : Vec ℕ Global) × (value_at m q ≡ Some indexes) × IsIn i indexes.items

-- the index of a task at this stage is noted under the cell that the task waits for, if it waits
abbrev pub IsNoted : NameMap (Vec ℕ Global) → ℕ → PointStage → Type 0
IsNoted m i (stage.Answered a) = Unit {0}
IsNoted m i (stage.Waits q spare) = IsNotedAt m q i
IsNoted m i (stage.Closed e) = Unit {0}

-- each task that isn't ahead has stopped, and is noted
pub record IsAgendaOf {B : Type 0} (V : Assignment) (a : Agenda) (qs : List (Point B)) : Type 0 where
  pub within : a.fresh ≤ length qs
  pub known : (i : ℕ) (d : Point B) → i < length qs
      → IsAhead a i ⊎ (HasStopped V (get_or qs i d) × IsNoted a.waiting i (get_or qs i d).stage)
