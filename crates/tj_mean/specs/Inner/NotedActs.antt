-- An act as the code notes it: a join before the ask is taken, and a fork by the child that is there after it.
use Rattle.std.specs.Prelude.{ℕ, List, [], ◌∷◌, Option, Some, None, slice_get, is_some}
use Rattle.tj_base.specs.ForkOrder.{Name}
use Rattle.tj_base.specs.declared.cell.Sort.{Sort}
use Rattle.tj_base.specs.declared.cell.Sort.TheVariants as sort
use Rattle.tj_body.specs.History.{Assignment, reference}
use Rattle.tj_body.specs.declared.ask.Ask.{Ask}
use Rattle.tj_body.specs.declared.ask.Ask.TheVariants as ask
use Rattle.tj_body.specs.declared.point.Point.{Point}
use Rattle.tj_body.specs.declared.point.Task.{Task}
use Rattle.tj_mean.specs.declared.act.Act.{Act}
use Rattle.tj_mean.specs.declared.act.Act.TheVariants as act

-- the name of a task, and none of a promise
abbrev pub if_task : Sort → Name → Option Name
if_task sort.Task x = Some x
if_task sort.Promise x = None

-- the join of this task, if there is one
abbrev pub join_noted : Assignment → Option Name → List Act
join_noted V None = []
join_noted V (Some u) = act.Join u (is_some (V u)) ∷ []

module _ {B : Type 0} where
  -- the task that the ask joins, if it is a join of one
  abbrev pub joined_by : Point B → Ask B → Option Name
  joined_by p ask.New = None
  joined_by p (ask.Fork b pass hand) = None
  joined_by p (ask.Set k v) = None
  joined_by p (ask.Get k) = None
  joined_by p (ask.Join k) = if_task (reference p k).sort (reference p k).name
  joined_by p (ask.GetOr k) = None
  joined_by p (ask.JoinOr k) = if_task (reference p k).sort (reference p k).name
  joined_by p (ask.Emit i) = None
  joined_by p (ask.End v) = None
  joined_by p (ask.Fail t) = None

  -- the fork of this child, if there is one
  abbrev pub fork_noted : Option (Task B) → List Act
  fork_noted None = []
  fork_noted (Some c) = act.Fork c.name ∷ []

  -- the fork of the child with this index
  abbrev pub forked_since : ℕ → Point B → List Act
  forked_since i p = fork_noted (slice_get p.children i)
