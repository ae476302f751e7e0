-- The way of a wait, and which task may publish one.
use Rattle.std.specs.Prelude.{◌≡◌, ℕ, Bool, true, false, ◌&&◌, List}
use Rattle.tj_base.specs.ForkOrder.{before}
use Rattle.tj_base.specs.declared.cell.Sort.{Sort}
use Rattle.tj_body.specs.declared.point.Reference.{Reference}
use Rattle.tj_events.specs.declared.walk.Way.{Way}
use Rattle.tj_events.specs.Events.{way_if}
use Rattle.tj_words.specs.declared.view.Does.{Does}
use Rattle.tj_words.specs.LawParts.ShownState.{reference_of}
use Rattle.tj_words.specs.Steps.StepEvents.{MayAct}
use Rattle.tj_base.specs.declared.cell.Sort.TheVariants as sort
use Rattle.tj_events.specs.declared.walk.Way.TheVariants as way
use Rattle.tj_words.specs.declared.view.Does.TheVariants as does

-- whether a cell of this sort is a task
abbrev pub is_task_sort : Sort → Bool
is_task_sort sort.Task = true
is_task_sort sort.Promise = false

-- the way of a wait of t for p, by what the cells are
abbrev pub way_by : List Reference → ℕ → ℕ → Way
way_by born t p =
    way_if
    (is_task_sort (reference_of born p).sort && before (reference_of born t).name (reference_of born p).name)

-- a task that does this may publish a wait of this way
abbrev pub MayWait : Way → Does → Type 0
MayWait way.Along d = MayAct d
MayWait way.Other d = d ≡ does.Raised
