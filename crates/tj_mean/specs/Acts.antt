-- The acts of a history: its forks, and those of its joins that are of a task, in order. And those of a meaning.
use Rattle.std.specs.Prelude.{ℕ, zero, suc, ◌*◌, List, [], ◌∷◌, ◌++◌, map, Result, Ok, Err, is_some}
use Rattle.std.specs.List.Sorted.{IsPermutation}
use Rattle.tj_base.specs.ForkOrder.{Name}
use Rattle.tj_base.specs.declared.cell.Sort.{Sort}
use Rattle.tj_base.specs.declared.cell.Sort.TheVariants as sort
use Rattle.tj_base.specs.declared.cause.Cause.{Cause}
use Rattle.tj_body.specs.Programs.{Rules, Program}
use Rattle.tj_body.specs.History.{Assignment, hand_all, next_name, reference, point_after}
use Rattle.tj_body.specs.Rounds.{given, tasks, last_round}
use Rattle.tj_body.specs.declared.ask.Ask.{Ask}
use Rattle.tj_body.specs.declared.ask.Ask.TheVariants as ask
use Rattle.tj_body.specs.declared.point.PointStage.{PointStage}
use Rattle.tj_body.specs.declared.point.PointStage.TheVariants as stage
use Rattle.tj_body.specs.declared.point.Point.{Point}
use Rattle.tj_body.specs.declared.point.Task.{Task}
use Rattle.tj_mean.specs.Outcomes.{Ascend}
use Rattle.tj_mean.specs.ActLines.{names_of}
use Rattle.tj_mean.specs.declared.act.Act.{Act}
use Rattle.tj_mean.specs.declared.act.Act.TheVariants as act
use Rattle.tj_mean.specs.declared.act.ActLine.{ActLine}

-- a fork makes the child where the handing is allowed, and else it is no act
abbrev pub fork_acts : Name → Result (List Name) Cause → List Act
fork_acts c (Ok left) = act.Fork c ∷ []
fork_acts c (Err why) = []

-- a join of a task is answered where its result has an entry, Broken or a value; one of a promise is no act
abbrev pub join_acts : Assignment → Sort → Name → List Act
join_acts V sort.Task u = act.Join u (is_some (V u)) ∷ []
join_acts V sort.Promise u = []

module _ {B : Type 0} where
  -- the act that an ask of a task is at this point, if it is one
  abbrev pub ask_acts : Assignment → Ask B → Point B → List Act
  ask_acts V ask.New p = []
  ask_acts V (ask.Fork b pass hand) p = fork_acts (next_name p) (hand_all p.holds (map (reference p) hand))
  ask_acts V (ask.Set k v) p = []
  ask_acts V (ask.Get k) p = []
  ask_acts V (ask.Join k) p = join_acts V (reference p k).sort (reference p k).name
  ask_acts V (ask.GetOr k) p = []
  ask_acts V (ask.JoinOr k) p = join_acts V (reference p k).sort (reference p k).name
  ask_acts V (ask.Emit i) p = []
  ask_acts V (ask.End v) p = []
  ask_acts V (ask.Fail t) p = []

  module _ (rules : Rules B) where
    -- the act that the step from this stage is
    abbrev pub stage_acts : Assignment → PointStage → Point B → List Act
    stage_acts V (stage.Answered a) p = ask_acts V (rules.asks p.body a) p
    stage_acts V (stage.Waits q spare) p = []
    stage_acts V (stage.Closed e) p = []

    -- the act that the step from this point is
    abbrev pub step_acts : Assignment → Point B → List Act
    step_acts V p = stage_acts V p.stage p

    -- the acts of a task's first k steps
    abbrev pub acts_within : Assignment → ℕ → Task B → List Act
    acts_within V zero t = []
    acts_within V (suc k) t = acts_within V k t ++ step_acts V (point_after rules V k t)

    -- the acts of its history
    abbrev pub acts_by : Assignment → Task B → List Act
    acts_by V t = acts_within V (2 * suc (rules.left t.body)) t

    -- the task with them
    abbrev pub line_of : Assignment → Task B → ActLine
    line_of V t = record { name = t.name; acts = acts_by V t }

  -- the tasks of a meaning with their acts
  abbrev pub meant_lines : Program B → ℕ → List ActLine
  meant_lines program N = map (line_of program.rules (given program (last_round N))) (tasks program (last_round N))

  -- these are the tasks of a meaning with their acts, in name order
  pub record AreActsOf (program : Program B) (N : ℕ) (lines : List ActLine) : Type 0 where
    pub same_lines : IsPermutation (meant_lines program N) lines
    pub in_name_order : Ascend (names_of lines)
