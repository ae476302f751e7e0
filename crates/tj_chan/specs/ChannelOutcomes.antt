-- The outcome of channels as lists: items are the cells that are waited for and owed, and an item that isn't sent is
-- owned by the holder of its channel's end.
use Rattle.std.specs.Prelude.{◌≡◌, List, [], map, Option, Some, None}
use Rattle.std.specs.Option.{option_map}
use Rattle.tj_base.specs.ForkOrder.{Name}
use Rattle.tj_base.specs.declared.value.Shown.TheVariants as shown
use Rattle.tj_body.specs.Names.{in_order}
use Rattle.tj_mean.specs.Outcomes.{IsOutcomeOf}
use Rattle.tj_mean.specs.declared.outcome.Ending.{Ending}
use Rattle.tj_mean.specs.declared.outcome.Ending.TheVariants as ending
use Rattle.tj_mean.specs.declared.outcome.Outcome.{Outcome}
use Rattle.tj_mean.specs.declared.stopped.Stopped.{Stopped}
use Rattle.tj_chan.specs.Channels.{SendingEnd, all_unsent, item}
use Rattle.tj_chan.specs.Channels.{ChatStage, answered, receives, ended, failed, ChatPoint}

-- what became of a task whose history stops in this stage, and nothing where it goes on
abbrev pub chat_ending : ChatStage → Option Ending
chat_ending (answered a) = None
chat_ending (receives c i) = Some (ending.Waits (item c i))
chat_ending (ended v) = Some (ending.Done (shown.Num v))
chat_ending (failed f) = Some (ending.Failed f)

-- the unsent items of the ends that the task had when it ended, which it owes
abbrev pub owed_in : ChatStage → List SendingEnd → List Name
owed_in (answered a) es = []
owed_in (receives c i) es = []
owed_in (ended v) es = in_order (all_unsent es)
owed_in (failed f) es = in_order (all_unsent es)

-- the unsent items of the ends that a task holds which hasn't ended
abbrev pub held_in : ChatStage → List SendingEnd → List Name
held_in (answered a) es = all_unsent es
held_in (receives c i) es = all_unsent es
held_in (ended v) es = []
held_in (failed f) es = []

-- what is told of a task with this history, and nothing where it goes on
abbrev pub chat_told : {C : Type 0} → ChatPoint C → Option Stopped
chat_told p = option_map
    (λ e. record {
      line = record { name = p.name; prints = p.prints; ending = e; owes = owed_in p.stage p.ends };
      holds = held_in p.stage p.ends;
    })
    (chat_ending p.stage)

-- the outcome of tasks with these histories, which have stopped
abbrev pub IsChatOutcome : {C : Type 0} → List (ChatPoint C) → Outcome → Type 0
IsChatOutcome ps o = (ss : List Stopped) × (map chat_told ps ≡ map Some ss) × IsOutcomeOf ss o
