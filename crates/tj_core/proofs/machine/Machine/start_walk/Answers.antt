use Rattle.tj_events.specs.CoreState.{waits, walks}
use Rattle.tj_events.specs.Events.{start_walk}
use Rattle.tj_core.proofs.Columns.ColumnLists.{rooms_stay, state_changed}
use Rattle.tj_core.proofs.machine.Machine.start_walk.Goals as goal

pub invariant_of-self-clause-roomy : goal.invariant_of-self-clause-roomy
invariant_of-self-clause-roomy c =
    let m = c.args.self.now in
    rooms_stay m.slots.items c.args.t c.index_mut.result.now c.publish.new.self c.requires
    c.index_mut.ensures.value m.births.limit m.roomy c.publish.ensures.room

pub returns-clause-state : goal.returns-clause-state
returns-clause-state c =
    state_changed c.args.self.now c.args.t c.index_mut.result.now c.publish.new.self c.requires
    c.index_mut.ensures.value (λ _. waits c.args.cell c.args.way (walks start_walk)) c.publish.ensures.stage
