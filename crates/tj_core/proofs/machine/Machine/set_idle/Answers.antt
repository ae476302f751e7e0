use Rattle.std.proofs.Common.{[]}
use Rattle.tj_core.specs.Inner.SlotStages.{cell_stage}
use Rattle.tj_core.proofs.Columns.ColumnLists.{rooms_stay, state_changed}
use Rattle.tj_core.proofs.machine.Machine.set_idle.Goals as goal

pub invariant_of-self-clause-roomy : goal.invariant_of-self-clause-roomy
invariant_of-self-clause-roomy c =
    let m = c.args.self.now in
    rooms_stay m.slots.items c.args.t c.index_mut.result.now c.set_idle.new.self c.requires.there
    c.index_mut.ensures.value m.births.limit m.roomy c.set_idle.ensures.room

pub returns-clause-state : goal.returns-clause-state
returns-clause-state c =
    state_changed c.args.self.now c.args.t c.index_mut.result.now c.set_idle.new.self c.requires.there
    c.index_mut.ensures.value (λ _. cell_stage [] 0 0 c.args.stage) c.set_idle.ensures.stage
