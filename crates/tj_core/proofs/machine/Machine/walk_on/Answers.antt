use Rattle.std.proofs.Common.{rules, ◌≡◌, set, List, Result, Ok, Err, OnErr, refl, ap, ◌∙◌, arith}
use Rattle.tj_core.specs.declared.slot.Slot.{Slot}
use Rattle.tj_events.specs.Events.{WalksAt}
use Rattle.tj_core.specs.Inner.Columns.{state_in, loads_in}
use Rattle.tj_core.specs.Inner.Machine.{state_of, limit_of}
use Rattle.tj_core.specs.Inner.WalkSteps.{event_of, MayStep, stage_by}
use Rattle.tj_core.proofs.Columns.ColumnLists.{rooms_stay, room_here, shows, state_changed, refused, set_same, none_walks}
use Rattle.tj_core.proofs.Columns.StepEvents.{may_step, step_allowed, after_step, step_has_room, step_loads}
use Rattle.tj_core.proofs.machine.Machine.walk_on.Goals as goal

pub step-requires : goal.step-requires
step-requires c =
    let m = c.args.self.now in let x = c.index_mut.result.now in let t = c.args.t.0 in
    let few = m.births.fits in let same = m.births.same in
    step_has_room (limit_of m) (state_of m) c.args.t c.args.step m.births.limit _ (omega arith) (omega arith)
    m.births.small
    (room_here m.slots.items t x x (search rules) c.index_mut.ensures.value m.births.limit m.roomy) c.requires

pub invariant_of-self-clause-roomy : goal.invariant_of-self-clause-roomy
invariant_of-self-clause-roomy c =
    let m = c.args.self.now in
    rooms_stay m.slots.items c.args.t.0 c.index_mut.result.now c.step.new.self (search rules)
    c.index_mut.ensures.value m.births.limit m.roomy c.step.ensures.room

-- what holds, holds if there is an error
if_so : {T E P : Type 0} (r : Result T E) → P → OnErr r P
if_so (Ok u) p = tt
if_so (Err e) p = p

pub returns-in_err-step-clause-err : goal.returns-in_err-step-clause-err
returns-in_err-step-clause-err c =
    let m = c.args.self.now in let x = c.index_mut.result.now in let y = c.step.new.self in let t = c.args.t.0 in
    let same : set m.slots.items t y ≡ m.slots.items = set_same m.slots.items t x y c.index_mut.ensures.value
    c.in_err-step.ensures.err in
    if_so c.from_residual.result (record {
      illegal = λ a. shows m.slots.items t x x (search rules) c.index_mut.ensures.value
          (λ st. ¬ WalksAt st (λ k. MayStep t c.args.step)) c.in_err-step.ensures.illegal
          (may_step (limit_of m) (state_of m) c.args.t c.args.step a);
      state = ap (λ (l : List Slot). state_in m.births.births.items m.births.made.items m.owners.owners.items l m.others
          m.cleared) same;
      loads = λ i. ap (λ (l : List Slot). loads_in l i) same;
      limit = refl;
    })

pub returns-then-t-len-clause-err : goal.returns-then-t-len-clause-err
returns-then-t-len-clause-err c =
    let m = c.args.self.now in
    refused m (event_of c.args.t c.args.step)
    (λ a. none_walks m.slots.items c.args.t.0 (λ k. MayStep c.args.t.0 c.args.step) (search rules)
    (may_step (limit_of m) (state_of m) c.args.t c.args.step a))

pub returns-clause-ok : goal.returns-clause-ok
returns-clause-ok c =
    let m = c.args.self.now in let x = c.index_mut.result.now in let y = c.step.new.self in let t = c.args.t.0 in
    let step = c.args.step in
    let may = shows m.slots.items t x y (search rules) c.index_mut.ensures.value
    (λ st. WalksAt st (λ k. MayStep t step)) c.in_ok-step.ensures.allowed in
    record {
      allowed = step_allowed (limit_of m) (state_of m) c.args.t step may;
      state = state_changed m t x y (search rules) c.index_mut.ensures.value (stage_by step)
          c.in_ok-step.ensures.stage ∙ after_step (limit_of m) (state_of m) c.args.t step c.requires may;
      loads = step_loads m.slots.items c.args.t x y step (search rules) c.index_mut.ensures.value
          c.in_ok-step.ensures.loads;
      limit = refl;
    }
