use Rattle.std.proofs.Common.{suc, ◌-◌, ◌∙◌, inl, arith}
use Rattle.std.proofs.lemmas.List.{nil_from_length}
use denote.Param.Send.{sendable}
use Rattle.std.proofs.Crossing.{crosses}
use Rattle.tj_mean.specs.Inner.Assignments.{assignment_in}
use Rattle.tj_syntax.proofs.Sends.{expr_sync, stmt_sync, script_sync}
use Rattle.tj_trace.proofs.MostFound.{all_found, begins_found, enough_found, grows_found, next_found, round_fresh}
use Rattle.tj_trace.proofs.MostFound.{round_proper, takes_found}
use Rattle.tj_trace.proofs.MostTold.{noted_program}
use Rattle.tj_trace.proofs.Sends.{size_sync, sizes_sync}
use Rattle.tj_trace.proofs.full.first_makers.Goals as goal
use Rattle.tj_trace.proofs.full.first_makers.Goals.{in-Some+then-len-cells, in_default}

-- a body with notes may cross threads
pub root_task-requires-send-B : goal.root_task-requires-send-B
root_task-requires-send-B c κs =
    search (sendable, crosses, expr_sync, stmt_sync, script_sync, size_sync, sizes_sync) depth 80 fits 30000

-- the root is a task of the round
pub take_up-requires-clause-proper : goal.take_up-requires-clause-proper
take_up-requires-clause-proper c =
    round_proper c.args.strict c.args.root.now c.requires.root c.requires.notes_nothing 0 c.in_ok-first.first
    (inl c.in_ok-first.ensures)

pub take_up-requires-clause-notes_nothing : goal.take_up-requires-clause-notes_nothing
take_up-requires-clause-notes_nothing c =
    round_fresh c.args.strict c.args.root.now c.requires.root c.requires.notes_nothing 0 c.in_ok-first.first
    (inl c.in_ok-first.ensures)

pub take_up-requires-clause-quiet : goal.take_up-requires-clause-quiet
take_up-requires-clause-quiet c =
    c.requires.quiet (assignment_in c.args.given.now) 1 c.in_ok-first.first (inl c.in_ok-first.ensures)

pub loop-task-init : goal.loop-task-init
loop-task-init c =
    begins_found (noted_program c.args.strict c.args.root.now) c.args.number
    (assignment_in c.args.given.now) c.requires.round c.in_ok-first.first c.in_ok-first.ensures
    c.new-pending.result.items c.new-pending.ensures.items c.new-makers.result.items c.new-makers.ensures.items
    c.take_up.new.pending.items c.take_up.new.makers.items c.in_ok-take_up.ensures

-- the task that is taken next is one of the round
pub take_up-requires-in-Some-clause-proper : goal.take_up-requires-in-Some-clause-proper
take_up-requires-in-Some-clause-proper c =
    let w = c.in-Some.field-0 in
    round_proper c.args.strict c.args.root.now c.requires.root c.requires.notes_nothing
    (c.args.number - 1) w.task
    (next_found (noted_program c.args.strict c.args.root.now) c.args.number
    (assignment_in c.args.given.now) c.requires.round c.loop-task.pending.items c.loop-task.makers.items
    c.loop-task.invariant c.pop.new.self.items w c.in-Some.ensures.items)

pub take_up-requires-in-Some-clause-notes_nothing : goal.take_up-requires-in-Some-clause-notes_nothing
take_up-requires-in-Some-clause-notes_nothing c =
    let w = c.in-Some.field-0 in
    round_fresh c.args.strict c.args.root.now c.requires.root c.requires.notes_nothing
    (c.args.number - 1) w.task
    (next_found (noted_program c.args.strict c.args.root.now) c.args.number
    (assignment_in c.args.given.now) c.requires.round c.loop-task.pending.items c.loop-task.makers.items
    c.loop-task.invariant c.pop.new.self.items w c.in-Some.ensures.items)

pub take_up-requires-in-Some-clause-quiet : goal.take_up-requires-in-Some-clause-quiet
take_up-requires-in-Some-clause-quiet c =
    let w = c.in-Some.field-0 in
    c.requires.quiet (assignment_in c.args.given.now) (suc (c.args.number - 1)) w.task
    (next_found (noted_program c.args.strict c.args.root.now) c.args.number
    (assignment_in c.args.given.now) c.requires.round c.loop-task.pending.items c.loop-task.makers.items
    c.loop-task.invariant c.pop.new.self.items w c.in-Some.ensures.items)

pub loop-task-smaller : goal.loop-task-smaller
loop-task-smaller c =
    let few = c.if-len-cells.false in
    let size = c.len.ensures ∙ c.loop-task.makers.ok.0 in
    let more = grows_found (noted_program c.args.strict c.args.root.now) c.args.number
    (assignment_in c.args.given.now) c.requires.round c.loop-task.pending.items c.loop-task.makers.items
    c.loop-task.invariant c.pop.new.self.items c.in-Some.field-0 c.in-Some.ensures.items c.push.new.self.items
    c.in_ok-push.ensures.items c.take_up-in-Some.new.pending.items c.take_up-in-Some.new.makers.items
    c.in_ok-take_up-2.ensures in
    omega arith

pub loop-task-preserved : goal.loop-task-preserved
loop-task-preserved c =
    takes_found (noted_program c.args.strict c.args.root.now) c.args.number
    (assignment_in c.args.given.now) c.requires.round c.loop-task.pending.items c.loop-task.makers.items
    c.loop-task.invariant c.pop.new.self.items c.in-Some.field-0 c.in-Some.ensures.items c.push.new.self.items
    c.in_ok-push.ensures.items c.take_up-in-Some.new.pending.items c.take_up-in-Some.new.makers.items
    c.in_ok-take_up-2.ensures

pub returns : goal.returns
returns c =
    let l = c.loop-task in
    let p = noted_program c.args.strict c.args.root.now in
    let size = l.makers.ok.0 in
    let long = l.pending.ok.0 in
    elim c.match-pop.branch [
      | in-Some+then-len-cells w ↦ let many = w.if-len-cells.true in let e = w.len.ensures in
          c.truncate.ensures.items ∙ enough_found p c.args.number (assignment_in c.args.given.now)
          c.requires.round l.pending.items l.makers.items l.invariant c.args.cells (omega arith)
      | in_default w ↦ let none = w.in_default.ensures.cases.0 in
          c.truncate.ensures.items ∙ all_found p c.args.number (assignment_in c.args.given.now)
          c.requires.round l.pending.items l.makers.items l.invariant c.args.cells
          (nil_from_length l.pending.items (omega arith))
    ]
