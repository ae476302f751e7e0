use Rattle.std.proofs.Common.{◌≡◌, ◌+◌, [], ◌∷◌, ◌++◌, ap, ◌∙◌, arith, suc, false}
use Rattle.std.proofs.lemmas.List.{nil_from_length}
use Rattle.tj_body.specs.History.{history}
use Rattle.tj_body.specs.Programs.{program_of}
use Rattle.tj_body.specs.Rounds.{given}
use Rattle.tj_body.proofs.Proper.{root_proper}
use Rattle.tj_body.proofs.Histories.Good.{task_proper}
use Rattle.tj_mean.specs.Acts.{line_of}
use Rattle.tj_mean.specs.declared.round.Pending.{Pending}
use Rattle.tj_mean.proofs.NotedActs.NotedRounds.{begins_noted, ends_noted, falls_noted, next_noted, takes_noted}
use Rattle.tj_mean.proofs.act_lines.lines_of.Given.{Over}
use Rattle.tj_mean.proofs.act_lines.lines_of.Goals as goal
use Rattle.tj_mean.proofs.act_lines.lines_of.Goals.{In_ok-push_children}

pub loop-task-init : goal.loop-task-init
loop-task-init g c =
    let b = g.B.Body in
    let w : Pending g.row.B.Denot = record { task = c.in_ok-root_task.field-0; depth = c.args.n + 1 } in
    let pushed : c.push.new.self.items ≡ w ∷ [] = c.in_ok-push.ensures.items
    ∙ ap (λ l. l ++ w ∷ []) c.new-pending.ensures.items in
    begins_noted (program_of b.places b.awaits b.left b.asks b.then false c.args.root.now) c.args.n
    c.push.new.self.items c.new-lines.result.items w pushed c.new-lines.ensures.items c.in_ok-root_task.ensures
    (omega arith)

pub line_of-requires-clause-proper : goal.line_of-requires-clause-proper
line_of-requires-clause-proper g c κs within =
    let b = g.B.Body in
    let o = (g.met.B.Body g.world.𝓛 g.world.𝓜 g.world.𝓡 ((λ s x. x), (λ x. x), (λ x. x), λ x. x)).obeys in
    let program = program_of b.places b.awaits b.left b.asks b.then false c.args.root.now in
    task_proper program o (root_proper program c.requires.root) (suc c.args.n) c.in-Some.field-0.task
    (next_noted program c.args.n c.loop-task.pending.items c.pop.new.self.items c.in-Some.field-0
    c.in-Some.ensures.items c.loop-task.lines.items c.loop-task.invariant)

-- the children are those of the task's history
children_are : (g : Over) (c : In_ok-push_children g) → let b = g.B.Body in
    let p = program_of b.places b.awaits b.left b.asks b.then false c.args.root.now in
    c.in_ok-line.children.items ≡ (history p.rules (given p c.args.n) c.in-Some.field-0.task).children
children_are g c = let b = g.B.Body in
    let p = program_of b.places b.awaits b.left b.asks b.then false c.args.root.now in
    c.in_ok-line.ensures.children ∙ ap (λ W. (history p.rules W c.in-Some.field-0.task).children) c.requires.round

pub loop-task-smaller : goal.loop-task-smaller
loop-task-smaller g c =
    let b = g.B.Body in
    let program = program_of b.places b.awaits b.left b.asks b.then false c.args.root.now in
    falls_noted program c.args.n c.loop-task.pending.items c.pop.new.self.items c.in-Some.field-0
    c.in-Some.ensures.items c.in_ok-line.children.items (children_are g c) c.push_children.new.pending.items
    (c.in_ok-push_children.ensures program.rules (given program c.args.n))

pub loop-task-preserved : goal.loop-task-preserved
loop-task-preserved g c =
    let b = g.B.Body in
    let program = program_of b.places b.awaits b.left b.asks b.then false c.args.root.now in
    let w = c.in-Some.field-0 in
    takes_noted program c.args.n c.loop-task.pending.items c.pop.new.self.items w c.in-Some.ensures.items
    c.loop-task.lines.items c.loop-task.invariant c.in_ok-line.children.items (children_are g c)
    c.push_children.new.pending.items (c.in_ok-push_children.ensures program.rules (given program c.args.n))
    c.in_ok-line.line (c.in_ok-line.ensures.line ∙ ap (λ W. line_of program.rules W w.task) c.requires.round)
    c.push-in-Some.new.self.items c.in_ok-push-2.ensures.items

pub returns : goal.returns
returns g c =
    let b = g.B.Body in
    let program = program_of b.places b.awaits b.left b.asks b.then false c.args.root.now in
    let none = c.in_default.ensures.cases.0 in
    let long = c.loop-task.pending.ok.0 in
    ends_noted program c.args.n c.loop-task.pending.items c.loop-task.lines.items
    (nil_from_length c.loop-task.pending.items (omega arith)) c.loop-task.invariant
