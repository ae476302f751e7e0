use Rattle.std.proofs.Common.{◌-◌, Bool, arith}
use Rattle.tj_body.specs.Programs.{Program, AreLawful, program_of}
use Rattle.tj_body.proofs.Proper.{root_proper}
use Rattle.tj_mean.specs.Inner.Assignments.{assignment_in}
use Rattle.tj_mean.proofs.AtWork.UnansweredTasks.{counted_first, unanswered_good, unanswered_full, unanswered_next}
use Rattle.tj_mean.proofs.AtWork.UnansweredTasks.{unanswered_falls}
use Rattle.tj_mean.proofs.unanswered.is_full_unanswered.Given.{Over}
use Rattle.tj_mean.proofs.unanswered.is_full_unanswered.Goals as goal

-- the program of these arguments
abbrev program : (g : Over) → Bool → g.row.B.Denot → Program g.row.B.Denot
program g strict root = let b = g.B.Body in program_of b.places b.awaits b.left b.asks b.then strict root

-- its bodies keep the laws
lawful : (g : Over) (strict : Bool) (root : g.row.B.Denot) → AreLawful (program g strict root).rules
lawful g strict root = (g.met.B.Body g.world.𝓛 g.world.𝓜 g.world.𝓡 ((λ s x. x), (λ x. x), (λ x. x), λ x. x)).obeys

pub loop-task-init : goal.loop-task-init
loop-task-init g c =
    let some = c.requires.cells.0 in
    counted_first (program g c.args.strict c.args.root.now) c.args.cells c.in_ok-tasks.tasks.items (c.args.cells - 1)
    c.in_ok-tasks.ensures (omega arith)

pub go_on-requires-clause-good : goal.go_on-requires-clause-good
go_on-requires-clause-good g c κs within =
    let p = program g c.args.strict c.args.root.now in
    unanswered_good p (lawful g p.rules.strict p.root) (root_proper p c.requires.root) c.args.cells
    c.loop-task.tasks.items c.loop-task.left c.loop-task.invariant c.in-Some.task c.pop_front.new.self.items
    c.in-Some.ensures.items c.in_ok-p.p c.in_ok-p.ensures

pub returns-in-Err-Full : goal.returns-in-Err-Full
returns-in-Err-Full g c =
    let p = program g c.args.strict c.args.root.now in
    let f = c.in-Err-Full.ensures.full c.in-Err-Full.field-0-is in
    λ _. unanswered_full p (lawful g p.rules.strict p.root) (root_proper p c.requires.root) c.args.cells
    c.loop-task.tasks.items c.loop-task.left c.loop-task.invariant c.in-Some.task c.pop_front.new.self.items
    c.in-Some.ensures.items c.in_ok-p.p c.in_ok-p.ensures (assignment_in c.new-none.result) c.new-none.ensures
    c.go_on.new.p f.0 f.1

pub loop-task-smaller : goal.loop-task-smaller
loop-task-smaller g c =
    let p = program g c.args.strict c.args.root.now in
    unanswered_falls p (lawful g p.rules.strict p.root) (root_proper p c.requires.root) c.args.cells
    c.loop-task.tasks.items c.loop-task.left c.loop-task.invariant c.in-Some.task c.pop_front.new.self.items
    c.in-Some.ensures.items c.in_ok-p.p c.in_ok-p.ensures (assignment_in c.new-none.result) c.new-none.ensures
    c.go_on.new.p c.in-Ok.ensures.reached c.children_of-children.result.items c.children_of-children.ensures
    c.add_all.new.tasks.items c.in_ok-add_all.ensures c.in-Ok.ensures.fits c.in-Ok.ensures.falls

pub loop-task-preserved : goal.loop-task-preserved
loop-task-preserved g c =
    let p = program g c.args.strict c.args.root.now in
    unanswered_next p (lawful g p.rules.strict p.root) (root_proper p c.requires.root) c.args.cells
    c.loop-task.tasks.items c.loop-task.left c.loop-task.invariant c.in-Some.task c.pop_front.new.self.items
    c.in-Some.ensures.items c.in_ok-p.p c.in_ok-p.ensures (assignment_in c.new-none.result) c.new-none.ensures
    c.go_on.new.p c.in-Ok.ensures.reached c.children_of-children.result.items c.children_of-children.ensures
    c.add_all.new.tasks.items c.in_ok-add_all.ensures c.in-Ok.ensures.fits
