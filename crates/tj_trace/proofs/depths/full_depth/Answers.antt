use Rattle.std.proofs.Common.{◌≡◌, ◌∙◌, ◌+◌, suc, Bool, ap, refl, subst, arith}
use Rattle.std.specs.Prelude.{IfSome}
use Rattle.tj_body.specs.Points.{IsIn}
use Rattle.tj_body.specs.History.{history}
use Rattle.tj_body.specs.Programs.{AreLawful, Program, program_of}
use Rattle.tj_mean.specs.Inner.Assignments.{assignment_in}
use Rattle.tj_body.proofs.Proper.{root_proper}
use Rattle.tj_trace.specs.Inner.TaskDepths.{IsDepthTaken}
use Rattle.tj_trace.proofs.DepthRounds.{AreReached, depth_proper, full_at, full_at_root, full_by_children, less_room}
use Rattle.tj_trace.proofs.DepthRounds.{next_reached}
use Rattle.tj_trace.proofs.DepthTaken.{empty_map}
use Rattle.tj_trace.proofs.depths.full_depth.Given.{Over}
use Rattle.tj_trace.proofs.depths.full_depth.Goals as goal

-- the program of these arguments
abbrev program : (g : Over) → Bool → g.row.B.Denot → Program g.row.B.Denot
program g strict root = let b = g.B.Body in program_of b.places b.awaits b.left b.asks b.then strict root

-- its bodies keep the laws
lawful : (g : Over) (strict : Bool) (root : g.row.B.Denot) → AreLawful (program g strict root).rules
lawful g strict root = (g.met.B.Body g.world.𝓛 g.world.𝓜 g.world.𝓡 ((λ s x. x), (λ x. x), (λ x. x), λ x. x)).obeys

-- each task of a depth is as forks make them
pub take_depth-requires-clause-proper : goal.take_depth-requires-clause-proper
take_depth-requires-clause-proper g c κs within =
    let p = program g c.args.strict c.args.root.now in
    λ t i. depth_proper p (lawful g c.args.strict c.args.root.now) (root_proper p c.requires.root) c.loop-alloc.depth t
    (subst (IsIn t) c.loop-alloc.invariant.tasks_are i)

pub returns-then-has_many : goal.returns-then-has_many
returns-then-has_many g c =
    let p = program g c.args.strict c.args.root.now in
    let none = assignment_in c.new-none.result in
    full_by_children p c.args.cells c.in_ok-first.first none (empty_map c.new-none.result c.new-none.ensures)
    (c.in_ok-first.ensures ∙ ap (λ t. history p.rules none t) c.in_ok-root_task.ensures) (c.if-has_many.ensures refl)

pub returns-then-depth-eq0 : goal.returns-then-depth-eq0
returns-then-depth-eq0 g c =
    let p = program g c.args.strict c.args.root.now in
    let l = c.loop-alloc in
    let b = c.in-Some.below in
    let taken = subst (λ o. IfSome o (λ b. IsDepthTaken p.rules l.tasks.items l.room b.room b.tasks.items)) c.in-Some.is
    c.in_ok-found.ensures in
    full_at_root p c.args.cells l.tasks.items l.room l.depth l.invariant b.room b.tasks.items taken c.if-below-eq0.true
    c.if-depth-eq0.true

pub returns-then-below-eq0 : goal.returns-then-below-eq0
returns-then-below-eq0 g c =
    let p = program g c.args.strict c.args.root.now in
    let l = c.loop-alloc in
    let b = c.in-Some.below in
    let taken = subst (λ o. IfSome o (λ b. IsDepthTaken p.rules l.tasks.items l.room b.room b.tasks.items)) c.in-Some.is
    c.in_ok-found.ensures in
    full_at p c.args.cells l.tasks.items l.room l.depth l.invariant b.room b.tasks.items taken c.if-below-eq0.true
    c.if-depth-eq0.false

pub loop-alloc-smaller : goal.loop-alloc-smaller
loop-alloc-smaller g c =
    let p = program g c.args.strict c.args.root.now in
    let l = c.loop-alloc in
    let b = c.in-Some.below in
    let taken = subst (λ o. IfSome o (λ b. IsDepthTaken p.rules l.tasks.items l.room b.room b.tasks.items)) c.in-Some.is
    c.in_ok-found.ensures in
    let some = c.loop-alloc-test.true in
    let size = c.len.ensures ∙ l.tasks.ok.0 in
    less_room p c.args.cells l.tasks.items l.room l.depth l.invariant b.room b.tasks.items taken (omega arith)

pub loop-alloc-preserved : goal.loop-alloc-preserved
loop-alloc-preserved g c =
    let p = program g c.args.strict c.args.root.now in
    let l = c.loop-alloc in
    let b = c.in-Some.below in
    let taken = subst (λ o. IfSome o (λ b. IsDepthTaken p.rules l.tasks.items l.room b.room b.tasks.items)) c.in-Some.is
    c.in_ok-found.ensures in
    let some = c.loop-alloc-test.true in
    let size = c.len.ensures ∙ l.tasks.ok.0 in
    subst (AreReached p c.args.cells b.tasks.items b.room) (let z : suc l.depth ≡ l.depth + 1 = omega arith in z)
    (next_reached p c.args.cells l.tasks.items l.room l.depth l.invariant b.room b.tasks.items taken (omega arith)
    c.if-below-eq0.false)
