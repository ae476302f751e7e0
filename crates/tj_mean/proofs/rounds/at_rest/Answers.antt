use Rattle.std.proofs.Common.{◌+◌, ◌-◌, ◌<◌, Bool, sym, subst, ◌∙◌, arith}
use Rattle.std.proofs.lemmas.Result.{err_from_is_err_and}
use Rattle.tj_body.specs.Points.{IsIn, HasStopped, weight}
use Rattle.tj_body.specs.Programs.{Program, AreLawful, program_of}
use Rattle.tj_body.specs.declared.point.Point.{Point}
use Rattle.tj_body.proofs.Proper.{root_proper}
use Rattle.tj_mean.specs.Inner.Assignments.{assignment_in}
use Rattle.tj_mean.specs.Inner.Reached.{CanGoOn}
use Rattle.tj_mean.proofs.AtWork.TakenUp.{GoesOn, has_ending, made_in_room, good_point, full_point, goes_on_so}
use Rattle.tj_mean.proofs.AtWork.TasksAtWork.{HasRested, begins, at_the_end}
use Rattle.tj_mean.proofs.rounds.at_rest.Given.{Over}
use Rattle.tj_mean.proofs.rounds.at_rest.Goals as goal
use Rattle.tj_mean.proofs.rounds.at_rest.Goals.{In_ok-start_all, After-drop-agenda-3}

-- the program of these arguments
abbrev program : (g : Over) → Bool → g.row.B.Denot → Program g.row.B.Denot
program g strict root = let b = g.B.Body in program_of b.places b.awaits b.left b.asks b.then strict root

-- its bodies keep the laws
lawful : (g : Over) (strict : Bool) (root : g.row.B.Denot) → AreLawful (program g strict root).rules
lawful g strict root = (g.met.B.Body g.world.𝓛 g.world.𝓜 g.world.𝓡 ((λ s x. x), (λ x. x), (λ x. x), λ x. x)).obeys

pub loop-at-init : goal.loop-at-init
loop-at-init g c =
    let some = c.requires.cells.0 in
    begins (program g c.args.strict c.args.root.now) c.args.cells (assignment_in c.new-given.result)
    c.in_ok-points.points.items (c.args.cells - 1)
    c.new-given.ensures c.in_ok-points.ensures
    (omega arith)

pub overflow_add-most : goal.overflow_add-most
overflow_add-most g c =
    let p = program g c.args.strict c.args.root.now in
    let V = assignment_in c.loop-at.given in
    let can = subst (λ l. CanGoOn V l c.in-Some.at) c.as_slice.ensures.value c.in-Some.ensures.some in
    let m = made_in_room p (lawful g p.rules.strict p.root) (root_proper p c.requires.root) c.args.cells V
    c.loop-at.points.items c.loop-at.left c.loop-at.invariant c.in-Some.at can c.index.result.now c.index.ensures in
    let few = c.requires.cells.1 in
    omega arith

pub returns-in_err-go_on-clause-full : goal.returns-in_err-go_on-clause-full
returns-in_err-go_on-clause-full g c =
    let e = err_from_is_err_and c.from_residual-in_err-go_on.result c.from_residual-in_err-go_on.ensures.1 in
    let p = program g c.args.strict c.args.root.now in
    let V = assignment_in c.loop-at.given in
    let can = subst (λ l. CanGoOn V l c.in-Some.at) c.as_slice.ensures.value c.in-Some.ensures.some in
    rw e.1
    (λ h. let f = c.in_err-go_on.ensures.full (sym e.2 ∙ h) in
    full_point p (lawful g p.rules.strict p.root) (root_proper p c.requires.root) c.args.cells V c.loop-at.points.items
    c.loop-at.left c.loop-at.invariant c.in-Some.at can c.index_mut.result.now c.index_mut.ensures.value c.go_on.new.p
    f.0 c.index.result.now c.index.ensures f.1)

pub go_on-requires-clause-good : goal.go_on-requires-clause-good
go_on-requires-clause-good g c κs within =
    let p = program g c.args.strict c.args.root.now in
    let V = assignment_in c.loop-at.given in
    let can = subst (λ l. CanGoOn V l c.in-Some.at) c.as_slice.ensures.value c.in-Some.ensures.some in
    good_point p (lawful g p.rules.strict p.root) (root_proper p c.requires.root) c.args.cells V c.loop-at.points.items
    c.loop-at.left c.loop-at.invariant c.in-Some.at can c.index_mut.result.now c.index_mut.ensures.value

-- a turn of the loop
turned : (g : Over) (c : In_ok-start_all g) → GoesOn (program g c.args.strict c.args.root.now) c.args.cells
    (assignment_in c.loop-at.given) c.loop-at.points.items c.loop-at.left (assignment_in c.enter_all.new.given)
    c.start_all.new.points.items ((c.index.result.now.made + c.loop-at.left) - c.index-in-Some.result.now.made)
    (¬ HasStopped (assignment_in c.loop-at.given) c.index_mut.result.now
    → weight g.B.Body.left c.go_on.new.p < weight g.B.Body.left c.index_mut.result.now)
turned g c =
    let p = program g c.args.strict c.args.root.now in
    let V = assignment_in c.loop-at.given in
    let can = subst (λ l. CanGoOn V l c.in-Some.at) c.as_slice.ensures.value c.in-Some.ensures.some in
    goes_on_so p (lawful g p.rules.strict p.root) (root_proper p c.requires.root) c.args.cells V c.loop-at.points.items
    c.loop-at.left c.loop-at.invariant c.in-Some.at can c.index_mut.result.now c.index_mut.ensures.value c.go_on.new.p
    c.in_ok-go_on.ensures.reached c.index.result.now c.index.ensures
    c.index-in-Some.result.now c.index_mut-in-Some.result.now c.hand_on-handed.new.p
    c.index-in-Some.ensures c.index_mut-in-Some.ensures.value c.hand_on-handed.ensures.emptied
    c.hand_on-handed.result.children.items c.hand_on-handed.ensures.children
    c.hand_on-handed.result.writes.items c.hand_on-handed.ensures.writes
    (assignment_in c.enter_all.new.given) c.in_ok-enter_all.ensures
    c.start_all.new.points.items c.in_ok-start_all.ensures c.in_ok-go_on.ensures.fits

pub loop-at-preserved : goal.loop-at-preserved
loop-at-preserved g c = (turned g c).0

pub loop-at-smaller : goal.loop-at-smaller
loop-at-smaller g c = (turned g c).1 c.in_ok-go_on.ensures.falls

-- each task has stopped at the end
stopped : (g : Over) (c : After-drop-agenda-3 g) → (p : Point g.row.B.Denot) → IsIn p c.loop-at.points.items
    → HasStopped (assignment_in c.loop-at.given) p
stopped g c = subst (λ l. (p : Point g.row.B.Denot) → IsIn p l → HasStopped (assignment_in c.loop-at.given) p)
    c.as_slice.ensures.value c.in_default.ensures.none

-- so the meaning is found
rested : (g : Over) (c : After-drop-agenda-3 g) → HasRested (program g c.args.strict c.args.root.now) c.args.cells
    (assignment_in c.loop-at.given) c.loop-at.points.items
rested g c =
    let p = program g c.args.strict c.args.root.now in
    at_the_end p (lawful g p.rules.strict p.root) (root_proper p c.requires.root) c.args.cells
    (assignment_in c.loop-at.given) c.loop-at.points.items c.loop-at.left c.loop-at.invariant (stopped g c)

pub returns-clause-stopped : goal.returns-clause-stopped
returns-clause-stopped g c = λ p i. has_ending (assignment_in c.loop-at.given) p (stopped g c p i)

pub returns-clause-fits : goal.returns-clause-fits
returns-clause-fits g c = (rested g c).fits

pub returns-clause-rest : goal.returns-clause-rest
returns-clause-rest g c = (rested g c).rest

pub returns-clause-entries : goal.returns-clause-entries
returns-clause-entries g c = (rested g c).entries
