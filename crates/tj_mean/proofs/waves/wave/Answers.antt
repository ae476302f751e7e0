use Rattle.std.proofs.Common.{◌≡◌, ℕ, ◌+◌, ◌-◌, ◌<◌, ◌≤◌, ◌⊎◌, Bool, List, length, get_or, ap, ◌∙◌, subst, arith}
use Rattle.tj_base.specs.ForkOrder.{Name}
use Rattle.tj_body.specs.Programs.{Program, AreLawful, program_of}
use Rattle.tj_body.proofs.Proper.{root_proper}
use Rattle.tj_mean.specs.Inner.Agendas.{IsAhead}
use Rattle.tj_mean.specs.Inner.Assignments.{assignment_in}
use Rattle.tj_mean.proofs.AtWork.KeptPoints.{any_default}
use Rattle.tj_mean.proofs.WaveSteps.{is_done, next_good, promises_fill, takes_next, tasks_fill}
use Rattle.tj_mean.proofs.waves.wave.Given.{Over}
use Rattle.tj_mean.proofs.waves.wave.Goals as goal

-- the program of these arguments
abbrev program : (g : Over) → Bool → g.row.B.Denot → Program g.row.B.Denot
program g strict root = let b = g.B.Body in program_of b.places b.awaits b.left b.asks b.then strict root

-- its bodies keep the laws
lawful : (g : Over) (strict : Bool) (root : g.row.B.Denot) → AreLawful (program g strict root).rules
lawful g strict root = (g.met.B.Body g.world.𝓛 g.world.𝓜 g.world.𝓡 ((λ s x. x), (λ x. x), (λ x. x), λ x. x)).obeys

pub returns-in_default-clause-done : goal.returns-in_default-clause-done
returns-in_default-clause-done g c =
    let p = program g c.args.strict c.args.root.now in
    let o = lawful g p.rules.strict p.root in
    let r = root_proper p c.requires.root in
    let few = c.loop-left-test.true in
    let long = c.len.ensures ∙ c.loop-left.points.ok.0 in
    let size = c.len-in-loop-left.ensures ∙ c.loop-left.points.ok.0 in
    is_done p o r c.args.cells c.args.round (assignment_in c.args.given.now) c.loop-left.agenda c.loop-left.left
    c.loop-left.points.items c.loop-left.later.items c.loop-left.writes.items c.loop-left.invariant
    c.next_index.new.self c.next_index.ensures.waiting
    (subst (λ k. c.loop-left.agenda.fresh ≤ k → c.next_index.new.self.fresh ≤ k) size c.next_index.ensures.within)
    (subst (λ k. (i : ℕ) → i < k → (¬ IsAhead c.loop-left.agenda i) × (¬ IsAhead c.next_index.new.self i)) size
    c.in_default.ensures.none) (omega arith)

pub take_up-requires-clause-good : goal.take_up-requires-clause-good
take_up-requires-clause-good g c κs within =
    let p = program g c.args.strict c.args.root.now in
    let o = lawful g p.rules.strict p.root in
    let r = root_proper p c.requires.root in
    let size = c.len-in-loop-left.ensures ∙ c.loop-left.points.ok.0 in
    let there = subst (λ k. c.in-Some.at < k) size c.in-Some.ensures.some.0 in
    λ d. next_good p o r c.args.cells c.args.round (assignment_in c.args.given.now) c.loop-left.agenda c.loop-left.left
    c.loop-left.points.items c.loop-left.later.items c.loop-left.writes.items c.loop-left.invariant c.in-Some.at there
    (get_or c.loop-left.points.items c.in-Some.at d)
    (any_default c.loop-left.points.items c.in-Some.at there d (get_or c.loop-left.points.items c.in-Some.at d))

pub returns-then-made-room-clause-full : goal.returns-then-made-room-clause-full
returns-then-made-room-clause-full g c =
    let p = program g c.args.strict c.args.root.now in
    let o = lawful g p.rules.strict p.root in
    let r = root_proper p c.requires.root in
    let size = c.len-in-loop-left.ensures ∙ c.loop-left.points.ok.0 in
    let there = subst (λ k. c.in-Some.at < k) size c.in-Some.ensures.some.0 in
    let before = ap (λ (l : List Name). length l) c.items.ensures in
    let made = ap (λ (l : List Name). length l) c.items-made.ensures in
    let many = c.if-made-room.true in
    promises_fill p o r c.args.cells c.args.round (assignment_in c.args.given.now) c.loop-left.agenda c.loop-left.left
    c.loop-left.points.items c.loop-left.later.items c.loop-left.writes.items c.loop-left.invariant c.in-Some.at there
    c.take_up.new.points.items c.take_up.new.later.items c.take_up.new.writes.items c.in_ok-take_up.ensures
    c.index.result.now c.index-in-loop-left.result.now c.index.ensures c.index-in-loop-left.ensures (omega arith)

pub loop-left-preserved : goal.loop-left-preserved
loop-left-preserved g c =
    let p = program g c.args.strict c.args.root.now in
    let o = lawful g p.rules.strict p.root in
    let r = root_proper p c.requires.root in
    let size = c.len-in-loop-left.ensures ∙ c.loop-left.points.ok.0 in
    let there = subst (λ k. c.in-Some.at < k) size c.in-Some.ensures.some.0 in
    let before = ap (λ (l : List Name). length l) c.items.ensures in
    let made = ap (λ (l : List Name). length l) c.items-made.ensures in
    let few = c.if-made-room.false in
    takes_next p o r c.args.cells c.args.round (assignment_in c.args.given.now) c.loop-left.agenda c.loop-left.left
    c.loop-left.points.items c.loop-left.later.items c.loop-left.writes.items c.loop-left.invariant c.in-Some.at there
    c.take_up.new.points.items c.take_up.new.later.items c.take_up.new.writes.items c.in_ok-take_up.ensures
    c.index.result.now c.index-in-loop-left.result.now c.index.ensures c.index-in-loop-left.ensures (omega arith)
    ((c.loop-left.left + length c.items.result.now) - length c.items-made.result.now)
    (λ i. (c.loop-left.left + before i) - made i) c.next_index.new.self c.stop.new.self
    (subst (λ k. (i : ℕ) → i < k → IsAhead c.loop-left.agenda i
    → (i ≡ c.in-Some.at) ⊎ IsAhead c.next_index.new.self i) size c.in-Some.ensures.some.1)
    (subst (λ k. c.loop-left.agenda.fresh ≤ k → c.next_index.new.self.fresh ≤ k) size c.next_index.ensures.within)
    c.next_index.ensures.waiting c.index-in-loop-left-2.result.now c.index-in-loop-left-2.ensures
    c.in_ok-stop.ensures.noted c.in_ok-stop.ensures.keeps c.in_ok-stop.ensures.ahead

pub returns-clause-full : goal.returns-clause-full
returns-clause-full g c =
    let p = program g c.args.strict c.args.root.now in
    let o = lawful g p.rules.strict p.root in
    let r = root_proper p c.requires.root in
    let many = c.loop-left-test.false in
    let long = c.len.ensures ∙ c.loop-left.points.ok.0 in
    tasks_fill p o r c.args.cells c.args.round (assignment_in c.args.given.now) c.loop-left.agenda c.loop-left.left
    c.loop-left.points.items c.loop-left.later.items c.loop-left.writes.items c.loop-left.invariant (omega arith)
