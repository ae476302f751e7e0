use Rattle.std.proofs.Common.{◌≡◌, ℕ, suc, ◌+◌, ◌<◌, Bool, List, length, map, ◌∙◌, subst, arith}
use Rattle.std.specs.Prelude.{IfNone, IfSome}
use Rattle.tj_base.specs.ForkOrder.{Name}
use Rattle.tj_body.specs.Points.{IsIn}
use Rattle.tj_body.specs.Programs.{Program, AreLawful, program_of}
use Rattle.tj_body.specs.Rounds.{cells}
use Rattle.tj_body.specs.declared.point.Entry.{Entry}
use Rattle.tj_body.proofs.Proper.{root_proper}
use Rattle.tj_mean.specs.FirstFull.{IsFirstFull}
use Rattle.tj_mean.specs.Inner.Agendas.{IsNotedAt}
use Rattle.tj_mean.specs.Inner.Assignments.{assignment_in}
use Rattle.tj_mean.specs.Inner.Waves.{IsWaveDone}
use Rattle.tj_mean.proofs.RoundWaves.{first_after, not_full}
use Rattle.tj_mean.proofs.WaveSteps.{IsRoundBegun, by_one, by_two, first_begun, next_begun, next_entered, next_full}
use Rattle.tj_mean.proofs.waves.first_full.Given.{Over}
use Rattle.tj_mean.proofs.waves.first_full.Goals as goal

-- the program of these arguments
abbrev program : (g : Over) → Bool → g.row.B.Denot → Program g.row.B.Denot
program g strict root = let b = g.B.Body in program_of b.places b.awaits b.left b.asks b.then strict root

-- its bodies keep the laws
lawful : (g : Over) (strict : Bool) (root : g.row.B.Denot) → AreLawful (program g strict root).rules
lawful g strict root = (g.met.B.Body g.world.𝓛 g.world.𝓜 g.world.𝓡 ((λ s x. x), (λ x. x), (λ x. x), λ x. x)).obeys

pub loop-round-init : goal.loop-round-init
loop-round-init g c =
    first_begun (program g c.args.strict c.args.root.now) c.args.cells (assignment_in c.new-given.result)
    c.new-agenda.result c.in_ok-points.points.items c.new-given.ensures c.in_ok-points.ensures c.new-agenda.ensures

pub returns-in_default-clause-some : goal.returns-in_default-clause-some
returns-in_default-clause-some g c =
    let p = program g c.args.strict c.args.root.now in
    by_one (IsFirstFull p c.args.cells) c.loop-round.round
    (first_after p c.args.cells c.loop-round.round c.loop-round.invariant.fits
    (subst (λ f. IfNone f (c.args.cells < length (cells p (suc c.loop-round.round)))) c.in_default.is
    c.in_ok-found.ensures.full))

pub returns-then-len-cells-clause-some : goal.returns-then-len-cells-clause-some
returns-then-len-cells-clause-some g c =
    let p = program g c.args.strict c.args.root.now in
    let o = lawful g p.rules.strict p.root in
    let root = root_proper p c.requires.root in
    let done = subst (λ f. IfSome f (λ h. IsWaveDone p c.args.cells c.loop-round.round
    (assignment_in c.loop-round.given) c.wave.new.agenda c.wave.new.left c.wave.new.points.items h.children.items
    h.writes.items)) c.in-Some.is c.in_ok-found.ensures.done in
    let size = c.len.ensures ∙ c.in-Some.handed.children.ok.0 in
    let many = c.if-len-cells.true in
    by_two (IsFirstFull p c.args.cells) c.loop-round.round
    (next_full p o root c.args.cells c.loop-round.round (assignment_in c.loop-round.given) c.wave.new.agenda
    c.wave.new.left c.wave.new.points.items c.in-Some.handed.children.items c.in-Some.handed.writes.items done
    (assignment_in c.enter_all.new.given) c.in_ok-enter_all.ensures (omega arith))

pub returns-then-len-cells-clause-entries : goal.returns-then-len-cells-clause-entries
returns-then-len-cells-clause-entries g c =
    let p = program g c.args.strict c.args.root.now in
    let o = lawful g p.rules.strict p.root in
    let root = root_proper p c.requires.root in
    let done = subst (λ f. IfSome f (λ h. IsWaveDone p c.args.cells c.loop-round.round
    (assignment_in c.loop-round.given) c.wave.new.agenda c.wave.new.left c.wave.new.points.items h.children.items
    h.writes.items)) c.in-Some.is c.in_ok-found.ensures.done in
    let two : c.loop-round.round + 1 + 1 ≡ suc (suc c.loop-round.round) = omega arith in (
      suc c.loop-round.round,
      two,
      next_entered p o root c.args.cells c.loop-round.round (assignment_in c.loop-round.given) c.wave.new.agenda
          c.wave.new.left c.wave.new.points.items c.in-Some.handed.children.items c.in-Some.handed.writes.items done
          (assignment_in c.enter_all.new.given) c.in_ok-enter_all.ensures,
    )

pub loop-round-preserved : goal.loop-round-preserved
loop-round-preserved g c =
    let p = program g c.args.strict c.args.root.now in
    let o = lawful g p.rules.strict p.root in
    let root = root_proper p c.requires.root in
    let done = subst (λ f. IfSome f (λ h. IsWaveDone p c.args.cells c.loop-round.round
    (assignment_in c.loop-round.given) c.wave.new.agenda c.wave.new.left c.wave.new.points.items h.children.items
    h.writes.items)) c.in-Some.is c.in_ok-found.ensures.done in
    let gone = subst (λ (l : List (Name × Entry)). (q : Name) (i : ℕ)
    → IsIn q (map (λ (w : Name × Entry). w.0) l) → ¬ IsNotedAt c.wake.new.self.waiting q i)
    c.as_slice.ensures.value c.in_ok-wake.ensures.gone in
    let size = c.len.ensures ∙ c.in-Some.handed.children.ok.0 in
    let few = c.if-len-cells.false in
    by_one (λ k. IsRoundBegun p c.args.cells k (assignment_in c.enter_all.new.given) c.wake.new.self c.wave.new.left
    c.start_all.new.points.items) c.loop-round.round
    (next_begun p o root c.args.cells c.loop-round.round (assignment_in c.loop-round.given) c.wave.new.agenda
    c.wave.new.left c.wave.new.points.items c.in-Some.handed.children.items c.in-Some.handed.writes.items done
    (assignment_in c.enter_all.new.given) c.in_ok-enter_all.ensures c.wake.new.self
    (c.in_ok-wake.ensures.woken, gone, c.in_ok-wake.ensures.fresh) c.loop-round-test.true (omega arith)
    c.start_all.new.points.items c.in_ok-start_all.ensures)

pub returns-clause-none : goal.returns-clause-none
returns-clause-none g c =
    let i = c.loop-round.invariant in
    not_full (program g c.args.strict c.args.root.now) c.args.cells c.loop-round.round c.loop-round-test.false i.few
    i.fits
