use Rattle.tj_detect.proofs.Prelude.{MayLoadWait, Some, ap, false, inl, inr, is_owner, owner_number, refl, sym, true, ◌∙◌}
use Rattle.tj_detect.proofs.Prelude.{◌≡◌}
use Rattle.tj_words.specs.Steps.StepEvents.{wait_in}
use Rattle.tj_detect.proofs.WalkReads.{no_wait, at_again, passes_next, has_changed, its_next, walks_at}
use Rattle.tj_detect.proofs.BlockSteps.{named_again, named_other}
use Rattle.tj_detect.proofs.blocking.Waiter.look_at_wait.Goals as goal

pub see_owner-again-requires-clause-walks : goal.see_owner-again-requires-clause-walks
see_owner-again-requires-clause-walks g c κs within =
    let h = c.requires.walks in
    let found = c.see_phase-found in
    walks_at (at_again c.args.seat.now.me.0 c.args.self.now.t.0 h.wait h.way h.walker (h.task, h.held, h.does)
    c.args.self.now.laid.now.cells c.args.u.0 h.may.1 (wait_in found.result) found.new.seat.me.0 found.ensures.view
    c.args.steps.now c.tick.new.self c.tick.ensures c.in-Some.next.0
    (c.wait_of.ensures ∙ ap owner_number c.in-Some.is))
    (h.may.0, inr (c.args.u.0, c.in-Some.next.0, refl))

pub returns-then-is_owner-clause-passes : goal.returns-then-is_owner-clause-passes
returns-then-is_owner-clause-passes g c = λ q way w has.
    let found = c.see_phase-found.ensures in
    let may = its_next _ _ q way w has _ (MayLoadWait c.args.self.now.t.0 c.args.u.0) c.requires.walks in
    let waits : wait_in c.see_phase-found.result ≡ Some c.in-Some.next.0
    = c.wait_of.ensures ∙ ap owner_number c.in-Some.is in
    let same : is_owner (owner_number c.see_owner-again.result) c.args.u.0 ≡ true
    = sym c.is_owner.ensures ∙ c.if-is_owner.true in
    passes_next _ _ q way w has c.args.self.now.laid.now.cells _ may _ _ found.view _ _ c.tick.ensures _ waits _ _
    c.see_owner-again.ensures.view _ c.tick-in-Some.ensures c.in-Some.next refl (found.wait c.in-Some.next.0 waits) same

pub returns-in-None-clause-passes : goal.returns-in-None-clause-passes
returns-in-None-clause-passes g c = λ q way w has.
    let may = its_next _ _ q way w has _ (MayLoadWait c.args.self.now.t.0 c.args.u.0) c.requires.walks in
    no_wait _ _ q way w has c.args.self.now.laid.now.cells _ may _ _ c.see_phase-found.ensures.view _ _ c.tick.ensures
    (c.wait_of.ensures ∙ ap owner_number c.in-None.is)

pub returns-else-is_owner-clause-passes : goal.returns-else-is_owner-clause-passes
returns-else-is_owner-clause-passes g c = λ q way w has.
    let may = its_next _ _ q way w has _ (MayLoadWait c.args.self.now.t.0 c.args.u.0) c.requires.walks in
    let waits : wait_in c.see_phase-found.result ≡ Some c.in-Some.next.0
    = c.wait_of.ensures ∙ ap owner_number c.in-Some.is in
    let changed : is_owner (owner_number c.see_owner-again.result) c.args.u.0 ≡ false
    = sym c.is_owner.ensures ∙ c.if-is_owner.false in
    has_changed _ _ q way w has c.args.self.now.laid.now.cells _ may _ _ c.see_phase-found.ensures.view _ _
    c.tick.ensures _ waits _ _ c.see_owner-again.ensures.view _ c.tick-in-Some.ensures changed

pub returns-in-None-clause-log : goal.returns-in-None-clause-log
returns-in-None-clause-log g c = inl (
  c.see_phase-found.result,
  c.wait_of.ensures ∙ ap owner_number c.in-None.is,
  c.see_phase-found.ensures.log,
)

pub returns-then-is_owner-clause-log : goal.returns-then-is_owner-clause-log
returns-then-is_owner-clause-log g c = named_again c.args.p.0 c.args.u.0 c.in-Some.next c.see_phase-found.result
    c.see_owner-again.result c.args.seat.now c.see_phase-found.new.seat c.see_owner-again.new.seat
    (c.wait_of.ensures ∙ ap owner_number c.in-Some.is) (sym c.is_owner.ensures ∙ c.if-is_owner.true)
    c.see_phase-found.ensures.log c.see_owner-again.ensures.log

pub returns-else-is_owner-clause-log : goal.returns-else-is_owner-clause-log
returns-else-is_owner-clause-log g c = named_other c.args.p.0 c.args.u.0 c.in-Some.next.0 c.see_phase-found.result
    c.see_owner-again.result c.args.seat.now c.see_phase-found.new.seat c.see_owner-again.new.seat
    (c.wait_of.ensures ∙ ap owner_number c.in-Some.is) (sym c.is_owner.ensures ∙ c.if-is_owner.false)
    c.see_phase-found.ensures.log c.see_owner-again.ensures.log
