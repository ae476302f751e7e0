use Rattle.tj_detect.proofs.Prelude.{MayReadOwner, Some, ap, inl, owner_number, owner_read, refl}
use Rattle.tj_detect.proofs.WalkReads.{no_owner, is_own, at_owner, hops, its_next, walks_at}
use Rattle.tj_detect.proofs.BlockSteps.{hop_on, named, named_own}
use Rattle.tj_detect.proofs.blocking.Waiter.look_at_owner.Goals as goal

pub see_owner-first-requires-clause-walks : goal.see_owner-first-requires-clause-walks
see_owner-first-requires-clause-walks g c κs within =
    let h = c.requires.walks in walks_at (h.task, h.held, h.does) (h.may.0, inl h.may.1)

pub look_at_wait-requires-clause-walks : goal.look_at_wait-requires-clause-walks
look_at_wait-requires-clause-walks g c κs within =
    let h = c.requires.walks in
    let first = c.see_owner-first in
    walks_at (at_owner c.args.seat.now.me.0 c.args.self.now.t.0 h.wait h.way h.walker (h.task, h.held, h.does)
    c.args.self.now.laid.now.cells h.may.1 (owner_number first.result) first.new.seat.me.0 first.ensures.view
    c.args.steps.now c.tick.new.self c.tick.ensures c.in-Some.u.0 (ap owner_number c.in-Some.is))
    (h.may.0, (refl, c.if-u-t.false))

pub returns-in-None-clause-hops : goal.returns-in-None-clause-hops
returns-in-None-clause-hops g c = λ q way w has.
    no_owner _ _ q way w has c.args.self.now.laid.now.cells
    (its_next _ _ q way w has _ MayReadOwner c.requires.walks) _ _
    c.see_owner-first.ensures.view _ _ c.tick.ensures (ap owner_number c.in-None.is)

pub returns-then-u-t-clause-hops : goal.returns-then-u-t-clause-hops
returns-then-u-t-clause-hops g c = λ q way w has.
    is_own _ _ q way w has c.args.self.now.laid.now.cells (its_next _ _ q way w has _ MayReadOwner c.requires.walks) _ _
    c.see_owner-first.ensures.view _ _ c.tick.ensures _ (ap owner_number c.in-Some.is) c.if-u-t.true

pub returns-else-u-t-clause-hops : goal.returns-else-u-t-clause-hops
returns-else-u-t-clause-hops g c = λ q way w has.
    let first = c.see_owner-first.ensures.view in
    let may = its_next _ _ q way w has _ MayReadOwner c.requires.walks in
    let found = ap owner_number c.in-Some.is in
    let there = at_owner _ _ q way w has c.args.self.now.laid.now.cells may _ _ first _ _ c.tick.ensures _ found in
    hops _ _ q way w has _ may _ _ first _ _ c.tick.ensures _ found _ _ _
    (c.look_at_wait.ensures.passes q way (owner_read (Some c.in-Some.u.0) w) there)

pub returns-in-None-clause-log : goal.returns-in-None-clause-log
returns-in-None-clause-log g c =
    inl (named c.args.p.0 c.args.seat.now c.see_owner-first.new.seat c.in-None.is c.see_owner-first.ensures.log)

pub returns-then-u-t-clause-log : goal.returns-then-u-t-clause-log
returns-then-u-t-clause-log g c =
    named_own c.args.p.0 c.args.self.now.t.0 c.args.seat.now c.see_owner-first.new.seat c.in-Some.is c.if-u-t.true
    c.see_owner-first.ensures.log

pub returns-else-u-t-clause-log : goal.returns-else-u-t-clause-log
returns-else-u-t-clause-log g c = let first = c.see_owner-first.new.seat in
    hop_on c.args.self.now.t.0 c.args.p.0 c.in-Some.u.0 c.look_at_wait.result c.args.seat.now first
    c.look_at_wait.new.seat c.if-u-t.false
    (named c.args.p.0 c.args.seat.now first c.in-Some.is c.see_owner-first.ensures.log) c.look_at_wait.ensures.log
