use Rattle.tj_cells.proofs.Prelude.{eq-eqb, later_on, ne_eqb, refl, sym, true, ◌-◌, ◌∙◌, ◌≡◌, ◌≢◌}
use Rattle.std.proofs.Common.{false}
use Rattle.tj_words.specs.SeatViews.TreeReads.{MayLook}
use Rattle.tj_cells.proofs.ChildJumps.{jumps_so}
use Rattle.tj_cells.proofs.making.child_jump.Goals as goal

pub returns-then-saturating_sub-clause-jump : goal.returns-then-saturating_sub-clause-jump
returns-then-saturating_sub-clause-jump g c =
    let near = c.see_node-near in
    let far = c.see_node-far in
    let same : c.args.node.depth - near.result.depth ≡ near.result.depth - far.result.depth = sym
    c.saturating_sub.ensures ∙ (c.if-saturating_sub.true ∙ c.saturating_sub-2.ensures) in
    jumps_so c.args.t.0 c.args.node near.result far.result c.args.seat.now near.new.seat far.new.seat
    (MayLook c.args.laid.now c.args.seat.now) (MayLook c.args.laid.now near.new.seat)
    (MayLook c.args.laid.now far.new.seat) c.requires.shown near.ensures.shown far.ensures.shown
    near.ensures.goes_on far.ensures.goes_on
    near.result.jump.0 true
    (eq-eqb (c.args.node.depth - near.result.depth) (near.result.depth - far.result.depth) same) refl

pub returns-then-saturating_sub-clause-later : goal.returns-then-saturating_sub-clause-later
returns-then-saturating_sub-clause-later g c = later_on c.args.seat.now c.see_node-near.new.seat c.see_node-far.new.seat
    c.see_node-near.ensures.later c.see_node-far.ensures.later

pub returns-else-saturating_sub-clause-jump : goal.returns-else-saturating_sub-clause-jump
returns-else-saturating_sub-clause-jump g c =
    let near = c.see_node-near in
    let far = c.see_node-far in
    let same : c.args.node.depth - near.result.depth ≢ near.result.depth - far.result.depth = λ e.
    c.if-saturating_sub.false (c.saturating_sub.ensures ∙ (e ∙ sym c.saturating_sub-2.ensures)) in
    jumps_so c.args.t.0 c.args.node near.result far.result c.args.seat.now near.new.seat far.new.seat
    (MayLook c.args.laid.now c.args.seat.now) (MayLook c.args.laid.now near.new.seat)
    (MayLook c.args.laid.now far.new.seat) c.requires.shown near.ensures.shown far.ensures.shown
    near.ensures.goes_on far.ensures.goes_on
    c.args.t.0 false
    (ne_eqb (c.args.node.depth - near.result.depth) (near.result.depth - far.result.depth) same) refl

pub returns-else-saturating_sub-clause-later : goal.returns-else-saturating_sub-clause-later
returns-else-saturating_sub-clause-later g c = later_on c.args.seat.now c.see_node-near.new.seat c.see_node-far.new.seat
    c.see_node-near.ensures.later c.see_node-far.ensures.later

pub returns-then-saturating_sub-clause-log : goal.returns-then-saturating_sub-clause-log
returns-then-saturating_sub-clause-log g c = let near = c.see_node-near in let far = c.see_node-far in
    (near.result, far.result, near.new.seat, near.ensures.log, far.ensures.log)

pub returns-else-saturating_sub-clause-log : goal.returns-else-saturating_sub-clause-log
returns-else-saturating_sub-clause-log g c = let near = c.see_node-near in let far = c.see_node-far in
    (near.result, far.result, near.new.seat, near.ensures.log, far.ensures.log)
