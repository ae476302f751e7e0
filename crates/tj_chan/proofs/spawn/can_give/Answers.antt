use Rattle.std.proofs.Common.{◌≡◌, ◌+◌, true, drop, get_or, sym, subst}
use Rattle.tj_chan.specs.ChanBodies as bodies
use Rattle.tj_chan.proofs.RowLoops.{part_leads, give_next}
use Rattle.tj_chan.proofs.spawn.can_give.Goals as goal

pub loop-place-preserved : goal.loop-place-preserved
loop-place-preserved c =
    let left = c.loop-place.left in let give = c.args.give.now in let i = c.loop-place.place-index in
    let rows = c.args.rows.now in
    let holds : bodies.has_end (bodies.row_at left (get_or give i 0)) ≡ true =
    sym (subst (λ z. true ≡ bodies.has_end (bodies.row_at z (get_or give i 0))) c.items.ensures
    c.if-not-has_end.ensures) in
    subst (λ z. bodies.AreRows z × (bodies.can_give rows give ≡ bodies.can_give z (drop (i + 1) give)))
    (sym c.without_end-left.ensures) (
      part_leads left (get_or give i 0) c.loop-place.invariant.0,
      give_next rows left give i c.loop-place-test.true holds c.loop-place.invariant.1,
    )
