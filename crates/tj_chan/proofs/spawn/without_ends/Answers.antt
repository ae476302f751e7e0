use Rattle.std.proofs.Common.{◌≡◌, drop, ◌+◌, sym, subst, get_or}
use Rattle.tj_chan.specs.ChanBodies as bodies
use Rattle.tj_chan.proofs.RowLoops.{part_leads, part_next}
use Rattle.tj_chan.proofs.spawn.without_ends.Goals as goal

pub loop-place-preserved : goal.loop-place-preserved
loop-place-preserved c =
    let left = c.loop-place.left in let give = c.args.give.now in let i = c.loop-place.place-index in
    subst (λ z. bodies.AreRows z × (bodies.without_ends c.args.rows give ≡ bodies.without_ends z (drop (i + 1) give)))
    (sym c.without_end-left.ensures) (
      part_leads left (get_or give i 0) c.loop-place.invariant.0,
      part_next c.args.rows left give i c.loop-place-test.true c.loop-place.invariant.1,
    )
