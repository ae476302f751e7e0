use Rattle.std.proofs.Common.{◌≡◌, refl, arith}
use Rattle.tj_ready.proofs.Steps.{one_end_more}
use Rattle.tj_ready.proofs.locked.LockedPoolPool.make.Goals as goal

pub loop-i-preserved : goal.loop-i-preserved
loop-i-preserved g c =
    let inv = c.loop-i.invariant in
    let more = one_end_more (λ end. end.cells ≡ c.args.cells) _ _ _ c.loop-i._i c.in_ok-push.ensures.items inv.0 refl
    inv.2 in
    let below = c.loop-i-test.true in
    (more.0, omega arith, more.1)
