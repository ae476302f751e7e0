use Rattle.std.proofs.Common.{◌<◌, length, arith}
use Rattle.tj_lex.proofs.Gaps.{AreApart-join}
use Rattle.tj_lex.proofs.gap.after_gap.Goals as goal

pub loop-further-preserved : goal.loop-further-preserved
loop-further-preserved c =
    let further = c.in-Some.ensures in
    let more : c.loop-further.spot.next < length c.args.text.now =
    omega (arith, further.further, further.spot.within) in
    (further.spot, AreApart-join c.args.text.now _ _ _ more c.loop-further.invariant.1 further.piece)
