use Rattle.std.proofs.Common.{◌≡◌, ◌-◌, ◌+◌, ◌≤◌, length, arith, subst, ◌∙◌}
use Rattle.tj_ports.proofs.Known.{Appends-rest, rest_fits, rest_bound}
use Rattle.tj_ports.proofs.sink.put_all.Goals as goal

pub returns-in_err-count-clause-sound : goal.returns-in_err-count-clause-sound
returns-in_err-count-clause-sound g c = λ room has fits.
    let so_far = c.loop-count.invariant.sound room has fits in
    absurd (c.in_err-count.ensures.sound (room - c.loop-count.count) so_far.still
    (rest_fits _ _ c.args.bytes.now c.loop-count.invariant.in_range fits))

pub loop-count-preserved : goal.loop-count-preserved
loop-count-preserved g c =
    let n = c.loop-count.count in
    let m = c.in_ok-count.field-0 in
    let text = c.args.bytes.now in
    let bound : m ≤ length text - n = rest_bound n m text c.in_ok-count.ensures.bound in
    record {
      in_range = omega (arith, c.loop-count.invariant.in_range);
      added = Appends-rest _ _ _ n m text c.loop-count.invariant.added c.in_ok-count.ensures.added;
      counted = omega arith;
      quiet = c.in_ok-count.ensures.quiet ∙ c.loop-count.invariant.quiet;
      sound = λ room has fits.
          let so_far = c.loop-count.invariant.sound room has fits in
          let step = c.in_ok-count.ensures.sound (room - n) so_far.still
          (rest_fits _ _ text c.loop-count.invariant.in_range fits) in
          let same : (room - n) - m ≡ room - (n + m) = omega arith in
          record {
            same = step.same ∙ so_far.same;
            still =
                subst (λ k. g.K.Sink.has_room c.put.new.self k) same step.still;
          };
    }
