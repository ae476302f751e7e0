use Rattle.std.proofs.Common.{◌≡◌, ◌≤◌, ◌+◌, ◌++◌, length, take, arith}
use Rattle.std.proofs.lemmas.Grind.{common_steps}
use Rattle.std.proofs.lemmas.List.{length-take-le}
use Rattle.tj_ports.proofs.Known.{Consumes-more, Consumes-still}
use Rattle.tj_ports.proofs.source.read_all.Goals as goal

pub returns-in_err-count-clause-taken : goal.returns-in_err-count-clause-taken
returns-in_err-count-clause-taken g c =
    let bytes = c.loop-buffer.bytes.items in
    let at_most : length bytes ≤ c.args.limit + 1 =
    grind (arith, c.loop-buffer.invariant.most, c.loop-buffer.invariant.in_range, c.loop-buffer.bytes.ok.0) in
    (bytes, at_most, Consumes-still _ _ _ bytes c.loop-buffer.invariant.taken c.in_err-count.ensures.err)

pub returns-in_err-extend_from_slice-clause-taken : goal.returns-in_err-extend_from_slice-clause-taken
returns-in_err-extend_from_slice-clause-taken g c =
    let bytes = c.loop-buffer.bytes.items in
    let n = c.in_ok-count.count in
    let came = take n c.take.new.into in
    let short : length came ≡ n = length-take-le n c.take.new.into c.in_ok-count.ensures.bound in
    let at_most : length (bytes ++ came) ≤ c.args.limit + 1 =
    grind (
      arith,
      common_steps,
      short,
      c.in_ok-count.ensures.bound,
      c.loop-buffer.invariant.most,
      c.loop-buffer.bytes.ok.0,
    ) in
    (bytes ++ came, at_most, Consumes-more _ _ _ bytes came c.loop-buffer.invariant.taken c.in_ok-count.ensures.taken)
