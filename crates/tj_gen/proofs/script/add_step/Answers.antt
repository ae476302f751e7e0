use Rattle.std.proofs.Common.{decimal}
use Rattle.tj_gen.proofs.Lines.{step_pieces}
use Rattle.tj_gen.proofs.script.add_step.Goals as goal

pub returns : goal.returns
returns c =
    rw (
      c.in_ok-extend_from_slice-3.ensures.items,
      c.in_ok-extend_from_slice-2.ensures.items,
      c.in_ok-extend_from_slice.ensures.items,
      c.as_bytes.ensures.value,
      c.format.ensures.text,
    )
    (step_pieces c.args.text.now.items (decimal c.args.i))
