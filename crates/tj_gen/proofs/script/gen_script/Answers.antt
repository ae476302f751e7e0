use Rattle.std.proofs.Common.{◌∙◌, add-one, arith}
use Rattle.std.specs.List.{flat_map}
use Rattle.tj_gen.specs.Script.{head_lines, ended}
use Rattle.tj_gen.proofs.Lines.{step_more, script_ended}
use Rattle.tj_gen.proofs.script.gen_script.Goals as goal

pub loop-i-preserved : goal.loop-i-preserved
loop-i-preserved c =
    rw (c.in_ok-add_step.ensures, c.loop-i.invariant, add-one c.loop-i.i)
    (step_more (flat_map ended head_lines) c.loop-i.i)

pub returns : goal.returns
returns c =
    c.in_ok-extend_from_slice.ensures.items
    ∙ script_ended c.loop-i.text.items c.loop-i.i c.args.size c.loop-i.invariant (omega arith)
