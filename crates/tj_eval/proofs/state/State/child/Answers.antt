use Rattle.std.proofs.Common.{length, ap, arith}
use Rattle.tj_syntax.specs.View.{argument}
use Rattle.tj_eval.proofs.Blocks.{length-shown, length-references}
use Rattle.tj_eval.proofs.state.State.child.Goals as goal

pub task_of-requires : goal.task_of-requires
task_of-requires c = let p = c.in_ok-passed.ensures in
    let n = length-shown argument c.deref.result.now c.args.args.now p.0 p.1 in
    let m = length-references p.0 in let k = ap length p.3 in
    omega (arith, n, m, k, ap length c.items-n.ensures, c.requires.few)
