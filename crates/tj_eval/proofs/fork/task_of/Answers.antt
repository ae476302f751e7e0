use Rattle.std.proofs.Common.{◌-◌, ◌++◌, map, length, replicate, pos, ap, rules}
use Rattle.tj_base.specs.declared.value.Pay.TheVariants as pay
use Rattle.tj_syntax.specs.View.{statement}
use Rattle.tj_eval.proofs.Passed.{length-passed}
use Rattle.tj_eval.proofs.Views.{begins-block}
use Rattle.tj_eval.proofs.fork.task_of.Goals as goal

pub returns : goal.returns
returns c = λ values e n. let rest = begins-block (λ block. map statement block.now) c.args.decl.now.body
    c.deref.result.now c.new.result.items c.deref.ensures.value c.new.ensures.items in
    let zeros = ap (λ z. z ++ replicate (length c.args.decl.now.vars.items - length z) (pay.Num (pos 0))) e in
    let many = length-passed 1 values in
    search (rules, rest, zeros, many)
