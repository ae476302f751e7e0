use Rattle.tj_syntax.specs.View as view
use Rattle.tj_eval.proofs.Ready.{own_sizes, sizes_there}
use Rattle.tj_eval.proofs.placed.home_of.Goals as goal

pub of_task-requires : goal.of_task-requires
of_task-requires c = sizes_there (view.script c.args.script.now) c.args.sizes.now c.requires.sizes c.args.f
    c.requires.declared

pub returns-clause-home : goal.returns-clause-home
returns-clause-home c = λ task e. record {
  is_declared = e;
  own = own_sizes (view.script c.args.script.now) c.args.sizes.now c.requires.sizes c.args.f task
      c.of_task.result.now e c.of_task.ensures;
  sizes = c.requires.sizes;
}
