use Rattle.std.proofs.Common.{[], arith, refl, sym, subst}
use Rattle.tj_body.specs.Asks.{IsFresh}
use Rattle.tj_syntax.specs.View as view
use Rattle.tj_eval.specs.Bodies.{script_places, script_awaits, script_left}
use Rattle.tj_eval.specs.Inner.Laws.{fresh-main}
use Rattle.tj_eval.proofs.Programs.{few-script}
use Rattle.tj_eval.proofs.body.main_body.Goals as goal

pub main_task-requires : goal.main_task-requires
main_task-requires c = let is = c.requires.script.1 in (is.main, is.has_main)

pub returns-clause-main : goal.returns-clause-main
returns-clause-main c = let d = c.main_task.result.now in
    (view.task d, c.main_task.ensures, (c.in_ok-body.ensures [] c.new.ensures.items refl))

pub returns-clause-fresh : goal.returns-clause-fresh
returns-clause-fresh c = let script = view.script c.args.script.now in let d = view.task c.main_task.result.now in
    subst (λ b. IsFresh script_places script_awaits script_left 1 b)
    (sym (c.in_ok-body.ensures [] c.new.ensures.items refl))
    (fresh-main script c.args.steps d (few-script c.requires.script.0 script c.requires.script.1)
    (omega (arith, c.requires.steps)))
