-- The first parsed task of that name is the task `main`.
use Rattle.std.proofs.Common.{◌∙◌, sym}
use Rattle.std.proofs.lemmas.Option.{slice_get_within}
use Rattle.tj_syntax.specs.View as view
use Rattle.tj_eval.proofs.Programs.{main_at, main_there}
use Rattle.tj_eval.proofs.body.main_number.Goals as goal

pub unreachable-requires : goal.unreachable-requires
unreachable-requires c = main_there c.args.script.now c.as_slice.result.now c.main_among.result c.requires.0
    c.as_slice.ensures.value c.main_among.ensures c.requires.1 c.in-None.is

pub returns-clause-index : goal.returns-clause-index
returns-clause-index c = slice_get_within (view.script c.args.script.now) c.in-Some.f c.requires.0
    (sym (main_at c.args.script.now c.as_slice.result.now c.main_among.result c.in-Some.f c.as_slice.ensures.value
    c.main_among.ensures c.in-Some.is)
    ∙ c.requires.1)

pub returns-clause-main : goal.returns-clause-main
returns-clause-main c = main_at c.args.script.now c.as_slice.result.now c.main_among.result c.in-Some.f
    c.as_slice.ensures.value c.main_among.ensures c.in-Some.is
