use Rattle.std.proofs.Common.{◌∙◌, ap, length, sym}
use Rattle.std.proofs.lemmas.List.{length-map}
use Rattle.tj_syntax.specs.View as view
use Rattle.tj_eval.proofs.NumbersOpened.{on_ok_as, opened_block}
use Rattle.tj_eval.proofs.Views.{listed_block}
use Rattle.tj_eval.proofs.numbers.Numbers.open.Goals as goal

pub returns : goal.returns
returns c = let body = c.args.body.now in
    let count = c.len.ensures ∙ body.stmts.ok.0 ∙ sym (length-map body.stmts.items view.statement)
    ∙ ap length (sym (listed_block body)) in
    on_ok_as c.open_run.result (opened_block c.args.own.now c.args.n c.len.result (view.block body) c.requires count
    c.args.self.now c.open_run.new.self) c.open_run.ensures
