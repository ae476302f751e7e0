use Rattle.tj_report.proofs.Prelude.{[], ap, arith, name_by, ◌++◌, ◌∙◌, ◌∷◌}
use Rattle.tj_report.proofs.NamesBy.{name_made}
use Rattle.tj_report.proofs.fork_walk.number_of.Goals as goal

pub returns-then-cell-maker : goal.returns-then-cell-maker
returns-then-cell-maker g c =
    let shown = c.args.rest.now.cells in let x = c.cell-cell.result in
    let later = c.if-c-eq0.false in
    let below = c.if-c-drawn.false in
    let all = c.drawn.ensures in
    let made = name_made shown c.requires.named.0 c.requires.named.1 c.args.c x c.cell-cell.ensures
    (omega (arith, later)) in
    (omega (arith, below), made.1 ∙ ap (λ n. name_by shown n ++ x.kid ∷ []) c.if-cell-maker.true)
