use Rattle.std.proofs.Common.{◌≡◌, [], ◌∷◌, map, decimal}
use Rattle.tj_core.proofs.Journals.Words.{none_named}
use Rattle.tj_core.proofs.line.of_three.Goals as goal

pub returns-clause-none : goal.returns-clause-none
returns-clause-none c =
    let e0 = c.in_ok-cell.ensures.found.0 in
    let e1 = c.in_ok-cell-2.ensures.found.0 in
    let same : map decimal (c.in_ok-cell.field-0.0 ∷ c.in_ok-cell-2.field-0.0 ∷ [])
    ≡ c.args.t.now ∷ c.args.p.now ∷ [] = cc in
    none_named c.with_two_cells.result c.args.verb.now _ _
    (c.in_ok-cell.ensures.found.1, (c.in_ok-cell-2.ensures.found.1, tt)) same c.with_two_cells.ensures.none
