use Rattle.std.proofs.Common.{◌≡◌, [], ◌∷◌, map, decimal}
use Rattle.tj_core.proofs.Journals.Words.{none_named}
use Rattle.tj_core.proofs.line.of_two.Goals as goal

pub returns-clause-none : goal.returns-clause-none
returns-clause-none c =
    let e0 = c.in_ok-cell.ensures.found.0 in
    let same : map decimal (c.in_ok-cell.field-0.0 ∷ []) ≡ c.args.t.now ∷ [] = cc in
    none_named c.with_cell.result c.args.verb.now _ _ (c.in_ok-cell.ensures.found.1, tt) same c.with_cell.ensures.none
