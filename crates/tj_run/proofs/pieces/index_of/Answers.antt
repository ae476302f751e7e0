use Rattle.tj_run.proofs.Prelude.{cell, get_or, nat_eq, refl, rules, sym, true, ◌∙◌, ◌≡◌}
use Rattle.tj_run.proofs.Cells.PieceLists.{without_here}
use Rattle.tj_run.proofs.pieces.index_of.Goals as goal

pub returns-then-eq-clause-without : goal.returns-then-eq-clause-without
returns-then-eq-clause-without c = let x = get_or c.args.cells.now c.loop-i.i (cell 0) in
    let here : nat_eq c.args.c.0 x.0 ≡ true = search rules in
    sym (c.loop-i.invariant.0
    ∙ without_here c.args.c.0 c.args.cells.now c.loop-i.i x c.loop-i-test.true refl here)
