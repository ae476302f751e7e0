use Rattle.tj_report.proofs.Prelude.{List, Some, [], arith, get_or, length, refl, suc, zero, ℕ, ◌<◌, ◌∙◌, ◌∷◌, ◌≡◌}
use Rattle.std.proofs.Common.{length-set}
use Rattle.std.specs.Prelude.{slice_get}
use Rattle.tj_report.proofs.CellRanks.{ranks_all, ranks_more}
use Rattle.tj_report.proofs.awaited_cells.ranks_of.Goals as goal

-- what stands at an index below the length
here : (order : List ℕ) (i : ℕ) → i < length order → slice_get order i ≡ Some (get_or order i 0)
here [] i l = absurd (omega arith)
here (x ∷ xs) zero l = refl
here (x ∷ xs) (suc i) l = here xs i (omega arith)

pub loop-i-preserved : goal.loop-i-preserved
loop-i-preserved c =
    let l = c.loop-i in let order = c.args.order.now in let x = get_or order l.i 0 in
    let long = l.invariant.0 in
    let inside = c.requires l.i 0 c.loop-i-test.true in (
      length-set l.ranks.items x (Some l.i) ∙ long,
      ranks_more l.i x order l.ranks.items _ (here order l.i c.loop-i-test.true) (omega arith) refl l.invariant.1,
    )

pub returns : goal.returns
returns c =
    let l = c.loop-i in
    let ended = c.loop-i-test.false in
    ranks_all l.i c.args.order.now l.ranks.items (omega arith) l.invariant.1
