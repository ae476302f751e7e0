use Rattle.tj_report.proofs.Prelude.{List, None, Option, RestCell, Some, ap, arith, length, some_is, subst, sym, ◌<◌, ◌∙◌}
use Rattle.tj_report.proofs.Prelude.{◌≡◌, Rec, ℕ}
use Rattle.tj_base.specs.declared.cell.CellId.{CellId}
use Rattle.tj_report.specs.Inner.AwaitedCells.{IsOwnOf, awaited_by}
use Rattle.tj_report.proofs.CellIndexes.{within}
use Rattle.tj_report.proofs.awaited_cells.owner_at.Goals as goal

-- a cell that isn't there shows nothing
beyond : {B : Type 0} (shown : List RestCell) (records : List (Option (Rec B))) (d : CellId) → (d.0 < length shown → ⊥)
    → (a : Option CellId) → a ≡ Some d → IsOwnOf shown records a None
beyond shown records d far None e = absurd (cc)
beyond shown records d far (Some c) e = λ x s. absurd (far (subst (λ (z : CellId). z.0 < length shown)
    (some_is c d e) (within shown c.0 x s)))

pub returns : goal.returns
returns g c r e =
    let rest = c.args.rest.now in
    let many = c.drawn.ensures.all in
    let past = c.if-c-drawn.false in
    let same = some_is c.in-Some.r.now r (c.in-Some.ensures.record ∙ e) in
    beyond rest.cells rest.records c.in-Some-awaited.c (λ l. omega arith) (awaited_by r)
    (ap awaited_by (sym same) ∙ sym c.in-Some-awaited.ensures)
