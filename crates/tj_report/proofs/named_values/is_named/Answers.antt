use Rattle.tj_report.proofs.Prelude.{[], ap, arith, name_by, sym, ◌∙◌, ◌≡◌}
use Rattle.tj_report.proofs.NamesBy.{name_made, name_root}
use Rattle.tj_report.proofs.NamedCells.{empty_is, none_left, other_last, up}
use Rattle.tj_report.proofs.named_values.is_named.Goals as goal

pub returns-in_default : goal.returns-in_default
returns-in_default g c = let n = c.requires.named in (
  λ f. absurd (cc),
  λ e. absurd (none_left c.args.rest.now.cells n.0 n.1 c.loop-at.at c.cell-cell.result c.cell-cell.ensures
      c.loop-at-test.true c.loop-at.left.now c.in_default.ensures.none (c.loop-at.invariant.1.0 e)),
)

pub returns-then-last-cell : goal.returns-then-last-cell
returns-then-last-cell g c = let n = c.requires.named in (
  λ f. absurd (cc),
  λ e. absurd (other_last c.args.rest.now.cells n.0 n.1 c.loop-at.at c.cell-cell.result c.cell-cell.ensures
      c.loop-at-test.true c.loop-at.left.now c.in-Some.before.now c.in-Some.last c.in-Some.ensures.some
      c.if-last-cell.true (c.loop-at.invariant.1.0 e)),
)

pub loop-at-smaller : goal.loop-at-smaller
loop-at-smaller g c =
    (name_made c.args.rest.now.cells c.requires.named.0 c.requires.named.1 c.loop-at.at c.cell-cell.result
    c.cell-cell.ensures c.loop-at-test.true).0

pub loop-at-preserved : goal.loop-at-preserved
loop-at-preserved g c =
    let n = c.requires.named in let i = c.loop-at.invariant in let within = i.0 in
    let made = name_made c.args.rest.now.cells n.0 n.1 c.loop-at.at c.cell-cell.result c.cell-cell.ensures
    c.loop-at-test.true in
    let low = made.0 in
    let u = up c.args.rest.now.cells n.0 n.1 c.loop-at.at c.cell-cell.result c.cell-cell.ensures
    c.loop-at-test.true c.loop-at.left.now c.in-Some.before.now c.in-Some.last c.in-Some.ensures.some
    c.if-last-cell.false in
    (omega arith, (λ e. u.0 (i.1.0 e), λ e. i.1.1 (u.1 e)))

pub returns : goal.returns
returns g c =
    let n = c.requires.named in let i = c.loop-at.invariant in let shown = c.args.rest.now.cells in
    let done = c.loop-at-test.false in
    let root : name_by shown c.loop-at.at ≡ [] = ap (name_by shown) (omega arith) ∙ name_root shown n.0 n.1 in
    let empty = empty_is c.loop-at.left.now c.depth.result c.depth.ensures in (
      λ t. i.1.1 (root ∙ empty.0 t),
      λ e. empty.1 (sym root ∙ i.1.0 e),
    )
