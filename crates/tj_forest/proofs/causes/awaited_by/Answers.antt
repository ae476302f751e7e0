use Rattle.std.proofs.Common.{◌+◌, ◌-◌, ◌<◌, ◌∷◌, ◌≡◌, ap, arith, length, map, refl, ◌∙◌}
use Rattle.std.specs.Prelude.{drop}
use Rattle.std.proofs.lemmas.List.{drop_more}
use Rattle.std.proofs.lemmas.Option.{get_or_from_slice_get, slice_get_read}
use Rattle.tj_forest.proofs.LineNumbers.{entered_more}
use Rattle.tj_forest.proofs.causes.awaited_by.Goals as goal

pub loop-number-preserved : goal.loop-number-preserved
loop-number-preserved c =
    let ls = c.args.cycles.now in
    let k = c.loop-number.number in
    let l = c.index-cycles-number.result in
    let few = c.loop-number.invariant.1 in
    let some = c.loop-number-test.true in
    let less : k - 1 < length ls = omega arith in
    let next : k - 1 + 1 ≡ k = omega arith in
    let at = slice_get_read ls (length ls) (k - 1) l refl less c.index-cycles-number.is in (
      entered_more (λ links. map (λ k. k.cell) links) ls (k - 1) k l c.loop-number.numbers c.enter_cells.new.numbers
          (drop_more ls (k - 1) l less ∙ ap (λ z. z ∷ drop (k - 1 + 1) ls) (get_or_from_slice_get ls (k - 1) l l at)
          ∙ ap (λ m. l ∷ drop m ls) next) next c.loop-number.invariant.0 c.in_ok-enter_cells.ensures,
      omega arith,
    )
