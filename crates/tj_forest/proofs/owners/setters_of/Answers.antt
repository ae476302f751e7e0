use Rattle.std.proofs.Common.{◌+◌, ◌-◌, ◌<◌, ◌∷◌, ◌≡◌, ap, arith, length, refl, ◌∙◌}
use Rattle.std.specs.Prelude.{drop}
use Rattle.std.proofs.lemmas.List.{drop_more}
use Rattle.std.proofs.lemmas.Option.{get_or_from_slice_get, slice_get_read}
use Rattle.tj_forest.proofs.Setters.{setters_more}
use Rattle.tj_forest.proofs.owners.setters_of.Goals as goal

pub loop-number-preserved : goal.loop-number-preserved
loop-number-preserved c =
    let ls = c.args.lines.now in
    let k = c.loop-number.number in
    let l = c.index-lines-number.result in
    let few = c.loop-number.invariant.1 in
    let some = c.loop-number-test.true in
    let less : k - 1 < length ls = omega arith in
    let next : k - 1 + 1 ≡ k = omega arith in
    let at = slice_get_read ls (length ls) (k - 1) l refl less c.index-lines-number.is in (
      setters_more ls (k - 1) k l c.loop-number.setters c.enter_setter.new.numbers at
          (drop_more ls (k - 1) l less ∙ ap (λ z. z ∷ drop (k - 1 + 1) ls) (get_or_from_slice_get ls (k - 1) l l at)
          ∙ ap (λ m. l ∷ drop m ls) next) c.loop-number.invariant.0 c.in_ok-enter_setter.ensures,
      omega arith,
    )
