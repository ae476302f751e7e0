use Rattle.std.proofs.Common.{◌+◌, ◌-◌, ◌<◌, ◌∷◌, ◌≡◌, ap, arith, get_or, length, ◌∙◌}
use Rattle.std.specs.Prelude.{drop}
use Rattle.std.proofs.lemmas.List.{drop_more}
use Rattle.tj_forest.proofs.LineNumbers.{entered_more}
use Rattle.tj_findings.specs.Forests.{names_of_cause}
use Rattle.tj_forest.proofs.causes.numbers_of.Goals as goal

pub loop-number-preserved : goal.loop-number-preserved
loop-number-preserved c =
    let ls = c.args.trees.now in
    let k = c.loop-number.number in
    let l = c.index-trees-number.result in
    let few = c.loop-number.invariant.1 in
    let some = c.loop-number-test.true in
    let less : k - 1 < length ls = omega arith in
    let next : k - 1 + 1 ≡ k = omega arith in
    let x = get_or ls (k - 1) l in (
      entered_more (λ t. names_of_cause t.root) ls (k - 1) k x c.loop-number.numbers c.enter_cause.new.numbers
          (drop_more ls (k - 1) l less ∙ ap (λ m. x ∷ drop m ls) next) next c.loop-number.invariant.0
          c.in_ok-enter_cause.ensures,
      omega arith,
    )
