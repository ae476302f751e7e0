use Rattle.std.proofs.Common.{◌≡◌, rules}
use Rattle.std.proofs.lemmas.Fn.{always_returns_same}
use Rattle.std.proofs.lemmas.List.Sorted.{IsNonDecreasingBy-from_sort_by_key}
use Rattle.tj_forest.proofs.CausesSorted.{causes_sorted}
use Rattle.tj_findings.specs.Scenes.{view}
use Rattle.tj_findings.specs.declared.forest.Tree.{Tree}
use Rattle.tj_forest.proofs.causes.causes_of.Goals as goal

pub returns : goal.returns
returns c =
    let sort = c.in_ok-sort_by_key.ensures in
    causes_sorted (view c.args.scene.now).places c.args.lookups.now.lines.now c.args.cycles.now _ _
    c.in_ok-trees.ensures sort.permutation
    (IsNonDecreasingBy-from_sort_by_key (λ (t : Tree). t.rank) _ sort.sorted (λ a r q k. search rules))
    (sort.stable (λ (t : Tree). t.rank)
    (always_returns_same _ (λ a r. r ≡ a.0.now.rank) _ (λ a r q k. search rules)))
