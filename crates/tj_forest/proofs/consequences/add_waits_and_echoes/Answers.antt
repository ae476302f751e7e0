use Rattle.std.proofs.Common.{take, sym, ap, ◌∙◌, ◌+◌, ◌∷◌, [], ◌++◌}
use Rattle.std.proofs.lemmas.List.{take_more}
use Rattle.tj_forest.proofs.Planted.{parts_put_more, put_all_append}
use Rattle.tj_findings.specs.Forests.{after_chain, after_cycle, put_all, view_forest}
use Rattle.tj_forest.proofs.consequences.add_waits_and_echoes.Goals as goal

pub loop-at-preserved : goal.loop-at-preserved
loop-at-preserved c = λ fs are.
    let l = c.loop-at in
    let n = l.at in
    let x = c.line-item.result in
    let g = c.args.guide.now in
    let lines = g.lookups.lines.now in
    let waits = after_cycle lines g.members.cycles.now in
    parts_put_more fs (λ k. waits k ++ after_chain lines k) (take n lines) (take (n + 1) lines) x
    (view_forest c.args.forest.now) (view_forest l.forest) (view_forest c.add_after_chain.new.forest)
    (l.invariant fs are) (c.in_ok-add_after_chain.ensures fs are
    ∙ ap (λ z. put_all fs z (after_chain lines x)) (c.in_ok-add_after_cycle.ensures fs are)
    ∙ sym (put_all_append fs (view_forest l.forest) (waits x) (after_chain lines x)))
    (take_more lines n x c.loop-at-test.true ∙ ap (λ z. take n lines ++ z ∷ []) (sym c.line-item.is))
