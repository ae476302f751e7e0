use Rattle.std.proofs.Common.{◌≡◌, ◌++◌, map, drop}
use Rattle.tj_syntax.specs.View as view
use Rattle.tj_eval.specs.Sizes.{size_of}
use Rattle.tj_eval.specs.Stands.{within}
use Rattle.tj_eval.proofs.sizes.+count.Given as goal

-- what was counted and what is left are the block's
abbrev pub invariant-count_block-loop-s : goal.invariant-count_block-loop-s
invariant-count_block-loop-s l =
    let left = map view.statement (drop l.s-index l.body.stmts.items) in
    l.sizes.items ++ map size_of (within (view.statements_of left))
    ≡ l.fn.sizes.items ++ map size_of (within (view.block l.body))
