use Rattle.std.proofs.Common.{◌≡◌, ◌++◌, map, drop}
use Rattle.tj_syntax.specs.View as trees
use Rattle.tj_syntax.specs.Within.{within}
use Rattle.tj_findings.proofs.statements.+add.Given as goal

-- what was added and what is left are the block's
abbrev pub invariant-add_block-loop-statement : goal.invariant-add_block-loop-statement
invariant-add_block-loop-statement l =
    let left = map trees.statement (drop l.statement-index l.block.stmts.items) in
    map trees.statement (map (λ q. q.now) l.list.items) ++ within (trees.statements_of left)
    ≡ map trees.statement (map (λ q. q.now) l.fn.list.items) ++ within (trees.block l.block)
