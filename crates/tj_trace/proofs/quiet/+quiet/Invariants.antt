use Rattle.std.proofs.Common.{◌≡◌, map, drop}
use Rattle.tj_syntax.specs.View as view
use Rattle.tj_syntax.specs.Within.{within}
use Rattle.tj_trace.specs.Inner.Quiet.{are_quiet}
use Rattle.tj_trace.proofs.quiet.+quiet.Given as goal

-- what is left is as quiet as the block
abbrev pub invariant-is_quiet_block-loop-statement : goal.invariant-is_quiet_block-loop-statement
invariant-is_quiet_block-loop-statement l =
    are_quiet (within (view.statements_of (map view.statement (drop l.statement-index l.block.stmts.items))))
    ≡ are_quiet (within (view.block l.block))
