-- A script may be lent to threads.
use denote.Param.Send.{IsSync, sendable}
use Rattle.std.proofs.Crossing.{crosses}
use Rattle.tj_syntax.proofs.expr.Expr.TheLaws.TheKnot.{sync-Expr}
use Rattle.tj_syntax.proofs.stmt.Stmt.TheLaws.TheKnot.{sync-Stmt, sync-Block}
use Rattle.tj_syntax.specs.contracts.expr.Expr as expr
use Rattle.tj_syntax.specs.contracts.stmt.Stmt as stmt
use Rattle.tj_syntax.specs.contracts.stmt.Block as block
use Rattle.tj_syntax.specs.contracts.script.Script as script

pub expr_sync : IsSync (expr.the_field).row
expr_sync = search (sendable, crosses, sync-Expr) depth 40

pub stmt_sync : IsSync (stmt.the_field).row
stmt_sync = search (sendable, crosses, sync-Stmt, expr_sync) depth 40

pub block_sync : IsSync (block.the_field).row
block_sync = search (sendable, crosses, sync-Block, expr_sync) depth 40

pub script_sync : IsSync (script.the_field).row
script_sync = search (sendable, crosses, block_sync) depth 40
