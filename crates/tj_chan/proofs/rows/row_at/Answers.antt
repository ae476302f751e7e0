use Rattle.std.proofs.Common.{arith}
use Rattle.tj_chan.proofs.RowLoops.{row_there, row_past}
use Rattle.tj_chan.proofs.rows.row_at.Goals as goal

pub returns-then-at-rows-clause-row : goal.returns-then-at-rows-clause-row
returns-then-at-rows-clause-row c = row_there c.args.rows.now c.args.place _ c.requires c.if-at-rows.true

pub returns-else-at-rows-clause-row : goal.returns-else-at-rows-clause-row
returns-else-at-rows-clause-row c = row_past c.args.rows.now c.args.place (omega (arith, c.if-at-rows.false))
