use Rattle.std.proofs.Common.{arith, ◌≡◌, ◌+◌, ◌<◌, ◌≤◌, length, subst, sym}
use Rattle.std.specs.Prelude.{IfOk}
use Rattle.tj_chan.specs.ChatTables.{chat_rows_of}
use Rattle.tj_body.specs.Inner.RowListLaws.{row_passes}
use Rattle.tj_chan.specs.Inner.ChatTableLaws.{chat_under_way}
use Rattle.tj_body.proofs.Rows.{StandsAt, stands_at}
use Rattle.tj_chan.proofs.ChatRows.{chat_row-at, chat_ask-past}
use Rattle.tj_chan.proofs.table.TableChatChatter.next.Goals as goal
use Rattle.tj_chan.proofs.table.TableChatChatter.next.Goals.{After-index-rows-at}

-- the row at the index is one of the chatter's rows
at_row : (c : After-index-rows-at)
    → StandsAt (chat_rows_of c.args.self.now) c.args.self.now.row c.index-rows-at.result
at_row c = let l : c.args.self.now.row < length c.rows-rows.result.now = omega arith in
    stands_at c.rows-rows.ensures c.args.self.now.row c.index-rows-at.result l c.index-rows-at.is

pub ask-requires : goal.ask-requires
ask-requires c = let b = c.args.self.now in let u = chat_under_way b c.args.a c.requires.fits in
    record { row = row_passes u b.row c.index-rows-at.result (at_row c).0 (sym (at_row c).1) }

pub returns-then-at-rows-clause-ask : goal.returns-then-at-rows-clause-ask
returns-then-at-rows-clause-ask c = let b = c.args.self.now in let r = c.index-rows-at.result in
    let at = (goal.at.returns-then-at-rows-clause-ask c).After-index-rows-at in
    let n = b.channels + c.channels_added.result in
    let same = chat_row-at b b.row (b.row + 1) n r (at_row at) in
    subst (λ z. IfOk c.ask.result (λ ask. ask ≡ z)) same c.ask.ensures

pub returns-else-at-rows-clause-ask : goal.returns-else-at-rows-clause-ask
returns-else-at-rows-clause-ask c = let b = c.args.self.now in
    let l : length c.rows-rows.result.now ≤ b.row = omega arith in
    let past = subst (λ z. length z ≤ b.row) c.rows-rows.ensures l in
    chat_ask-past b b.row past
