use Rattle.std.proofs.Common.{length, nat_lt, nat_le, ◌≡◌, true, leb-true, subst}
use Rattle.std.specs.Cmp.{second_so}
use Rattle.tj_chan.specs.Chats.{most_channels}
use Rattle.tj_chan.specs.ChatTables.{is_chat_row}
use Rattle.tj_chan.proofs.table.TableChat.ask.Goals as goal

-- a row of a table passes few enough channels
pub spawn-requires : goal.spawn-requires
spawn-requires c = let lists = length c.args.self.now.lists.now in
    let row = subst (λ z. is_chat_row lists z ≡ true) c.in-Spawn.is c.requires.row in
    let l = nat_lt c.in-Spawn.list lists in let f = nat_le (length c.in-Spawn.pass) most_channels in
    record { few = leb-true (length c.in-Spawn.pass) most_channels (second_so l f row) }
