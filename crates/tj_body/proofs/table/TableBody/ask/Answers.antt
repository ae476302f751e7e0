use Rattle.std.proofs.Common.{length, nat_lt, nat_le, ◌≡◌, true, leb-true, subst}
use Rattle.std.specs.Cmp.{second_so}
use Rattle.tj_body.specs.Asks.{most_passed}
use Rattle.tj_body.specs.Table.{is_row}
use Rattle.tj_body.proofs.table.TableBody.ask.Goals as goal

-- a row of a table passes few enough places
pub fork-requires : goal.fork-requires
fork-requires c = let lists = length c.args.self.now.lists.now in
    let row = subst (λ z. is_row lists z ≡ true) c.in-Fork.is c.requires.row in
    let l = nat_lt c.in-Fork.list lists in let f = nat_le (length c.in-Fork.pass) most_passed in
    record { few = leb-true (length c.in-Fork.pass) most_passed (second_so l f row) }
