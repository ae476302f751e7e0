use Rattle.std.proofs.Common.{arith, ◌≤◌, ◌+◌}
use Rattle.tj_chan.specs.ChanBodies.{most_row_places}
use Rattle.tj_chan.proofs.RowLoops.{read_bounds}
use Rattle.tj_chan.proofs.body.ChanBody.send.Goals as goal

pub overflow_add-set : goal.overflow_add-set
overflow_add-set g c = let b = c.args.self.now in let r = c.in-Some.row in
    let f = read_bounds b.places c.args.c r c.items.ensures c.in-Some.ensures.row c.requires.rows c.requires.places in
    let p : r.base + r.items ≤ b.places = f.placed in let s : r.sent ≤ r.items = f.sent in
    let m : b.places ≤ most_row_places = c.requires.room in omega arith
