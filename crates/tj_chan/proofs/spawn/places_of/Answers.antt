use Rattle.std.proofs.Common.{sym, get_or}
use Rattle.tj_chan.specs.ChanBodies.{most_row_places}
use Rattle.tj_chan.specs.Inner.RowLaws.{found_bounds}
use Rattle.tj_chan.proofs.spawn.places_of.Goals as goal

pub add_promises-requires : goal.add_promises-requires
add_promises-requires c = let k = get_or c.args.channels.now c.loop-place.place-index 0 in
    found_bounds most_row_places c.args.rows.now k c.in-Some.row c.requires.rows c.requires.room
    (sym c.in-Some.ensures.row)
