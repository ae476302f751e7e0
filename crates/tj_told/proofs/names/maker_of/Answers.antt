use Rattle.std.proofs.Common.{arith}
use Rattle.tj_told.proofs.Climbing.{both_looked, grows_by, maker_seen}
use Rattle.tj_told.proofs.names.maker_of.Goals as goal

pub link_cell-requires : goal.link_cell-requires
link_cell-requires g c = let s = c.see_once-parent.ensures.sees.small in omega arith

pub returns-clause-seat : goal.returns-clause-seat
returns-clause-seat g c = let p = c.see_once-parent in let k = c.see_once-kid in
    both_looked c.args.laid.now.cells c.args.c.0 p.result k.result c.args.seat.now p.new.seat k.new.seat p.ensures.seat
    p.ensures.sees k.ensures.seat k.ensures.sees (grows_by p.ensures.log.0) (grows_by k.ensures.log.0)

pub returns-clause-maker : goal.returns-clause-maker
returns-clause-maker g c = let p = c.see_once-parent in let k = c.see_once-kid in
    maker_seen c.args.laid.now.cells c.args.c.0 p.result k.result c.args.seat.now p.new.seat k.new.seat p.ensures.seat
    p.ensures.sees k.ensures.seat k.ensures.sees (grows_by p.ensures.log.0) (grows_by k.ensures.log.0)
    c.link_cell.result.0 c.link_cell.ensures
