use Rattle.tj_told.proofs.Climbing.{looks_on, observes_on}
use Rattle.tj_told.proofs.SeenValues.{named_found}
use Rattle.tj_told.proofs.values.value_if_named.Goals as goal

pub value_at-requires-clause-seat : goal.value_at-requires-clause-seat
value_at-requires-clause-seat g c κs within = let n = c.has_name in
    observes_on c.args.laid.now c.args.seat.now n.new.seat c.requires.seat n.ensures.seat

pub returns-clause-seat : goal.returns-clause-seat
returns-clause-seat g c = let n = c.has_name in let v = c.value_at in
    looks_on c.args.seat.now n.new.seat v.new.seat n.ensures.seat v.ensures.seat

pub returns-clause-value : goal.returns-clause-value
returns-clause-value g c = let n = c.has_name in let v = c.value_at in
    named_found n.new.seat.me.0 v.new.seat.me.0 c.args.c.0 c.args.wanted.now
    (n.ensures.seen c.if-not-has_name.false) v.ensures.seat.more v.result v.ensures.value
