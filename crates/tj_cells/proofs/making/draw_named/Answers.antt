use Rattle.tj_cells.proofs.Prelude.{arith}
use Rattle.tj_cells.proofs.CallLogs.{drawn_made}
use Rattle.tj_cells.proofs.MakingViews.{draws_named, may_kid, may_parent}
use Rattle.tj_cells.proofs.making.draw_named.Goals as goal

pub put_once-requires-clause-may : goal.put_once-requires-clause-may
put_once-requires-clause-may g c κs within =
    may_parent c.requires.may c.in-Some.ensures.found c.link_word.result (omega (arith, c.link_word.ensures))

pub put_once-requires-2-clause-may : goal.put_once-requires-2-clause-may
put_once-requires-2-clause-may g c κs within =
    may_kid c.requires.may c.in-Some.ensures.found c.put_once.new.seat.me.0 c.link_word.result c.put_once.ensures.view

pub returns-clause-drawn : goal.returns-clause-drawn
returns-clause-drawn g c =
    draws_named c.requires.may c.in-Some.ensures.found c.put_once.new.seat.me.0 c.put_once-2.new.seat.me.0
    c.link_word.result (omega (arith, c.link_word.ensures)) c.put_once.ensures.view c.put_once-2.ensures.view

pub returns-clause-log_drawn : goal.returns-clause-log_drawn
returns-clause-log_drawn g c =
    drawn_made c.args.seat.now c.draw_one.new.seat c.put_once.new.seat c.put_once-2.new.seat c.args.t.0 c.args.kid
    c.args.sort c.in-Some.c.0 c.link_word.result c.in-Some.ensures.log_found c.put_once.ensures.log
    (omega (arith, c.link_word.ensures)) c.put_once-2.ensures.log
