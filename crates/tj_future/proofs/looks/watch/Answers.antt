use Rattle.std.proofs.Common.{◌∙◌, subst}
use Rattle.tj_words.proofs.SeatLoads.KnowsMoreOn.{more_itself, more_on}
use Rattle.tj_future.specs.LookLogs.{MakesLook, again, at_once}
use Rattle.tj_future.proofs.Looking.{knows_still}
use Rattle.tj_future.proofs.looks.watch.Goals as goal

pub loop-i-init : goal.loop-i-init
loop-i-init g c = record {
  table = c.requires.table;
  idle = c.requires.idle;
  slots = c.requires.slots;
  knows = more_itself c.args.seat.me.0;
  made = λ a new h. h;
}

pub loop-i-preserved : goal.loop-i-preserved
loop-i-preserved g c = let i = c.loop-i.invariant in let e = c.look_at.ensures in record {
  table = e.seat.0 ∙ i.table;
  idle = e.idle;
  slots = e.slots;
  knows = more_on c.args.seat.me.0 c.loop-i.seat.me.0 c.look_at.new.seat.me.0 i.knows
      (knows_still c.args.p.0 c.loop-i.seat.me.0 c.look_at.new.seat.me.0 (e.none c.in_default.is));
  made = λ a new h. i.made a new (again c.loop-i.seat c.look_at.new.seat new (subst (λ z. MakesLook c.args.p.0 z c.loop-i.seat
      c.look_at.new.seat) c.in_default.is e.log) h);
}

pub returns-in-Some-look_at-clause-log : goal.returns-in-Some-look_at-clause-log
returns-in-Some-look_at-clause-log g c = c.loop-i.invariant.made c.in-Some-look_at.watched c.look_at.new.seat
    (at_once c.loop-i.seat c.look_at.new.seat
    (subst (λ z. MakesLook c.args.p.0 z c.loop-i.seat c.look_at.new.seat) c.in-Some-look_at.is c.look_at.ensures.log))
