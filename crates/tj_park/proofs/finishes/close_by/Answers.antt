use Rattle.tj_park.proofs.Prelude.{Some, ap}
use Rattle.tj_park.proofs.ResultCloses.{may_close_last, may_fill_last, may_break_last, failed_not_done}
use Rattle.tj_park.proofs.finishes.close_by.Goals as goal

pub fill-requires-clause-owner : goal.fill-requires-clause-owner
fill-requires-clause-owner g c κs within = may_close_last _ _ _ _ c.requires.may

pub fill-requires-clause-value : goal.fill-requires-clause-value
fill-requires-clause-value g c κs within =
    may_fill_last _ _ _ _ c.requires.may c.in-Done.v (ap Some c.in-Done.is)

pub break_off-requires-clause-owner : goal.break_off-requires-clause-owner
break_off-requires-clause-owner g c κs within = may_close_last _ _ _ _ c.requires.may

pub break_off-requires-clause-broken : goal.break_off-requires-clause-broken
break_off-requires-clause-broken g c κs within =
    may_break_last _ _ _ _ c.requires.may
    (failed_not_done (Some c.args.f) c.in-Failed.field-0 (ap Some c.in-Failed.is))
