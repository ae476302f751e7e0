use Rattle.std.proofs.Common.{pos, refl, sym, ◌∙◌}
use Rattle.tj_body.specs.declared.point.Value.TheVariants as value
use Rattle.tj_tests.proofs.RootPlay.{breaks_second, fills_first, makes_first, makes_second, owns_first, owns_second}
use Rattle.tj_tests.proofs.made_cells.makes_two.Goals as goal

pub make-requires-clause-may : goal.make-requires-clause-may
make-requires-clause-may g c κs = makes_first c.args.cells c.new.result c.in_ok-laid.seat.me c.claim.result
    c.expect-rec.result c.claim.new.seat.me.0 (c.new.ensures.table ∙ c.in_ok-lists.ensures) c.new.ensures.list
    c.in_ok-laid.ensures.view c.expect-rec.ensures c.claim.ensures.some (sym c.made.ensures ∙ c.if-made-ne0.false)

pub fill-requires-clause-owner : goal.fill-requires-clause-owner
fill-requires-clause-owner g c κs = owns_first c.args.cells c.new.result c.in_ok-laid.seat.me c.claim.result
    c.expect-rec.result c.claim.new.seat.me.0 (c.new.ensures.table ∙ c.in_ok-lists.ensures) c.new.ensures.list
    c.in_ok-laid.ensures.view c.expect-rec.ensures c.claim.ensures.some (sym c.made.ensures ∙ c.if-made-ne0.false)
    c.in-Ok.ensures.made (c.value.ensures.not_yet, c.value.ensures.value)

pub fill-requires-clause-value : goal.fill-requires-clause-value
fill-requires-clause-value g c κs = fills_first c.args.cells c.new.result c.in_ok-laid.seat.me c.claim.result
    c.expect-rec.result c.claim.new.seat.me.0 (c.new.ensures.table ∙ c.in_ok-lists.ensures) c.new.ensures.list
    c.in_ok-laid.ensures.view c.expect-rec.ensures c.claim.ensures.some (sym c.made.ensures ∙ c.if-made-ne0.false)
    c.in-Ok.ensures.made (c.value.ensures.not_yet, c.value.ensures.value)

pub make-requires-2-clause-may : goal.make-requires-2-clause-may
make-requires-2-clause-may g c κs = makes_second c.args.cells c.new.result c.in_ok-laid.seat.me c.claim.result
    c.expect-rec.result c.claim.new.seat.me.0 (c.new.ensures.table ∙ c.in_ok-lists.ensures) c.new.ensures.list
    c.in_ok-laid.ensures.view c.expect-rec.ensures c.claim.ensures.some (sym c.made.ensures ∙ c.if-made-ne0.false)
    c.in-Ok.ensures.made (c.value.ensures.not_yet, c.value.ensures.value)
    (c.fill.ensures.view (value.Num (pos 5)) refl) (c.value-2.ensures.not_yet, c.value-2.ensures.value)

pub break_off-requires-clause-owner : goal.break_off-requires-clause-owner
break_off-requires-clause-owner g c κs = owns_second c.args.cells c.new.result c.in_ok-laid.seat.me c.claim.result
    c.expect-rec.result c.claim.new.seat.me.0 (c.new.ensures.table ∙ c.in_ok-lists.ensures) c.new.ensures.list
    c.in_ok-laid.ensures.view c.expect-rec.ensures c.claim.ensures.some (sym c.made.ensures ∙ c.if-made-ne0.false)
    c.in-Ok.ensures.made (c.value.ensures.not_yet, c.value.ensures.value)
    (c.fill.ensures.view (value.Num (pos 5)) refl) (c.value-2.ensures.not_yet, c.value-2.ensures.value)
    c.in-Ok-make.ensures.made

pub break_off-requires-clause-broken : goal.break_off-requires-clause-broken
break_off-requires-clause-broken g c κs = breaks_second c.args.cells c.new.result c.in_ok-laid.seat.me c.claim.result
    c.expect-rec.result c.claim.new.seat.me.0 (c.new.ensures.table ∙ c.in_ok-lists.ensures) c.new.ensures.list
    c.in_ok-laid.ensures.view c.expect-rec.ensures c.claim.ensures.some (sym c.made.ensures ∙ c.if-made-ne0.false)
    c.in-Ok.ensures.made (c.value.ensures.not_yet, c.value.ensures.value)
    (c.fill.ensures.view (value.Num (pos 5)) refl) (c.value-2.ensures.not_yet, c.value-2.ensures.value)
    c.in-Ok-make.ensures.made
