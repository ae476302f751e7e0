use Rattle.tj_cells.proofs.Prelude.{program_of, refl}
use Rattle.tj_body.specs.declared.point.Entry.TheVariants.{Broken}
use Rattle.tj_cells.proofs.ClosingViews.{cell_became, may_bits, may_tag}
use Rattle.tj_cells.proofs.closing.break_off.Goals as goal

pub put_once-requires-clause-may : goal.put_once-requires-clause-may
put_once-requires-clause-may g c κs within =
    let b = g.B.Body in
    may_bits (program_of b.places b.awaits b.left b.asks b.then) c.args.t.0 c.args.p.0 c.args.seat.now.me.0
    c.put_owner.new.seat.me.0 c.requires.owner c.put_owner.ensures.view
    Broken c.requires.broken c.value_words-tag.result.1 (c.value_words-tag.ensures.broken refl) tt

pub put_once-requires-2-clause-may : goal.put_once-requires-2-clause-may
put_once-requires-2-clause-may g c κs within =
    let b = g.B.Body in
    may_tag (program_of b.places b.awaits b.left b.asks b.then) c.args.t.0 c.args.p.0 c.args.seat.now.me.0
    c.put_owner.new.seat.me.0 c.requires.owner c.put_owner.ensures.view
    Broken c.requires.broken c.value_words-tag.result.1 (c.value_words-tag.ensures.broken refl) tt
    c.put_once.new.seat.me.0 c.put_once.ensures.view c.value_words-tag.result.0 c.value_words-tag.ensures.tag

pub returns-clause-view : goal.returns-clause-view
returns-clause-view g c =
    let b = g.B.Body in
    cell_became (program_of b.places b.awaits b.left b.asks b.then) c.args.t.0 c.args.p.0 c.args.seat.now.me.0
    c.put_owner.new.seat.me.0 c.requires.owner c.put_owner.ensures.view
    Broken c.requires.broken c.value_words-tag.result.1 (c.value_words-tag.ensures.broken refl) tt
    c.put_once.new.seat.me.0 c.put_once.ensures.view c.value_words-tag.result.0 c.value_words-tag.ensures.tag
    c.put_once-2.new.seat.me.0 c.put_once-2.ensures.view
