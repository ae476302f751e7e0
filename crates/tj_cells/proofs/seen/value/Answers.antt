use Rattle.std.proofs.Common.{ap, refl, subst, sym, ◌∙◌, ◌∷◌}
use Rattle.tj_cells.proofs.Prelude.{arith, program_of}
use Rattle.tj_cells.proofs.ValueWords.{bits_fit, seen_some, sees_value, tag_small}
use Rattle.tj_cells.specs.SeenValues.{seen_in}
use Rattle.tj_words.specs.CallLaws.StepCalls as call
use Rattle.tj_words.specs.CallLaws.StepLogs.{IsLogged, entry_of}
use Rattle.tj_words.specs.declared.offsets.Once.TheVariants as once
use Rattle.tj_cells.proofs.seen.value.Goals as goal

pub returns-then-tag-eq0-clause-not_yet : goal.returns-then-tag-eq0-clause-not_yet
returns-then-tag-eq0-clause-not_yet g c = λ _. c.see_once-tag.ensures.sees.0 c.if-tag-eq0.true

pub value_of_words-requires : goal.value_of_words-requires
value_of_words-requires g c =
    let b = g.B.Body in
    bits_fit (program_of b.places b.awaits b.left b.asks b.then) c.args.laid.now.cells c.args.p.0 c.see_once-tag.result
    c.see_once-bits.result c.args.seat.now.me.0 c.see_once-tag.new.seat.me.0 c.see_once-bits.new.seat.me.0
    (c.see_once-tag.ensures.sees.1 c.if-tag-eq0.false) c.see_once-bits.ensures.sees (omega arith)

pub returns-clause-value : goal.returns-clause-value
returns-clause-value g c =
    let b = g.B.Body in
    λ _. sees_value (program_of b.places b.awaits b.left b.asks b.then) c.args.laid.now.cells c.args.p.0
    c.see_once-tag.result c.see_once-bits.result c.args.seat.now.me.0 c.see_once-tag.new.seat.me.0
    c.see_once-bits.new.seat.me.0 (c.see_once-tag.ensures.sees.1 c.if-tag-eq0.false) c.see_once-bits.ensures.sees
    c.value_of_words.result c.seen_of.result c.value_of_words.ensures c.seen_of.ensures

pub returns-then-tag-eq0-clause-log_not_yet : goal.returns-then-tag-eq0-clause-log_not_yet
returns-then-tag-eq0-clause-log_not_yet g c = λ _.
    subst (λ n. IsLogged (call.sees_once c.args.p.0 once.Tag) 0 0 n c.args.seat.now c.see_once-tag.new.seat)
    c.if-tag-eq0.true c.see_once-tag.ensures.log

pub returns-then-tag-eq0-clause-log_value : goal.returns-then-tag-eq0-clause-log_value
returns-then-tag-eq0-clause-log_value g c = λ n. absurd (n refl)

pub returns-clause-log_not_yet : goal.returns-clause-log_not_yet
returns-clause-log_not_yet g c = λ e. absurd (seen_some c.value_of_words.result (sym c.seen_of.ensures ∙ e))

pub returns-clause-log_value : goal.returns-clause-log_value
returns-clause-log_value g c = λ _. let tag = c.see_once-tag in let bits = c.see_once-bits in record {
  tag = tag.result;
  bits = bits.result;
  some = c.if-tag-eq0.false;
  small = tag_small c.args.laid.now.cells c.args.p.0 tag.result c.args.seat.now.me.0 tag.new.seat.me.0
      (tag.ensures.sees.1 c.if-tag-eq0.false);
  says = c.seen_of.ensures ∙ ap seen_in c.value_of_words.ensures;
  log = bits.ensures.log.0
      ∙ ap (λ l. entry_of (call.sees_once c.args.p.0 once.Bits) 0 0 bits.result ∷ l) tag.ensures.log.0;
  took = bits.ensures.log.1 ∙ tag.ensures.log.1;
}
