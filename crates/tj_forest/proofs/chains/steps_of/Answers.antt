-- One step more.
use Rattle.std.proofs.Common.{None, length, refl}
use Rattle.std.specs.Prelude.{option_and_then, slice_get}
use Rattle.std.proofs.lemmas.Option.{slice_get_read}
use Rattle.tj_forest.proofs.JumpsDoubled.{each_more, step_from}
use Rattle.tj_forest.specs.Inner.Numbers.{IsNumberOf}
use Rattle.tj_forest.specs.Inner.Ways.{next}
use Rattle.tj_forest.proofs.chains.steps_of.Goals as goal

pub loop-line-preserved : goal.loop-line-preserved
loop-line-preserved c =
    let lines = c.args.lookups.now.lines.now in
    let l = c.loop-line in
    let f = next c.args.way lines in
    each_more (λ n s. IsNumberOf lines s (option_and_then f (slice_get lines n))) (λ n. None) l.line-index
    c.next.result l.steps.items c.push.new.self.items
    (step_from lines f l.line-index c.line-item.result c.next.result
    (slice_get_read lines (length lines) l.line-index c.line-item.result refl c.loop-line-test.true c.line-item.is)
    c.next.ensures) c.in_ok-push.ensures.items l.invariant
