use Rattle.tj_detect.proofs.Prelude.{Way, ap, arith, inr, others_read, refl}
use Rattle.tj_detect.proofs.Prelude.{start_walk, subst, sym, ◌<◌, ◌∙◌}
use Rattle.tj_words.specs.Steps.WalkSteps.{MayWait}
use Rattle.tj_detect.proofs.WalkBlocks.{may_publish, at_others, at_count, others_on, others_walk, skips, blocks}
use Rattle.tj_events.specs.declared.walk.Way.TheVariants.{Along}
use Rattle.tj_detect.proofs.BlockSteps.{along_steps, block_made}
use Rattle.tj_detect.specs.BlockLogs.{Makes, first_steps}
use Rattle.tj_detect.proofs.blocking.Waiter.walk_along.Goals as goal

pub put_wait-requires-clause-may : goal.put_wait-requires-clause-may
put_wait-requires-clause-may g c κs within = let a = c.args.self.now in
    may_publish c.args.seat.now.me.0 a.t.0 a.q.0 a.way c.requires.may
    (subst (λ (y : Way). MayWait y c.requires.may.custody.does) (sym c.requires.along) c.requires.may.runs)

pub others-others-requires-clause-walks : goal.others-others-requires-clause-walks
others-others-requires-clause-walks g c κs within = let a = c.args.self.now in
    at_others c.args.seat.now.me.0 a.t.0 a.q.0 a.way c.requires.may c.put_wait.new.seat.me.0
    (ap (λ z. z.0) c.put_wait.ensures.puts) c.requires.along

pub returns-then-others-eq0-clause-view : goal.returns-then-others-eq0-clause-view
returns-then-others-eq0-clause-view g c =
    let a = c.args.self.now in
    let x = c.put_wait.ensures.step in
    let y = c.tick.ensures in
    skips c.args.seat.now.me.0 a.t.0 a.q.0 a.way c.requires.may c.put_wait.new.seat.me.0
    (ap (λ z. z.0) c.put_wait.ensures.puts) c.others-others.result c.others-others.new.seat.me.0
    c.others-others.ensures.view c.requires.along c.args.steps.now c.tick.new.self (omega (arith, x, y))
    c.if-others-eq0.true

pub walk-requires-clause-walks : goal.walk-requires-clause-walks
walk-requires-clause-walks g c κs within =
    let a = c.args.self.now in
    let v = c.args.seat.now.me.0 in
    let n = c.others-others.result in
    let puts = ap (λ z. z.0) c.put_wait.ensures.puts in
    let some : 0 < n = let x = c.if-others-eq0.false in omega (arith, x) in
    at_count v a.t.0 a.q.0 a.way c.requires.may (others_read n start_walk) 2 c.others-others.new.seat.me.0
    (others_on v a.t.0 a.q.0 a.way c.requires.may c.put_wait.new.seat.me.0 puts n
    c.others-others.new.seat.me.0 c.others-others.ensures.view c.requires.along)
    (others_walk v a.t.0 a.q.0 a.way c.requires.may c.put_wait.new.seat.me.0 puts n
    c.others-others.new.seat.me.0 c.others-others.ensures.view c.requires.along)
    (inr (n, refl, some)) refl refl

pub returns-clause-view : goal.returns-clause-view
returns-clause-view g c =
    let a = c.args.self.now in
    let v = c.args.seat.now.me.0 in
    let n = c.others-others.result in
    let x = c.put_wait.ensures.step in
    let y = c.tick.ensures in
    blocks v a.t.0 a.q.0 a.way c.requires.may (others_read n start_walk) 2 c.others-others.new.seat.me.0
    (others_on v a.t.0 a.q.0 a.way c.requires.may c.put_wait.new.seat.me.0 (ap (λ z. z.0) c.put_wait.ensures.puts) n
    c.others-others.new.seat.me.0 c.others-others.ensures.view c.requires.along)
    c.walk.result c.args.steps.now c.tick.new.self c.walk.new.steps c.walk.new.seat.me.0 (omega (arith, x, y))
    (omega arith) c.walk.ensures.comes

pub returns-then-others-eq0-clause-seat : goal.returns-then-others-eq0-clause-seat
returns-then-others-eq0-clause-seat g c =
    let p = c.put_wait.ensures in let o = c.others-others.ensures.seat in
    (o.0 ∙ p.table, o.1 ∙ p.id, o.2 ∙ ap (λ z. z.1) p.puts)

pub returns-clause-seat : goal.returns-clause-seat
returns-clause-seat g c =
    let p = c.put_wait.ensures in let o = c.others-others.ensures.seat in let w = c.walk.ensures.seat in
    (w.0 ∙ (o.0 ∙ p.table), w.1 ∙ (o.1 ∙ p.id), w.2 ∙ (o.2 ∙ ap (λ z. z.1) p.puts))

pub returns-then-others-eq0-clause-log : goal.returns-then-others-eq0-clause-log
returns-then-others-eq0-clause-log g c = let a = c.args.self.now in (
  c.requires.along,
  subst (λ n. Makes (first_steps a.t.0 a.q Along n) c.args.seat.now c.others-others.new.seat) c.if-others-eq0.true
      (along_steps a.t.0 a.q a.way c.requires.along c.args.seat.now c.put_wait.new.seat c.others-others.new.seat
      c.others-others.result c.put_wait.ensures.log c.others-others.ensures.log),
)

pub returns-clause-log : goal.returns-clause-log
returns-clause-log g c = let a = c.args.self.now in
    block_made a.laid.now.cells a.t.0 a.q a.way c.walk.result c.args.seat.now c.others-others.new.seat
    c.walk.new.seat c.others-others.result c.walk.ensures.comes.walked
    (λ e. let x = c.if-others-eq0.false in omega (arith, x))
    (subst (λ w. Makes (first_steps a.t.0 a.q w c.others-others.result) c.args.seat.now c.others-others.new.seat)
    (sym c.requires.along) (along_steps a.t.0 a.q a.way c.requires.along c.args.seat.now c.put_wait.new.seat
    c.others-others.new.seat c.others-others.result c.put_wait.ensures.log c.others-others.ensures.log))
    c.walk.ensures.log
