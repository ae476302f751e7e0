use Rattle.tj_detect.proofs.Prelude.{ap, arith, inl, refl, start_walk, walk_first, ◌∙◌}
use Rattle.tj_detect.proofs.WalkBlocks.{may_raise, may_publish_other, published_other, at_count, blocks}
use Rattle.tj_detect.proofs.WalkBlocks.{skips_exactly, alarm_stands, others_watch}
use Rattle.tj_detect.proofs.BlockSteps.{block_made, not_along, other_steps}
use Rattle.tj_detect.proofs.blocking.block.Goals as goal

pub walk_along-requires-clause-along : goal.walk_along-requires-clause-along
walk_along-requires-clause-along g c κs within = c.in-Along.is

pub returns-in-Along-clause-skipped : goal.returns-in-Along-clause-skipped
returns-in-Along-clause-skipped g c = skips_exactly c.requires.may c.walk_along.ensures.view

pub returns-in-Along-clause-alarm : goal.returns-in-Along-clause-alarm
returns-in-Along-clause-alarm g c = alarm_stands c.requires.may c.walk_along.ensures.view _

pub returns-in-Along-clause-walked : goal.returns-in-Along-clause-walked
returns-in-Along-clause-walked g c =
    others_watch c.requires.may c.walk_along.ensures.view _ c.settlers_are_not_alone.ensures

pub others_up-requires-clause-runs : goal.others_up-requires-clause-runs
others_up-requires-clause-runs g c κs within = let a = c.args in
    may_raise a.seat.now.me.0 a.t.0 a.q.0 a.way c.requires.may

pub put_wait-requires-clause-may : goal.put_wait-requires-clause-may
put_wait-requires-clause-may g c κs within = let a = c.args in
    may_publish_other a.seat.now.me.0 a.t.0 a.q.0 a.way c.requires.may c.others_up.new.seat.me.0
    c.others_up.ensures.view c.in-Other.is

pub walk-requires-clause-walks : goal.walk-requires-clause-walks
walk-requires-clause-walks g c κs within =
    let a = c.args in
    let v = a.seat.now.me.0 in
    at_count v a.t.0 a.q.0 a.way c.requires.may start_walk 2 c.put_wait.new.seat.me.0
    (published_other v a.t.0 a.q.0 a.way c.requires.may c.others_up.new.seat.me.0 c.others_up.ensures.view
    c.put_wait.new.seat.me.0 (ap (λ z. z.0) c.put_wait.ensures.puts))
    walk_first (inl (c.in-Other.is, refl)) refl refl

pub returns-in-Other-clause-view : goal.returns-in-Other-clause-view
returns-in-Other-clause-view g c =
    let a = c.args in
    let v = a.seat.now.me.0 in
    let x = c.tick.ensures in
    let y = c.put_wait.ensures.step in
    blocks v a.t.0 a.q.0 a.way c.requires.may start_walk 2 c.put_wait.new.seat.me.0
    (published_other v a.t.0 a.q.0 a.way c.requires.may c.others_up.new.seat.me.0 c.others_up.ensures.view
    c.put_wait.new.seat.me.0 (ap (λ z. z.0) c.put_wait.ensures.puts))
    c.walk.result a.steps.now c.put_wait.new.steps c.walk.new.steps c.walk.new.seat.me.0 (omega (arith, x, y))
    (omega arith) c.walk.ensures.comes

pub returns-in-Other-clause-seat : goal.returns-in-Other-clause-seat
returns-in-Other-clause-seat g c =
    let u = c.others_up.ensures.seat in let p = c.put_wait.ensures in let w = c.walk.ensures.seat in
    (w.0 ∙ (p.table ∙ u.0), w.1 ∙ (p.id ∙ u.1), w.2 ∙ (ap (λ z. z.1) p.puts ∙ u.2))

pub returns-in-Other-clause-skipped : goal.returns-in-Other-clause-skipped
returns-in-Other-clause-skipped g c = skips_exactly c.requires.may (returns-in-Other-clause-view g c)

pub returns-in-Other-clause-alarm : goal.returns-in-Other-clause-alarm
returns-in-Other-clause-alarm g c = alarm_stands c.requires.may (returns-in-Other-clause-view g c) _

pub returns-in-Other-clause-walked : goal.returns-in-Other-clause-walked
returns-in-Other-clause-walked g c =
    others_watch c.requires.may (returns-in-Other-clause-view g c) _ c.settlers_are_not_alone.ensures

pub returns-in-Other-clause-log : goal.returns-in-Other-clause-log
returns-in-Other-clause-log g c = let a = c.args in let up = c.others_up.ensures.log in
    block_made a.laid.now.cells a.t.0 a.q a.way c.walk.result a.seat.now c.put_wait.new.seat c.walk.new.seat up.0
    c.walk.ensures.comes.walked (not_along a.way c.in-Other.is)
    (other_steps a.t.0 a.q a.way c.in-Other.is a.seat.now c.others_up.new.seat c.put_wait.new.seat up.0 up.1
    c.put_wait.ensures.log) c.walk.ensures.log

pub returns-in-Along-clause-log : goal.returns-in-Along-clause-log
returns-in-Along-clause-log g c = c.walk_along.ensures.log
