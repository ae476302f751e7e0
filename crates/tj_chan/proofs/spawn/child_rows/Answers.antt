use Rattle.std.proofs.Common.{arith, sym, subst, ap, ◌∙◌, get_or, ◌≡◌, ◌+◌, ◌++◌, ◌∷◌, [], drop, length, length-append}
use Rattle.std.specs.Prelude.{Some}
use Rattle.tj_chan.specs.ChanBodies as bodies
use Rattle.tj_chan.specs.ChanBodies.{most_row_places}
use Rattle.tj_chan.specs.Inner.RowLaws.{found_bounds}
use Rattle.tj_chan.proofs.RowLoops.{there_has_row, passed_kept}
use Rattle.tj_chan.proofs.spawn.child_rows.Goals as goal

pub returns-in_default : goal.returns-in_default
returns-in_default c = absurd (there_has_row c.args.rows.now c.args.pass.now c.loop-place.place-index c.requires.rows
    c.requires.there c.loop-place-test.true c.in_default.ensures.row)

pub overflow_add-base : goal.overflow_add-base
overflow_add-base c = let k = get_or c.args.pass.now c.loop-place.place-index 0 in
    let b = found_bounds most_row_places c.args.rows.now k c.in-Some.row c.requires.rows c.requires.room
    (sym c.in-Some.ensures.row) in
    let f = b.few in let l = c.loop-place.invariant.2 in let m = c.requires.few in let t = c.loop-place-test.true in
    omega arith

pub loop-place-preserved : goal.loop-place-preserved
loop-place-preserved c = let rows = c.args.rows.now in let give = c.args.give.now in let pass = c.args.pass.now in
    let i = c.loop-place.place-index in let r = c.in-Some.row in let s = c.passed_row.result in
    let made = c.loop-place.made.items in let firsts = c.loop-place.firsts.items in let base = c.loop-place.base in
    let whole = bodies.passed_rows rows give [] 1 pass in
    let more = c.in_ok-push.ensures.items in let seen = c.in_ok-push-2.ensures.items in
    let at : c.position-first.result ≡ bodies.position r.first firsts =
    c.position-first.ensures.position ∙ ap (bodies.position r.first) c.as_slice.ensures.value in
    let is = c.passed_row.ensures
    ∙ ap (λ n. bodies.passed_row n base c.is_given-holds.result (Some r)) at
    ∙ ap (λ g. bodies.passed_row (bodies.position r.first firsts) base g (Some r)) c.is_given-holds.ensures in
    let kept = passed_kept rows give pass i r whole made firsts base s c.loop-place-test.true c.in-Some.ensures.row is
    c.loop-place.invariant.0 in
    let b = found_bounds most_row_places rows (get_or pass i 0) r c.requires.rows c.requires.room
    (sym c.in-Some.ensures.row) in
    let f = b.few in let l = c.loop-place.invariant.2 in let k = c.loop-place.invariant.1 in
    let n = ap length seen ∙ length-append firsts (r.first ∷ []) in (
      subst (λ z. whole ≡ z ++ bodies.passed_rows rows give c.push-in-loop-place.new.self.items (base + r.items)
          (drop (i + 1) pass)) (sym more)
          (subst (λ z. whole ≡ (made ++ s ∷ []) ++ bodies.passed_rows rows give z (base + r.items) (drop (i + 1) pass))
          (sym seen) kept),
      omega arith,
      omega arith,
    )
