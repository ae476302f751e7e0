use Rattle.std.proofs.Common.{◌-◌, ◌≡◌, ap, arith, map, subst, sym, ◌∙◌}
use Rattle.tj_body.proofs.Counts.{same_is}
use Rattle.tj_forest.specs.Inner.Jumps.{AreJumps, jump}
use Rattle.tj_forest.proofs.JumpsDoubled.{doubled_more, often, settled_often}
use Rattle.tj_forest.proofs.jumps.doubled_often.Goals as goal

pub returns-then-eq : goal.returns-then-eq
returns-then-eq c =
    let l = c.loop-left in λ lines f are.
    settled_often lines f l.left l.jumps.items c.in_ok-more.more.items l.invariant.1
    (c.in_ok-more.ensures ∙ ap (λ js. map (jump js) js) c.as_slice.ensures.value)
    (same_is c.in_ok-more.more.items l.jumps.items (sym c.eq.ensures ∙ c.if-eq.true)) (l.invariant.0 lines f are)

pub loop-left-preserved : goal.loop-left-preserved
loop-left-preserved c =
    let l = c.loop-left in
    let some = c.loop-left-test.true in
    let few = l.invariant.1 in (
      λ lines f are. doubled_more lines f (21 - l.left) (21 - (l.left - 1)) l.jumps.items c.in_ok-more.more.items
          (c.in_ok-more.ensures ∙ ap (λ js. map (jump js) js) c.as_slice.ensures.value) (omega arith)
          (l.invariant.0 lines f are),
      omega arith,
    )

pub returns : goal.returns
returns c = λ lines f are.
    let ended = c.loop-left-test.false in
    let none : c.loop-left.left ≡ 0 = omega arith in
    subst (λ k. AreJumps lines f k c.loop-left.jumps.items) (often c.loop-left.left none)
    (c.loop-left.invariant.0 lines f are)
