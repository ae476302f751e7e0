use Rattle.std.proofs.Common.{arith, length, sym, subst, ap, ◌<◌, ◌+◌, ◌∙◌, ◌≡◌, rules}
use Rattle.std.proofs.Common.{is_lt}
use Rattle.tj_told.proofs.LeastLinks.{IsLeastBefore, least_still, less_here, name_in, named_at, order, turned_least}
use Rattle.tj_told.proofs.links.from_least.Goals as goal
use Rattle.tj_told.proofs.links.from_least.Goals.{then-is_lt, else-is_lt}

pub loop-i-init : goal.loop-i-init
loop-i-init c = (omega arith, search rules, λ j l. absurd (omega arith), λ h. h)

pub loop-i-preserved : goal.loop-i-preserved
loop-i-preserved c =
    let xs = c.args.links.items in let l = c.loop-i in
    let a = l.invariant.0 in let b = l.invariant.1 in let t = c.loop-i-test.true in
    let here : c.index.result.now.task ≡ name_in xs l.i =
    named_at xs l.i c.index.result.now (omega arith) c.index.ensures in
    let least : c.index-in-loop-i.result.now.task ≡ name_in xs l.least =
    named_at xs l.least c.index-in-loop-i.result.now (l.invariant.3 (omega arith)) c.index-in-loop-i.ensures in
    let cmp : is_lt c.name_cmp.result ≡ is_lt (order (name_in xs l.i) (name_in xs l.least)) =
    ap is_lt (c.name_cmp.ensures ∙ (ap (λ z. order z c.index-in-loop-i.result.now.task) here
    ∙ ap (order (name_in xs l.i)) least)) in
    elim c.if-is_lt.branch [
      | then-is_lt w ↦ (let e = w.least-is in (
        omega arith,
        b,
        subst (λ z. IsLeastBefore xs z (l.i + 1)) (sym e) (less_here xs l.least l.i l.invariant.2
            (sym cmp ∙ (sym c.is_lt.ensures ∙ w.if-is_lt.true))),
        λ h. omega arith,
      ))
      | else-is_lt w ↦ (let e = w.least-is in (
        omega arith,
        b,
        subst (λ z. IsLeastBefore xs z (l.i + 1)) (sym e) (least_still xs l.least l.i l.invariant.2
            (sym cmp ∙ (sym c.is_lt.ensures ∙ w.if-is_lt.false))),
        λ h. subst (λ z. z < length xs) (sym e) (l.invariant.3 h),
      ))
    ]

pub returns : goal.returns
returns c = let l = c.loop-i in let n = l.invariant.1 in let t = c.loop-i-test.false in
    turned_least c.args.links.items c.of.result l.least l.i l.invariant.2 (omega arith) l.invariant.3
    (c.of.ensures ∙ c.rotate_left.ensures.items)
