use Rattle.std.proofs.Common.{rules, ◌≡◌, nat_eq, true}
use Rattle.std.specs.Cmp.Lexicographic.{pointwise}
use Rattle.tj_base.specs.Leaps.{IsLeap}
use Rattle.tj_base.proofs.LeapsAndSteps.{leaps_alike}
use Rattle.tj_base.proofs.MapOrders.{by_leaps}
use Rattle.tj_base.proofs.climbs.map_order.Goals as goal

pub loop-p-preserved-then-eq : goal.loop-p-preserved-then-eq
loop-p-preserved-then-eq c = let r = c.in-Some-Some-2.r.value in let s = c.in-Some-Some-2.s.value in
    let l : IsLeap c.loop-p.p.now r.before r.numbers.items = search rules in
    let m : IsLeap c.loop-p.q.now s.before s.numbers.items = search rules in
    let same : pointwise nat_eq r.numbers.items s.numbers.items ≡ true = search rules in
    let h = by_leaps c.loop-p.p.now c.loop-p.q.now r.before s.before r.numbers.items s.numbers.items l m same in
    let e = leaps_alike c.loop-p.p.now c.loop-p.q.now r.before s.before r.numbers.items s.numbers.items l m
    c.loop-p.invariant.1 in
    search rules
