use Rattle.std.proofs.Common.{rules, ◌≡◌, ◌++◌, ◌∷◌, [], length, nat_eq, true, sym, ap, ◌∙◌}
use Rattle.tj_base.specs.Leaps.{IsLeap}
use Rattle.tj_base.proofs.LeapsAndSteps.{leaps_alike, steps_alike, same_by_leaps, same_by_steps}
use Rattle.tj_base.proofs.climbs.is_same.Goals as goal

pub returns-then-ne : goal.returns-then-ne
returns-then-ne c = let r = c.in-Some-Some-2.r.value in let s = c.in-Some-Some-2.s.value in
    let l : IsLeap c.loop-p.p.now r.before r.numbers.items = search rules in
    let m : IsLeap c.loop-p.q.now s.before s.numbers.items = search rules in
    let h = same_by_leaps c.loop-p.p.now c.loop-p.q.now r.before s.before r.numbers.items s.numbers.items l m
    c.loop-p.invariant.1 in
    search rules

pub loop-p-preserved-in-Some-deref-2 : goal.loop-p-preserved-in-Some-deref-2
loop-p-preserved-in-Some-deref-2 c = let r = c.in-Some-Some-2.r.value in let s = c.in-Some-Some-2.s.value in
    let l : IsLeap c.loop-p.p.now r.before r.numbers.items = search rules in
    let m : IsLeap c.loop-p.q.now s.before s.numbers.items = search rules in
    let h = same_by_leaps c.loop-p.p.now c.loop-p.q.now r.before s.before r.numbers.items s.numbers.items l m
    c.loop-p.invariant.1 in
    let e = leaps_alike c.loop-p.p.now c.loop-p.q.now r.before s.before r.numbers.items s.numbers.items l m
    c.loop-p.invariant.1 in
    search rules

pub loop-p-preserved : goal.loop-p-preserved
loop-p-preserved c = let x = c.in-Some-Some.x.value in let y = c.in-Some-Some.y.value in
    let a : c.loop-p.p.now ≡ x.maker ++ x.number ∷ [] = search rules in
    let b : c.loop-p.q.now ≡ y.maker ++ y.number ∷ [] = search rules in
    let e = steps_alike x.maker y.maker x.number y.number (sym (ap length a) ∙ (c.loop-p.invariant.1 ∙ ap length b)) in
    let h = same_by_steps x.maker y.maker x.number y.number e in
    let n : nat_eq x.number y.number ≡ true = search rules in
    search rules
