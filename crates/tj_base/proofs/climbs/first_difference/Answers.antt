use Rattle.std.proofs.Common.{rules, ◌≡◌, ◌≤◌, ◌++◌, ◌∷◌, [], length, Some, cond, nat_eq, sym, ap, ◌∙◌}
use Rattle.std.specs.Option.{option_or}
use Rattle.tj_base.specs.Differences.{first_difference}
use Rattle.tj_base.specs.Leaps.{IsLeap}
use Rattle.tj_base.proofs.LeapsAndSteps.{steps_alike, differ_by_leaps, differ_by_steps}
use Rattle.tj_base.proofs.Differences.{none_right, behind_all, behind_all_second}
use Rattle.tj_base.proofs.climbs.first_difference.Goals.{then-deref, else-deref}
use Rattle.tj_base.proofs.climbs.first_difference.Goals as goal

pub returns-in_default : goal.returns-in_default
returns-in_default c = let empty : c.loop-p.q.now ≡ [] = search rules in
    sym (c.loop-p.invariant ∙ (ap (λ d. option_or (first_difference c.loop-p.p.now d) c.loop-p.found) empty
    ∙ ap (λ d. option_or d c.loop-p.found) (none_right c.loop-p.p.now)))

pub loop-p-preserved-then-depth : goal.loop-p-preserved-then-depth
loop-p-preserved-then-depth c = let a = c.above-p.ensures in
    let deep : length c.loop-p.q.now ≤ length c.above-p.result.now = search rules in
    c.loop-p.invariant ∙ ap (λ d. option_or d c.loop-p.found) (ap (λ d. first_difference d c.loop-p.q.now) a.ancestor.goes_on
    ∙ behind_all c.above-p.result.now (a.ancestor.number ∷ a.ancestor.rest) c.loop-p.q.now deep)

pub loop-p-preserved-then-depth-2 : goal.loop-p-preserved-then-depth-2
loop-p-preserved-then-depth-2 c = let a = c.above-q.ensures in
    let deep : length c.loop-p.p.now ≤ length c.above-q.result.now = search rules in
    c.loop-p.invariant ∙ ap (λ d. option_or d c.loop-p.found) (ap (first_difference c.loop-p.p.now) a.ancestor.goes_on
    ∙ behind_all_second c.loop-p.p.now c.above-q.result.now (a.ancestor.number ∷ a.ancestor.rest) deep)

pub loop-p-preserved-in-Some-deref-2 : goal.loop-p-preserved-in-Some-deref-2
loop-p-preserved-in-Some-deref-2 c = let r = c.in-Some-Some-2.r.value in let s = c.in-Some-Some-2.s.value in
    let l : IsLeap c.loop-p.p.now r.before r.numbers.items = search rules in
    let m : IsLeap c.loop-p.q.now s.before s.numbers.items = search rules in
    let e : length c.loop-p.p.now ≡ length c.loop-p.q.now = search rules in
    let h = differ_by_leaps c.loop-p.p.now c.loop-p.q.now r.before s.before r.numbers.items s.numbers.items
    c.loop-p.found l m e in
    search rules

pub loop-p-preserved : goal.loop-p-preserved
loop-p-preserved c = let x = c.in-Some-Some.x.value in let y = c.in-Some-Some.y.value in
    let a : c.loop-p.p.now ≡ x.maker ++ x.number ∷ [] = search rules in
    let b : c.loop-p.q.now ≡ y.maker ++ y.number ∷ [] = search rules in
    let e : length c.loop-p.p.now ≡ length c.loop-p.q.now = search rules in
    let d = steps_alike x.maker y.maker x.number y.number (sym (ap length a) ∙ (e ∙ ap length b)) in
    let h = differ_by_steps x.maker y.maker x.number y.number c.loop-p.found d in
    let f : c.if-deref.found ≡ cond (nat_eq x.number y.number) c.loop-p.found (Some (x.number, y.number)) =
    elim c.if-deref.branch [ then-deref w ↦ search rules | else-deref w ↦ search rules ] in
    search rules
