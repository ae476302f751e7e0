use Rattle.std.proofs.Common.{◌≡◌, ℕ, ◌-◌, List, length, ◌∷◌, [], refl, sym, ap, ◌∙◌, arith}
use Rattle.std.proofs.Common.{append-nil, length-append}
use Rattle.tj_mean.proofs.AgendaSteps.{begun, nobody, passed, popped}
use Rattle.tj_mean.proofs.agenda.Agenda.next_index.Goals as goal

pub loop-at-init : goal.loop-at-init
loop-at-init c = ((λ i h k. k), refl, refl, omega arith)

pub returns-then-at-count-clause-some : goal.returns-then-at-count-clause-some
returns-then-at-count-clause-some c = (
  c.if-at-count.true,
  λ i h k. popped c.loop-at.self.woken.items c.pop.new.self.items c.in-Some.at c.loop-at.self.fresh
      c.in-Some.ensures.items i (c.loop-at.invariant.0 i h k),
)

pub returns-then-at-count-clause-falls : goal.returns-then-at-count-clause-falls
returns-then-at-count-clause-falls c = λ n l.
    let same : c.loop-at.self.fresh ≡ c.args.self.now.fresh = c.loop-at.invariant.1 in
    let e = ap (λ z. n - z) same in
    let f = c.loop-at.invariant.3 in
    let g = ap (λ (l : List ℕ). length l) c.in-Some.ensures.items in
    let h = length-append c.pop.new.self.items (c.in-Some.at ∷ []) in
    omega arith

pub returns-then-at-count-clause-within : goal.returns-then-at-count-clause-within
returns-then-at-count-clause-within c = λ l.
    let same : c.loop-at.self.fresh ≡ c.args.self.now.fresh = c.loop-at.invariant.1 in omega arith

pub returns-then-at-count-clause-waiting : goal.returns-then-at-count-clause-waiting
returns-then-at-count-clause-waiting c = c.loop-at.invariant.2

pub loop-at-preserved : goal.loop-at-preserved
loop-at-preserved c = (
  (λ i h k. passed c.loop-at.self.woken.items c.pop.new.self.items c.in-Some.at c.loop-at.self.fresh
      c.in-Some.ensures.items c.args.count c.if-at-count.false i h (c.loop-at.invariant.0 i h k)),
  c.loop-at.invariant.1,
  c.loop-at.invariant.2,
  let f = c.loop-at.invariant.3 in
      let g = ap (λ (l : List ℕ). length l) c.in-Some.ensures.items in
      let h = length-append c.pop.new.self.items (c.in-Some.at ∷ []) in
      omega arith,
)

pub returns-then-self-count-clause-some : goal.returns-then-self-count-clause-some
returns-then-self-count-clause-some c = (
  c.if-self-count.true,
  λ i h k. begun c.loop-at.self.woken.items c.pop.new.self.items c.loop-at.self.fresh c.in_default.ensures.items i
      (c.loop-at.invariant.0 i h k),
)

pub returns-then-self-count-clause-falls : goal.returns-then-self-count-clause-falls
returns-then-self-count-clause-falls c = λ n l.
    let same : c.loop-at.self.fresh ≡ c.args.self.now.fresh = c.loop-at.invariant.1 in
    let e = ap (λ z. n - z) same in
    let f = c.loop-at.invariant.3 in
    let g = ap (λ (l : List ℕ). length l) (c.in_default.ensures.items ∙ append-nil c.pop.new.self.items) in
    let m = c.if-self-count.true in
    omega arith

pub returns-then-self-count-clause-waiting : goal.returns-then-self-count-clause-waiting
returns-then-self-count-clause-waiting c = c.loop-at.invariant.2

pub returns-clause-none : goal.returns-clause-none
returns-clause-none c = λ i h.
    let rest = c.pop.new.self.items in
    let z : length rest ≡ 0 = sym c.pop.new.self.ok.0 ∙ c.in_default.ensures.cases.1 in (
      (λ k. nobody c.loop-at.self.woken.items rest c.loop-at.self.fresh c.in_default.ensures.items c.args.count z
          c.if-self-count.false i h (c.loop-at.invariant.0 i h k)),
      (λ k. nobody rest rest c.loop-at.self.fresh (sym (append-nil rest)) c.args.count z c.if-self-count.false i h k),
    )

pub returns-clause-within : goal.returns-clause-within
returns-clause-within c = λ l.
    let same : c.loop-at.self.fresh ≡ c.args.self.now.fresh = c.loop-at.invariant.1 in omega arith

pub returns-clause-waiting : goal.returns-clause-waiting
returns-clause-waiting c = c.loop-at.invariant.2
