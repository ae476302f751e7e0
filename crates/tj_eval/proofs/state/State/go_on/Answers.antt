use Rattle.std.proofs.Common.{◌≡◌, ◌∙◌, ◌∷◌, sym, ap, subst, arith}
use Rattle.tj_syntax.specs.View as view
use Rattle.tj_eval.proofs.Runs.{next_ask-stops}
use Rattle.tj_eval.proofs.state.State.go_on.Goals as goal

pub returns-then-not-branch : goal.returns-then-not-branch
returns-then-not-branch c = let l = c.loop-stmt.self in let v = c.self.view_is in let taken = c.in-Some.ensures in
    let stmt = view.statement c.in-Some.stmt.now in
    let r = taken.0 ∙ ap (λ z. stmt ∷ z.rest) (sym v) in
    let e = subst (λ z. z ≡ record l { rest = z.rest }) (sym v) taken.1 in
    let p = next_ask-stops l _ stmt r e (omega arith) c.in_ok-passes.field-0 c.passes.new.self c.in_ok-passes.ensures
    c.if-not-branch.true in
    (sym c.loop-stmt.invariant.0 ∙ p.0, p.1, p.2 ∙ c.loop-stmt.invariant.1)
