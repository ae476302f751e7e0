use Rattle.std.proofs.Common.{◌∙◌, ◌-◌, ap, refl, sym, subst, true}
use Rattle.tj_syntax.specs.View as view
use Rattle.tj_eval.specs.Inner.Effects.{IsStep}
use Rattle.tj_eval.specs.Inner.Standing.{shown}
use Rattle.std.specs.Prelude.{Ok}
use Rattle.tj_eval.specs.Stands.{stand_ask, stand_begun}
use Rattle.tj_eval.proofs.Ready.{passed_ready}
use Rattle.tj_eval.proofs.Runs.{next_ask-goes_on}
use Rattle.tj_eval.proofs.StandRuns.{stand_passes, stand_stops, some_left}
use Rattle.tj_eval.proofs.placed.Standing.go_on.Goals as goal

pub returns-then-not-branch-clause-stand : goal.returns-then-not-branch-clause-stand
returns-then-not-branch-clause-stand c = let l = c.loop-stmt.self in let now = c.take.new.self in
    let taken = c.in-Some.ensures.taken in let begun = c.in_ok-begin.ensures in
    stand_stops l.body now.body (shown l).stand (view.statement c.in-Some.stmt.now) taken.0 (ap (λ x. x.task) taken.1)
    (some_left now.body.steps (sym c.is_spent.ensures ∙ c.if-is_spent.false)) c.in_ok-begin.field-0
    c.begin.new.self.body (shown now).stand (shown c.begin.new.self).stand (ap (λ x. x.stand) taken.1) begun.stand
    begun.task c.if-not-branch.true
    ∙ c.loop-stmt.invariant.2

pub loop-stmt-preserved : goal.loop-stmt-preserved
loop-stmt-preserved c = let l = c.loop-stmt.self in let now = c.take.new.self in let new = c.begin.new.self in
    let v = c.loop-stmt.invariant in let s = view.statement c.in-Some.stmt.now in
    let taken = c.in-Some.ensures.taken in let begun = c.in_ok-begin.ensures in
    let on = record now.body { steps = now.body.steps - 1 } in
    let e = ap (λ x. x.task) taken.1 in let w = ap (λ x. x.stand) taken.1 in
    let p = some_left now.body.steps (sym c.is_spent.ensures ∙ c.if-is_spent.false) in
    let step : IsStep on s (Ok true) new.body =
    subst (λ b. IsStep on s (Ok b) new.body) c.if-not-branch.false begun.task in
    let z = begun.stand in (
      sym (next_ask-goes_on l.body now.body s taken.0 e p new.body step) ∙ v.0,
      step.2 ∙ ap (λ x. x.script) e ∙ v.1,
      ap (stand_ask new.body.steps new.body) (z ∙ ap (stand_begun on s) w)
          ∙ stand_passes l.body now.body (shown l).stand s taken.0 e p new.body step.0 step.1 ∙ v.2,
      passed_ready l v.3 now s c.in-Some.ensures.home taken.0 (ap (λ x. x.script) e) w new on begun.home refl refl
          step.0 z,
      begun.home ∙ c.in-Some.ensures.home ∙ v.4,
    )
