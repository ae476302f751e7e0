use Rattle.std.proofs.Common.{◌≡◌, ◌-◌, ◌∙◌, ◌∷◌, ◌++◌, length, map, sym, ap, arith, rules, false}
use Rattle.tj_syntax.specs.Trees as tree
use Rattle.tj_syntax.specs.View as view
use Rattle.tj_syntax.specs.declared.stmt.Stmt.{the_lemmas}
use Rattle.tj_eval.specs.Bodies.{rest_of}
use Rattle.tj_eval.specs.Expressions.{is_zero, value}
use Rattle.tj_eval.specs.Statements.{listed, next_ask}
use Rattle.tj_eval.proofs.Blocks.{next-outer, nil_of}
use Rattle.tj_eval.proofs.Runs.{next_ask-turns}
use Rattle.tj_eval.proofs.state.State.turn.Goals as goal

pub returns-then-n-ne0-clause-ask : goal.returns-then-n-ne0-clause-ask
returns-then-n-ne0-clause-ask c = let here = c.self.inside in let w = c.in-Some-While-default in
    let t = c.args.self.now in let x = view.expression w.e in let b = view.block w.body in
    let around = rest_of (map (λ block. map view.statement block.now) here.around.items) in
    let more = map view.statement w.field-0-1.now ++ around in
    let outer = map view.statement here.outer.now ++ around in
    let empty : length here.block.now ≡ 0 = search rules in
    let is : view.statement w.field-0-0.now ≡ tree.repeat x b = search (rules, the_lemmas) in
    let next = ap (λ z. z.rest) (sym c.self.view_is)
    ∙ next-outer view.statement here.block.now here.outer.now around w.field-0-0.now w.field-0-1.now empty
    w.ensures.cases.0 ∙ ap (λ z. z ∷ more) is in
    let vars = c.deref.ensures.value ∙ ap (λ z. z.vars) c.self.view_is in
    let holds : is_zero c.in-Some.n ≡ false = search rules in
    let body : map view.statement c.statements-self-inside.result.now ≡ listed b = search (rules, the_lemmas) in
    let behind = ap (λ l. map view.statement l ++ outer) (sym (nil_of here.block.now empty))
    ∙ ap (λ z. z.rest) c.self.view_is in
    let rest = ap (λ l. l ++ outer) body ∙ ap (λ l. listed b ++ l) behind in
    let list = map view.statement c.statements-self-inside.result.now ++ outer in
    ap (λ z. next_ask (here.steps - 1) (record z { rest = list; steps = here.steps - 1 })) c.self.view_is
    ∙ next_ask-turns t x b more c.in-Some.n next
    (omega (arith, c.if-self-eq0.false, ap (λ z. z.steps) c.self.view_is))
    (ap (λ vs. value vs x) (sym vars) ∙ ap (λ z. value c.deref.result.now (view.expression z)) (sym w.e-is)
    ∙ c.in-Some.ensures) holds
    (record t { rest = list; steps = here.steps - 1 })
    (ap (λ l. record t { rest = l; steps = here.steps - 1 }) rest
    ∙ ap (λ n. record t { rest = listed b ++ t.rest; steps = n }) (ap (λ z. z.steps - 1) c.self.view_is))
