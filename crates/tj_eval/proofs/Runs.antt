-- The path to the next ask, one statement at a time.
use Rattle.std.proofs.Common.{◌≡◌, ℕ, zero, suc, ◌-◌, ◌<◌, ℤ, List, [], ◌∷◌, ◌++◌, pos, refl, ap, sym, ◌∙◌, arith}
use Rattle.std.proofs.Common.{append_assoc}
use Rattle.tj_base.specs.declared.value.Pay.TheVariants as pay
use Rattle.tj_base.specs.declared.cause.Trouble.{Trouble}
use Rattle.tj_base.specs.declared.cause.Trouble.TheVariants as trouble
use Rattle.tj_body.specs.declared.ask.Ask.TheVariants as ask
use Rattle.tj_syntax.specs.Trees as tree
use Rattle.tj_syntax.specs.Trees.{Expression, Statement, Statements}
use Rattle.std.specs.Prelude.{Bool, true, false, Ok, Err, if◌then◌else◌}
use Rattle.tj_eval.specs.declared.halt.Halt.TheVariants.{Fault}
use Rattle.tj_eval.specs.Expressions.{is_zero}
use Rattle.tj_eval.specs.Inner.Effects.{IsStep, is_ask}
use Rattle.tj_eval.specs.Statements.{TaskState, ended, failed, begun, next_from, next_of, next_ask}
use Rattle.tj_eval.specs.Statements.{first, goes_on, listed, number, then_effect, value_in}

-- where no statement is left the task ends, at no cost
pub next_ask-done : (n : ℕ) (t : TaskState) → t.rest ≡ [] → next_ask n t ≡ (ask.End (pay.Num (pos 0)), ended t)
next_ask-done zero t e = ap (λ z. next_of t z (λ s rest. (ask.Fail trouble.Steps, failed (record t { rest = rest })))) e
next_ask-done (suc n) t e = ap (λ z. next_of t z
    (λ s rest. let on = record t { rest = rest; steps = n } in next_from on (begun on s) (next_ask n))) e

begins : (n : ℕ) (t : TaskState) (s : Statement) (rest : List Statement) → t.rest ≡ s ∷ rest
    → next_ask (suc n) t ≡ next_from (record t { rest = rest; steps = n })
    (begun (record t { rest = rest; steps = n }) s) (next_ask n)
begins n t s rest e = ap (λ z. next_of t z
    (λ s rest. let on = record t { rest = rest; steps = n } in next_from on (begun on s) (next_ask n))) e

-- a statement begins
pub next_ask-begins : (old t : TaskState) (s : Statement) → old.rest ≡ s ∷ t.rest → t ≡ record old { rest = t.rest }
    → 0 < t.steps
    → next_ask old.steps old
    ≡ next_from (record t { steps = t.steps - 1 }) (begun (record t { steps = t.steps - 1 }) s) (next_ask (t.steps - 1))
next_ask-begins old t s r e p = let same : t.steps ≡ old.steps = ap (λ z. z.steps) e in
    let one : old.steps ≡ suc (t.steps - 1) = omega arith in
    ap (λ n. next_ask n old) one ∙ begins (t.steps - 1) old s t.rest r
    ∙ ap (λ z. next_from (record z { steps = t.steps - 1 }) (begun (record z { steps = t.steps - 1 }) s)
    (next_ask (t.steps - 1))) (sym e)

-- no statement may begin
spent : (n : ℕ) (t : TaskState) (s : Statement) (rest : List Statement) → t.rest ≡ s ∷ rest → n ≡ 0
    → next_ask n t ≡ (ask.Fail trouble.Steps, failed (record t { rest = rest }))
spent zero t s rest e z =
    ap (λ w. next_of t w (λ s rest. (ask.Fail trouble.Steps, failed (record t { rest = rest })))) e
spent (suc n) t s rest e z = absurd (omega arith)

not_both : true ≡ false → ⊥
not_both e = cc

-- A statement is taken from those that remain.
module _ (old t : TaskState) (s : Statement) (r : old.rest ≡ s ∷ t.rest) (e : t ≡ record old { rest = t.rest }) where
  -- where no statement may begin any more, the task fails
  pub next_ask-spent : t.steps ≡ 0 → next_ask old.steps old ≡ (ask.Fail trouble.Steps, failed t)
  next_ask-spent z = spent old.steps old s t.rest r (sym (ap (λ w. w.steps) e) ∙ z)
      ∙ ap (λ w. (ask.Fail trouble.Steps, failed w)) (sym e)

  module _ (p : 0 < t.steps) where
    abbrev on : TaskState
    on = record t { steps = t.steps - 1 }

    -- where it asks nothing, the path goes on from there
    pub next_ask-goes_on : (new : TaskState) → IsStep on s (Ok true) new
        → next_ask old.steps old ≡ next_ask new.steps new
    next_ask-goes_on new h = next_ask-begins old t s r e p
        ∙ ap (λ z. next_from on z (next_ask (t.steps - 1))) h.0 ∙ ap (λ n. next_ask n new) (sym h.1)

    -- where it asks, that is the next ask
    pub next_ask-stops : (taken : Bool) (new : TaskState) → IsStep on s (Ok taken) new → taken ≡ false
        → (next_ask old.steps old ≡ next_from new (begun new s) (next_ask new.steps))
        × (is_ask s ≡ true) × (new.script ≡ old.script)
    next_ask-stops true new h f = absurd (not_both f)
    next_ask-stops false new h f = (
      next_ask-begins old t s r e p ∙ ap (λ z. next_from z (begun z s) (next_ask z.steps)) (sym h.1),
      h.0,
      ap (λ z. z.script) h.1 ∙ ap (λ z. z.script) e,
    )

    -- where it fails, so does the task
    pub next_ask-fails : (fault : Trouble) (new : TaskState) → IsStep on s (Err (Fault fault)) new
        → next_ask old.steps old ≡ (ask.Fail fault, failed new)
    next_ask-fails fault new h = next_ask-begins old t s r e p
        ∙ ap (λ z. next_from on z (next_ask (t.steps - 1))) h.0 ∙ ap (λ z. (ask.Fail fault, failed z)) (sym h.1)

-- a loop that comes next, and whose condition holds, begins anew and remains behind its body
module _ (old : TaskState) (e : Expression) (body : Statements) (rest : List Statement) (n : ℤ)
    (r : old.rest ≡ tree.repeat e body ∷ rest) (p : 0 < old.steps) (v : value_in old e ≡ Ok (pay.Num n))
    (z : is_zero n ≡ false) (new : TaskState)
    (g : new ≡ record old { rest = listed body ++ old.rest; steps = old.steps - 1 }) where
  abbrev after : TaskState
  after = record old { rest = rest; steps = old.steps - 1 }

  turned : begun after (tree.repeat e body) ≡ goes_on new
  turned = ap (λ c. then_effect (number c)
      (λ i. goes_on (first (if is_zero i then [] else listed body ++ tree.repeat e body ∷ []) after))) v
      ∙ ap (λ b. goes_on (first (if b then [] else listed body ++ tree.repeat e body ∷ []) after)) z
      ∙ ap (λ list. goes_on (record after { rest = list })) (append_assoc (listed body) (tree.repeat e body ∷ []) rest)
      ∙ ap (λ list. goes_on (record after { rest = listed body ++ list })) (sym r) ∙ ap (λ t. goes_on t) (sym g)

  pub next_ask-turns : next_ask new.steps new ≡ next_ask old.steps old
  next_ask-turns = sym (next_ask-goes_on old (record old { rest = rest }) (tree.repeat e body) r refl p new
      (turned, ap (λ t. t.steps) g, ap (λ t. t.script) g))
