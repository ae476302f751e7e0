-- A task of a script without get never asks for one.
use Rattle.std.proofs.Common.{◌≡◌, ℕ, zero, suc, Bool, true, false, List, [], ◌∷◌, ◌++◌, map, refl, sym}
use Rattle.std.proofs.Common.{subst, ◌∙◌, ◌+◌}
use Rattle.std.proofs.lemmas.Bool.{and_from}
use Rattle.std.proofs.lemmas.List.Folds.{list_all-append}
use Rattle.std.specs.Prelude.{codes, slice_get, Option, Some, None, Result, Ok, Err, if◌then◌else◌, nat_eq}
use Rattle.std.specs.List.{list_all}
use Rattle.std.specs.Cmp.{first_so, second_so}
use Rattle.tj_base.specs.declared.value.Pay.{Pay}
use Rattle.tj_base.specs.declared.cause.Trouble.{Trouble}
use Rattle.tj_base.specs.declared.cause.Trouble.TheVariants as trouble
use Rattle.tj_body.specs.declared.ask.Answer.{Answer}
use Rattle.tj_body.specs.declared.ask.Answer.TheVariants as answer
use Rattle.tj_body.specs.Asks.{new_places}
use Rattle.tj_syntax.specs.Faults.{task_at}
use Rattle.tj_syntax.specs.Marks as marks
use Rattle.tj_syntax.specs.Trees as tree
use Rattle.tj_syntax.specs.Trees.{Argument, Given, Statement, Statements, Otherwise, Task}
use Rattle.tj_eval.specs.Expressions.{Computed, is_zero, held}
use Rattle.tj_eval.specs.Statements.{TaskState, Effect, goes_on, asks, fails, Next, kept, listed, otherwise, then_effect}
use Rattle.tj_eval.specs.Statements.{arguments, forked, reference_of}
use Rattle.tj_eval.specs.Statements.{asked, given, begun, next_from, next_of, next_ask, next_after, Due, start, place}
use Rattle.tj_eval.specs.Statements.{cell, cell_or, done, over}
use Rattle.tj_eval.specs.Statements.{first, number, reference, value_of, kept_if, or_else_of, answered_or_else, answered}
use Rattle.tj_eval.specs.Statements.{value_in}
use Rattle.tj_eval.specs.Bodies.{script_asks, script_then, IsMainBody}
use Rattle.tj_eval.specs.Gets.{is_no_get, gives_no_get, has_no_get, have_no_get, other_has_no_get, script_has_no_get}
use Rattle.tj_eval.specs.Gets.{asks_no_get, IsNoGet}

all-append : {A : Type 0} (p : A → Bool) (xs ys : List A) → list_all p xs ≡ true → list_all p ys ≡ true
    → list_all p (xs ++ ys) ≡ true
all-append p xs ys h k = list_all-append p xs ys ∙ and_from (list_all p xs) (list_all p ys) h k

-- the statements of a block have no get where the block has none
listed-without : (body : Statements) → have_no_get body ≡ true → list_all has_no_get (listed body) ≡ true
listed-without tree.no_more h = refl
listed-without (tree.then_do s more) h = and_from (has_no_get s) (list_all has_no_get (listed more))
    (first_so (has_no_get s) (have_no_get more) h) (listed-without more (second_so (has_no_get s) (have_no_get more) h))

otherwise-without : (other : Otherwise) → other_has_no_get other ≡ true → list_all has_no_get (otherwise other) ≡ true
otherwise-without tree.nothing h = refl
otherwise-without (tree.block body) h = listed-without body h

-- a task of a script without get, as two facts
abbrev IsWithout : TaskState → Type 0
IsWithout t = (script_has_no_get t.script ≡ true) × (list_all has_no_get t.rest ≡ true)

without-parts : (t : TaskState) → asks_no_get t ≡ true → IsWithout t
without-parts t h = let a = script_has_no_get t.script in let b = list_all has_no_get t.rest in
    (first_so a b h, second_so a b h)

without-test : (t : TaskState) → IsWithout t → asks_no_get t ≡ true
without-test t h = and_from (script_has_no_get t.script) (list_all has_no_get t.rest) h.0 h.1

abbrev IsEffectWithout : Effect → Type 0
IsEffectWithout (goes_on new) = IsWithout new
IsEffectWithout (asks q new) = IsNoGet q × IsWithout new
IsEffectWithout (fails fault) = Unit {0}

without-effect : {A : Type 0} (c : Result A Trouble) (go : A → Effect) → ((x : A) → IsEffectWithout (go x))
    → IsEffectWithout (then_effect c go)
without-effect (Ok x) go h = h x
without-effect (Err fault) go h = tt

without-if : (b : Bool) (x y : Effect) → IsEffectWithout x → IsEffectWithout y → IsEffectWithout (if b then x else y)
without-if true x y h k = h
without-if false x y h k = k

-- it holds of the task, if there is one
abbrev IfTask : (Task → Type 0) → Option Task → Type 0
IfTask P None = Unit {0}
IfTask P (Some d) = P d

task-without : (script : List Task) (f : ℕ) → script_has_no_get script ≡ true
    → IfTask (λ d. have_no_get d.body ≡ true) (slice_get script f)
task-without [] f h = tt
task-without (d ∷ script) zero h = first_so (have_no_get d.body) (script_has_no_get script) h
task-without (d ∷ script) (suc f) h =
    task-without script f (second_so (have_no_get d.body) (script_has_no_get script) h)

without-forked : (t : TaskState) (d : Option Task) (into : Option ℕ) (list : List Argument) → IsWithout t
    → IfTask (λ d. have_no_get d.body ≡ true) d → IsEffectWithout (forked t d into list)
without-forked t None into list h k = tt
without-forked t (Some d) into list h k = without-if (nat_eq _ d.params) _ (fails trouble.Kind)
    (without-effect (arguments t.vars list) _
    (λ values. (and_from (script_has_no_get t.script) _ h.0 (listed-without d.body k), h))) tt

no_truth : false ≡ true → ⊥
no_truth e = cc

without-asked : (t : TaskState) (into : Option ℕ) (q : tree.Ask) → IsWithout t → is_no_get q ≡ true
    → IsEffectWithout (asked t into q)
without-asked t into tree.new h e = (tt, h)
without-asked t into (tree.fork f list) h e =
    without-forked t (slice_get t.script f) into list h (task-without t.script f h.0)
without-asked t into (tree.get r other) h e = absurd (no_truth e)
without-asked t into (tree.join r None) h e = without-effect (reference_of t r) _ (λ k. (tt, h))
without-asked t into (tree.join r (Some other)) h e = without-effect (reference_of t r) _ (λ k. (tt, h))

without-kept : (t : TaskState) (into : Option ℕ) (v : Pay) → IsWithout t → IsWithout (kept into v t)
without-kept t None v h = h
without-kept t (Some x) v h = h

without-given : (t : TaskState) (x : ℕ) (side : Given) → IsWithout t → gives_no_get side ≡ true
    → IsEffectWithout (given t x side)
without-given t x (tree.answer q) h e = without-asked t (Some x) q h e
without-given t x (tree.result_of e) h _ = without-effect (value_in t e) _ (λ v. without-kept t (Some x) v h)

without-first : (t : TaskState) (b : Bool) (xs ys : List Statement) → IsWithout t → list_all has_no_get xs ≡ true
    → list_all has_no_get ys ≡ true → IsWithout (first (if b then xs else ys) t)
without-first t true xs ys h k l = (h.0, all-append has_no_get xs t.rest k h.1)
without-first t false xs ys h k l = (h.0, all-append has_no_get ys t.rest l h.1)

without-begun : (t : TaskState) (s : Statement) → IsWithout t → has_no_get s ≡ true → IsEffectWithout (begun t s)
without-begun t (tree.let_new x side) h e = without-given t x side h e
without-begun t (tree.assign x side) h e = without-given t x side h e
without-begun t (tree.ask q) h e = without-asked t None q h e
without-begun t (tree.print x) h e = without-effect (number (value_in t x)) _ (λ n. (tt, h))
without-begun t (tree.set_cell x v) h e =
    without-effect (reference (Ok (held t.vars x))) _ (λ k. without-effect (value_in t v) _ (λ v. (tt, h)))
without-begun t (tree.return x) h e = without-effect (value_in t x) _ (λ v. (tt, h))
without-begun t (tree.choose x body other) h e = let a = have_no_get body in let b = other_has_no_get other in
    without-effect (number (value_in t x)) _ (λ n. without-first t (is_zero n) (otherwise other) (listed body) h
    (otherwise-without other (second_so a b e)) (listed-without body (first_so a b e)))
without-begun t (tree.repeat x body) h e = without-effect (number (value_in t x)) _
    (λ n. without-first t (is_zero n) [] (listed body ++ tree.repeat x body ∷ []) h refl
    (all-append has_no_get (listed body) (tree.repeat x body ∷ []) (listed-without body e)
    (and_from (have_no_get body) true e refl)))

-- the ask is no get, and the task from then on is without one
abbrev IsNextWithout : Next → Type 0
IsNextWithout n = IsNoGet n.0 × IsWithout n.1

without-next_from : (t : TaskState) (effect : Effect) (go : TaskState → Next) → IsWithout t → IsEffectWithout effect
    → ((new : TaskState) → IsWithout new → IsNextWithout (go new)) → IsNextWithout (next_from t effect go)
without-next_from t (goes_on new) go h k more = more new k
without-next_from t (asks q new) go h k more = k
without-next_from t (fails fault) go h k more = (tt, h)

without-next_of : (t : TaskState) (rest : List Statement) (go : Statement → List Statement → Next) → IsWithout t
    → list_all has_no_get rest ≡ true
    → ((s : Statement) (more : List Statement) → has_no_get s ≡ true → list_all has_no_get more ≡ true
    → IsNextWithout (go s more))
    → IsNextWithout (next_of t rest go)
without-next_of t [] go h e k = (tt, h)
without-next_of t (s ∷ rest) go h e k =
    k s rest (first_so (has_no_get s) (list_all has_no_get rest) e)
    (second_so (has_no_get s) (list_all has_no_get rest) e)

without-next_ask : (n : ℕ) (t : TaskState) → IsWithout t → IsNextWithout (next_ask n t)
without-next_ask zero t h = without-next_of t t.rest _ h h.1 (λ s rest _ f. (tt, (h.0, f)))
without-next_ask (suc n) t h = without-next_of t t.rest _ h h.1 (λ s rest e f.
    without-next_from (record t { rest = rest; steps = n }) (begun (record t { rest = rest; steps = n }) s) (next_ask n)
    (h.0, f)
    (without-begun (record t { rest = rest; steps = n }) s (h.0, f) e) (without-next_ask n))

abbrev IfWithout : Result TaskState Trouble → Type 0
IfWithout (Ok new) = IsWithout new
IfWithout (Err fault) = Unit {0}

without-kept_if : (t : TaskState) (into : Option ℕ) (v : Option Pay) → IsWithout t → IsWithout (kept_if into v t)
without-kept_if t into None h = h
without-kept_if t into (Some v) h = without-kept t into v h

without-or_else_of : (t : TaskState) (into : Option ℕ) (c : Computed) → IsWithout t → IfWithout (or_else_of t into c)
without-or_else_of t into (Ok v) h = without-kept t into v h
without-or_else_of t into (Err fault) h = tt

without-answered_or_else : (t : TaskState) (into : Option ℕ) (e : tree.Expression) (a : Answer) → IsWithout t
    → IfWithout (answered_or_else t into e a)
without-answered_or_else t into e answer.Start h = h
without-answered_or_else t into e answer.Done h = h
without-answered_or_else t into e answer.Lost h = without-or_else_of t into (value_in t e) h
without-answered_or_else t into e a h = without-kept t into _ h

without-answered : (t : TaskState) (d : Due) (a : Answer) → IsWithout t → IfWithout (answered t d a)
without-answered t start a h = h
without-answered t (place into) a h = without-kept_if t into (value_of a) h
without-answered t (cell into) a h = without-kept_if t into (value_of a) h
without-answered t (cell_or into e) a h = without-answered_or_else t into e a h
without-answered t done a h = h
without-answered t over a h = h

without-after : (t : TaskState) (r : Result TaskState Trouble) → IsWithout t → IfWithout r
    → IsNextWithout (next_after t r)
without-after t (Ok new) h k = without-next_ask new.steps new k
without-after t (Err fault) h k = (tt, h)

-- the next ask of a task without get is no get, and the task is without one from then on
pub asks_none : (t : TaskState) (a : Answer) → asks_no_get t ≡ true → IsNoGet (script_asks t a)
    × (asks_no_get (script_then t a) ≡ true)
asks_none t a h = let w = without-parts t h in let now = record t { places = t.places + new_places a } in
    let n = without-after now (answered now t.due a) w (without-answered now t.due a w) in
    (n.0, without-test (script_then t a) n.1)

main-without : (script : List Task) (n : Option ℕ) → script_has_no_get script ≡ true
    → IfTask (λ d. have_no_get d.body ≡ true) (task_at script n)
main-without script None h = tt
main-without script (Some n) h = task-without script n h

-- the task `main` of a script without get is without one
pub main_asks_none : (script : List Task) (steps : ℕ) (body : TaskState) → script_has_no_get script ≡ true
    → IsMainBody script steps body → asks_no_get body ≡ true
main_asks_none script steps body h (main, found, is) = subst (λ b. asks_no_get b ≡ true) (sym is)
    (and_from (script_has_no_get script) _ h (listed-without main.body
    (subst (IfTask (λ d. have_no_get d.body ≡ true)) found
    (main-without script (marks.index_of (map (λ t. t.name) script) (codes "main")) h))))
