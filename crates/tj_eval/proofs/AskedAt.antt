-- A task stands at the statement whose beginning gives its ask.
use Rattle.std.proofs.Common.{◌≡◌, ℕ, zero, suc, ◌+◌, ℤ, Bool, true, false, List, [], ◌∷◌, length, refl, sym, subst, pos}
use Rattle.std.specs.Prelude.{Option, Some, None, Result, Ok, Err, slice_get, nat_eq, if◌then◌else◌}
use Rattle.tj_base.specs.declared.cause.Trouble.{Trouble}
use Rattle.tj_base.specs.declared.cause.Trouble.TheVariants as trouble
use Rattle.tj_base.specs.declared.value.Pay.TheVariants as pay
use Rattle.tj_body.specs.declared.ask.Ask.{Ask}
use Rattle.tj_body.specs.declared.ask.Ask.TheVariants as ask
use Rattle.tj_body.specs.Asks.{new_places}
use Rattle.tj_syntax.specs.Trees as tree
use Rattle.tj_syntax.specs.Trees.{Given, Statement, Task, Argument}
use Rattle.tj_eval.specs.AskedAt.{GoesOn, path_here, path_on, IsAskOfEffect, AsksWhere, AsksAt, AsksAfter}
use Rattle.tj_eval.specs.AskedAt.{StandsAtItsAsk}
use Rattle.tj_eval.specs.Expressions.{held}
use Rattle.tj_eval.specs.Stands.{Stand, AreNamed, stand_begun, stand_from, stand_of, stand_ask}
use Rattle.tj_eval.specs.Stands.{IsAt, within, stand_after, decided}
use Rattle.tj_eval.specs.Statements.{TaskState, Effect, goes_on, asks, fails, begun, then_effect, Next, next_from}
use Rattle.tj_eval.specs.Statements.{next_of, next_ask, failed, asked, given, forked, value_in, number, reference}
use Rattle.tj_eval.specs.Statements.{arguments, reference_of, answered, next_after}
use Rattle.tj_eval.proofs.Stands.{IsRightEffect, right_begun, rest_answered, IsSameRest}

-- What a statement that asks nothing leaves may still begin.
abbrev KeepsSteps : ℕ → Effect → Type 0
KeepsSteps n (goes_on new) = new.steps ≡ n
KeepsSteps n (asks q new) = Unit {0}
KeepsSteps n (fails fault) = Unit {0}

keeps_then : {A : Type 0} (n : ℕ) (c : Result A Trouble) (go : A → Effect) → ((x : A) → KeepsSteps n (go x))
    → KeepsSteps n (then_effect c go)
keeps_then n (Ok x) go h = h x
keeps_then n (Err fault) go h = tt

keeps_if : (n : ℕ) (b : Bool) (x y : Effect) → KeepsSteps n x → KeepsSteps n y → KeepsSteps n (if b then x else y)
keeps_if n true x y h k = h
keeps_if n false x y h k = k

keeps_forked : (t : TaskState) (o : Option Task) (into : Option ℕ) (list : List Argument)
    → KeepsSteps t.steps (forked t o into list)
keeps_forked t None into list = tt
keeps_forked t (Some d) into list = keeps_if t.steps (nat_eq (length list) d.params) _ _
    (keeps_then t.steps (arguments t.vars list) _ (λ values. tt)) tt

keeps_asked : (t : TaskState) (into : Option ℕ) (q : tree.Ask) → KeepsSteps t.steps (asked t into q)
keeps_asked t into tree.new = tt
keeps_asked t into (tree.fork f list) = keeps_forked t (slice_get t.script f) into list
keeps_asked t into (tree.get r None) = keeps_then t.steps (reference_of t r) _ (λ k. tt)
keeps_asked t into (tree.get r (Some e)) = keeps_then t.steps (reference_of t r) _ (λ k. tt)
keeps_asked t into (tree.join r None) = keeps_then t.steps (reference_of t r) _ (λ k. tt)
keeps_asked t into (tree.join r (Some e)) = keeps_then t.steps (reference_of t r) _ (λ k. tt)

keeps_given : (t : TaskState) (x : ℕ) (side : Given) → KeepsSteps t.steps (given t x side)
keeps_given t x (tree.answer q) = keeps_asked t (Some x) q
keeps_given t x (tree.result_of e) = keeps_then t.steps (value_in t e) _ (λ v. refl)

keeps_steps : (t : TaskState) (s : Statement) → KeepsSteps t.steps (begun t s)
keeps_steps t (tree.let_new x side) = keeps_given t x side
keeps_steps t (tree.assign x side) = keeps_given t x side
keeps_steps t (tree.ask q) = keeps_asked t None q
keeps_steps t (tree.print e) = keeps_then t.steps (number (value_in t e)) _ (λ n. tt)
keeps_steps t (tree.set_cell x e) = keeps_then t.steps (reference (Ok (held t.vars x))) _
    (λ k. keeps_then t.steps (value_in t e) _ (λ v. tt))
keeps_steps t (tree.return e) = keeps_then t.steps (value_in t e) _ (λ v. tt)
keeps_steps t (tree.choose e body other) = keeps_then t.steps (number (value_in t e)) _ (λ n. refl)
keeps_steps t (tree.repeat e body) = keeps_then t.steps (number (value_in t e)) _ (λ n. refl)

pub same_at : (c : Result ℤ Trouble) (go : ℤ → List ℕ) (z : Stand) → (decided c go z).at ≡ z.at
same_at (Ok n) go z = refl
same_at (Err fault) go z = refl

-- a statement that begins leaves the number at which the task stands
pub at_begun : (t : TaskState) (s : Statement) (z : Stand) → (stand_begun t s z).at ≡ z.at
at_begun t (tree.choose e body other) z = same_at (number (value_in t e)) _ z
at_begun t (tree.repeat e body) z = same_at (number (value_in t e)) _ z
at_begun t s z = refl

module _ (all : List Statement) where
  -- the task asks where it is
  at_once : (at : ℕ) (t : TaskState) (q : Ask TaskState) (rest : List Statement) (n : ℕ) → t.rest ≡ rest → t.steps ≡ n
      → AsksWhere all at t rest n q → AsksAt all at t q
  at_once at t q rest n e k h = record {
    last = t;
    path = path_here t;
    asks = subst (λ r. AsksWhere all at t r t.steps q) (sym e) (subst (λ m. AsksWhere all at t rest m q) (sym k) h);
  }

  -- the task goes on first
  later : (at : ℕ) (t u : TaskState) (q : Ask TaskState) → GoesOn t u → AsksAt all at u q → AsksAt all at t q
  later at t u q g h = record { last = h.last; path = path_on t u h.last g h.path; asks = h.asks }

  -- the next statement begins, and comes to this
  module _ (n : ℕ) (t : TaskState) (s : Statement) (rest : List Statement) (r : t.rest ≡ s ∷ rest) (k : t.steps ≡ suc n)
    where
      abbrev on : TaskState
      on = record t { rest = rest; steps = n }

      from : (effect : Effect) (z w : Stand) → begun on s ≡ effect → IsAt all w.at s → IsRightEffect all on z effect w
          → ((new : TaskState) → AreNamed all w.ahead new.rest → new.steps ≡ n
          → AsksAt all (stand_ask n new w).at new (next_ask n new).0)
          → AsksAt all (stand_from w effect (stand_ask n)).at t (next_from on effect (next_ask n)).0
      from (goes_on new) z w e a h go =
          let m = subst (KeepsSteps n) e (keeps_steps on s) in
          later (stand_ask n new w).at t new (next_ask n new).0
          (record { statement = s; rest = rest; steps = n; is_next = r; may_begin = k; goes = e }) (go new h.named m)
      from (asks q new) z w e a h go = at_once w.at t q (s ∷ rest) (suc n) r k
          (a, subst (λ z. IsAskOfEffect z q) (sym e) refl)
      from (fails fault) z w e a h go = at_once w.at t (ask.Fail fault) (s ∷ rest) (suc n) r k
          (a, subst (λ z. IsAskOfEffect z (ask.Fail fault)) (sym e) refl)

  -- The task has these statements left, and stands with these numbers ahead.
  asked_of : (t : TaskState) (decl at called : ℕ) (rest : List Statement) (ahead : List ℕ) → t.rest ≡ rest
      → (go : Statement → List Statement → Next) (stand : Statement → List Statement → Stand → Stand)
      → AreNamed all ahead rest
      → ((s : Statement) (more : List Statement) (n : ℕ) (ns : List ℕ) → t.rest ≡ s ∷ more → IsAt all n s
      → AreNamed all ns more → let w : Stand = record { decl = decl; ahead = ns; at = n; called = 0 } in
      AsksAt all (stand s more w).at t (go s more).0)
      → let z : Stand = record { decl = decl; ahead = ahead; at = at; called = called } in
      AsksAt all (stand_of z rest stand).at t (next_of t rest go).0
  asked_of t decl at called rest [] e go stand h k = absurd h
  asked_of t decl at called [] (n ∷ ns) e go stand h k = at_once n t (ask.End (pay.Num (pos 0))) [] t.steps e refl
      (h.0, refl)
  asked_of t decl at called (s ∷ more) (n ∷ ns) e go stand h k = k s more n ns e h.0 h.1

  asked_on : (n : ℕ) (t : TaskState) (z : Stand) → t.steps ≡ n → AreNamed all z.ahead t.rest
      → AsksAt all (stand_ask n t z).at t (next_ask n t).0
  asked_on zero t z m h = asked_of t z.decl z.at z.called t.rest z.ahead refl
      (λ s rest. (ask.Fail trouble.Steps, failed (record t { rest = rest }))) (λ s rest w. w) h
      (λ s more k ns r at rest. at_once k t (ask.Fail trouble.Steps) (s ∷ more) zero r m (at, refl))
  asked_on (suc n) t z m h = asked_of t z.decl z.at z.called t.rest z.ahead refl
      (λ s rest. let on = record t { rest = rest; steps = n } in next_from on (begun on s) (next_ask n))
      (λ s rest w. let on = record t { rest = rest; steps = n } in
      stand_from (stand_begun on s w) (begun on s) (stand_ask n)) h
      (λ s more k ns r at rest. let now = record t { rest = more; steps = n } in
      let w : Stand = record { decl = z.decl; ahead = ns; at = k; called = 0 } in
      from n t s more r m (begun now s) w (stand_begun now s w) refl
      (subst (λ i. IsAt all i s) (sym (at_begun now s w)) at) (right_begun all now w rest s at)
      (λ new named steps. asked_on n new (stand_begun now s w) steps named))

-- a task that stands right stands at the statement that gives its ask
pub stands_at_ask : StandsAtItsAsk
stands_at_ask x a h = let t = record x.task { places = x.task.places + new_places a } in
    by t (answered t t.due a) h.named (rest_answered t t.due a) where
      by : (t : TaskState) (r : Result TaskState Trouble) → AreNamed (within h.task.body) x.stand.ahead t.rest
          → IsSameRest t r → AsksAfter (within h.task.body) x.stand.at (stand_after r x.stand).at r (next_after t r).0
      by t (Ok new) named same = asked_on (within h.task.body) new.steps new x.stand refl
          (subst (AreNamed (within h.task.body) x.stand.ahead) (sym same.0) named)
      by t (Err fault) named same = (refl, refl)
