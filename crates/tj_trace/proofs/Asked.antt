-- A task stands, at each of its asks, at a statement that can ask this.
use Rattle.tj_trace.proofs.Prelude.{Ask, Bool, List, [], ap, inl, inr, refl, suc, sym, true, ℕ, ◌+◌, ◌∙◌, ◌∷◌, ◌≡◌, ◌⊎◌}
use Rattle.std.proofs.Common.{zero, pos, false, ◌++◌, length, subst}
use Rattle.std.specs.Prelude.{Option, Some, None, Result, Ok, Err, slice_get, nat_eq, if◌then◌else◌}
use Rattle.tj_base.specs.declared.cause.Trouble.{Trouble}
use Rattle.tj_body.specs.declared.ask.Answer.{Answer}
use Rattle.tj_body.specs.Asks.{new_places}
use Rattle.tj_syntax.specs.Parts.{own_ask}
use Rattle.tj_syntax.specs.Trees.{Statement, Task, Argument}
use Rattle.tj_syntax.specs.Within.{inside}
use Rattle.tj_eval.specs.Bodies.{script_asks}
use Rattle.tj_eval.specs.Expressions.{held}
use Rattle.tj_eval.specs.Stands.{Stand, PlacedState, AreNamed, IsAt, callee, placed_then, stand_after, stand_begun}
use Rattle.tj_eval.specs.Stands.{stand_from, stand_of, stand_ask}
use Rattle.tj_eval.specs.Statements.{TaskState, Effect, goes_on, asks, fails, begun, then_effect, Next, next_from}
use Rattle.tj_eval.specs.Statements.{next_of, next_ask, failed, asked, forked, value_in, number, reference, arguments}
use Rattle.tj_eval.specs.Statements.{reference_of, answered, next_after}
use Rattle.tj_eval.proofs.Stands.{ChildOf, IsRightEffect, IsSameRest, right_begun, right_after, rest_answered}
use Rattle.tj_trace.specs.RightLines.{IsGet, IsJoin, IsSet, IsReturn}
use Rattle.tj_eval.proofs.AskedAt.{at_begun}
use Rattle.tj_base.specs.declared.cause.Trouble.TheVariants as trouble
use Rattle.tj_base.specs.declared.value.Pay.TheVariants as pay
use Rattle.tj_body.specs.declared.ask.Ask.TheVariants as ask
use Rattle.tj_syntax.specs.Trees as tree

-- the statement can ask this, where it forks that declaration if it forks one
abbrev pub IsAskOf : Statement → ℕ → Ask TaskState → Type 0
IsAskOf s f ask.New = own_ask s ≡ Some tree.new
IsAskOf s f (ask.Fork b pass hand) = (list : List Argument) × (own_ask s ≡ Some (tree.fork f list))
IsAskOf s f (ask.Set k v) = IsSet s
IsAskOf s f (ask.Get k) = IsGet (own_ask s)
IsAskOf s f (ask.Join k) = IsJoin (own_ask s)
IsAskOf s f (ask.GetOr k) = IsGet (own_ask s)
IsAskOf s f (ask.JoinOr k) = IsJoin (own_ask s)
IsAskOf s f (ask.Emit i) = Unit {0}
IsAskOf s f (ask.End v) = IsReturn s
IsAskOf s f (ask.Fail fault) = Unit {0}

-- what the statement comes to is an ask that it can ask, if it is one
abbrev Gives : Statement → ℕ → Effect → Type 0
Gives s f (goes_on new) = Unit {0}
Gives s f (asks q new) = IsAskOf s f q
Gives s f (fails fault) = Unit {0}

gives_then : {A : Type 0} (s : Statement) (f : ℕ) (c : Result A Trouble) (go : A → Effect)
    → ((x : A) → Gives s f (go x)) → Gives s f (then_effect c go)
gives_then s f (Ok x) go h = h x
gives_then s f (Err fault) go h = tt

gives_if : (s : Statement) (f : ℕ) (b : Bool) (x y : Effect) → Gives s f x → Gives s f y
    → Gives s f (if b then x else y)
gives_if s f true x y h k = h
gives_if s f false x y h k = k

gives_forked : (s : Statement) (t : TaskState) (o : Option Task) (into : Option ℕ) (f : ℕ) (list : List Argument)
    → own_ask s ≡ Some (tree.fork f list) → Gives s f (forked t o into list)
gives_forked s t None into f list e = tt
gives_forked s t (Some d) into f list e = gives_if s f (nat_eq (length list) d.params) _ _
    (gives_then s f (arguments t.vars list) _ (λ values. (list, e))) tt

gives_asked : (s : Statement) (t : TaskState) (into : Option ℕ) (q : tree.Ask) → own_ask s ≡ Some q
    → Gives s (callee q) (asked t into q)
gives_asked s t into tree.new e = e
gives_asked s t into (tree.fork f list) e = gives_forked s t (slice_get t.script f) into f list e
gives_asked s t into (tree.get r None) e = gives_then s 0 (reference_of t r) _ (λ k. subst IsGet (sym e) tt)
gives_asked s t into (tree.get r (Some x)) e = gives_then s 0 (reference_of t r) _ (λ k. subst IsGet (sym e) tt)
gives_asked s t into (tree.join r None) e = gives_then s 0 (reference_of t r) _ (λ k. subst IsJoin (sym e) tt)
gives_asked s t into (tree.join r (Some x)) e = gives_then s 0 (reference_of t r) _ (λ k. subst IsJoin (sym e) tt)

-- each statement that begins
gives_begun : (t : TaskState) (s : Statement) (z : Stand) → Gives s (stand_begun t s z).called (begun t s)
gives_begun t (tree.let_new x (tree.answer q)) z = gives_asked (tree.let_new x (tree.answer q)) t (Some x) q refl
gives_begun t (tree.let_new x (tree.result_of e)) z = gives_then (tree.let_new x (tree.result_of e)) 0 (value_in t e) _
    (λ v. tt)
gives_begun t (tree.assign x (tree.answer q)) z = gives_asked (tree.assign x (tree.answer q)) t (Some x) q refl
gives_begun t (tree.assign x (tree.result_of e)) z = gives_then (tree.assign x (tree.result_of e)) 0 (value_in t e) _
    (λ v. tt)
gives_begun t (tree.ask q) z = gives_asked (tree.ask q) t None q refl
gives_begun t (tree.print e) z = gives_then (tree.print e) z.called (number (value_in t e)) _ (λ n. tt)
gives_begun t (tree.set_cell x e) z = gives_then (tree.set_cell x e) z.called (reference (Ok (held t.vars x))) _
    (λ k. gives_then (tree.set_cell x e) z.called (value_in t e) _ (λ v. tt))
gives_begun t (tree.return e) z = gives_then (tree.return e) z.called (value_in t e) _ (λ v. tt)
gives_begun t (tree.choose e body other) z =
    let s = tree.choose e body other in gives_then s (stand_begun t s z).called (number (value_in t e)) _ (λ n. tt)
gives_begun t (tree.repeat e body) z =
    let s = tree.repeat e body in gives_then s (stand_begun t s z).called (number (value_in t e)) _ (λ n. tt)

-- a statement comes first of those within it
inside_first : (s : Statement) → (more : List Statement) × (inside s ≡ s ∷ more)
inside_first (tree.let_new x side) = ([], refl)
inside_first (tree.assign x side) = ([], refl)
inside_first (tree.ask q) = ([], refl)
inside_first (tree.print e) = ([], refl)
inside_first (tree.set_cell x e) = ([], refl)
inside_first (tree.return e) = ([], refl)
inside_first (tree.choose e body other) = (_, refl)
inside_first (tree.repeat e body) = (_, refl)

get_behind : {A : Type 0} (front : List A) (x : A) (more : List A)
    → slice_get (front ++ x ∷ more) (length front) ≡ Some x
get_behind [] x more = refl
get_behind (y ∷ front) x more = get_behind front x more

-- the statement has its number
pub is_numbered : (all : List Statement) (n : ℕ) (s : Statement) → IsAt all n s → slice_get all n ≡ Some s
is_numbered all n s at =
    let first = inside_first s in
    ap (λ l. slice_get l n) (at.split ∙ ap (λ l. at.front ++ (l ++ at.behind)) first.1)
    ∙ ap (slice_get (at.front ++ s ∷ (first.0 ++ at.behind))) (sym at.count)
    ∙ get_behind at.front s (first.0 ++ at.behind)

module _ (all : List Statement) where
  -- the task stands at the closing brace and ends, or at a statement that can ask this
  abbrev pub IsThere : Stand → Ask TaskState → Type 0
  IsThere z q =
      ((s : Statement) × (slice_get all z.at ≡ Some s) × IsAskOf s z.called q)
      ⊎ ((z.at ≡ length all) × (q ≡ ask.End (pay.Num (pos 0))))

  -- the statement at which the task stands begins, and comes to this
  from : (t : TaskState) (n : ℕ) (on : TaskState) (s : Statement) (effect : Effect) (z w : Stand)
      → slice_get all w.at ≡ Some s → Gives s w.called effect → IsRightEffect all t z effect w
      → ((new : TaskState) → AreNamed all w.ahead new.rest → IsThere (stand_ask n new w) (next_ask n new).0)
      → IsThere (stand_from w effect (stand_ask n)) (next_from on effect (next_ask n)).0
  from t n on s (goes_on new) z w a g h go = go new h.named
  from t n on s (asks q new) z w a g h go = inl (s, a, g)
  from t n on s (fails fault) z w a g h go = inl (s, a, tt)

  -- the task has these statements left, and stands with these numbers ahead
  there_of : (t : TaskState) (decl at called : ℕ) (rest : List Statement) (ahead : List ℕ)
      → (go : Statement → List Statement → Next) (stand : Statement → List Statement → Stand → Stand)
      → AreNamed all ahead rest
      → ((s : Statement) (more : List Statement) (n : ℕ) (ns : List ℕ) → IsAt all n s → AreNamed all ns more
      → let w : Stand = record { decl = decl; ahead = ns; at = n; called = 0 } in
      IsThere (stand s more w) (go s more).0)
      → let z : Stand = record { decl = decl; ahead = ahead; at = at; called = called } in
      IsThere (stand_of z rest stand) (next_of t rest go).0
  there_of t decl at called rest [] go stand h k = absurd h
  there_of t decl at called [] (n ∷ ns) go stand h k = inr (h.0, refl)
  there_of t decl at called (s ∷ more) (n ∷ ns) go stand h k = k s more n ns h.0 h.1

  there_on : (n : ℕ) (t : TaskState) (z : Stand) → AreNamed all z.ahead t.rest
      → IsThere (stand_ask n t z) (next_ask n t).0
  there_on zero t z h = there_of t z.decl z.at z.called t.rest z.ahead
      (λ s rest. (ask.Fail trouble.Steps, failed (record t { rest = rest }))) (λ s rest w. w) h
      (λ s more k ns at rest. inl (s, is_numbered all k s at, tt))
  there_on (suc n) t z h = there_of t z.decl z.at z.called t.rest z.ahead
      (λ s rest. let on = record t { rest = rest; steps = n } in next_from on (begun on s) (next_ask n))
      (λ s rest w. let on = record t { rest = rest; steps = n } in
      stand_from (stand_begun on s w) (begun on s) (stand_ask n)) h
      (λ s more k ns at rest. let now = record t { rest = more; steps = n } in
      let w : Stand = record { decl = z.decl; ahead = ns; at = k; called = 0 } in
      from now n now s (begun now s) w (stand_begun now s w)
      (ap (slice_get all) (at_begun now s w) ∙ is_numbered all k s at) (gives_begun now s w)
      (right_begun all now w rest s at) (λ new named. there_on n new (stand_begun now s w) named))

-- what the answer leaves of a task, unless the task fails at it
abbrev pub taken : TaskState → Answer → Result TaskState Trouble
taken t a = let on = record t { places = t.places + new_places a } in answered on t.due a

-- where the task may fail at the answer, it stands at a statement
abbrev pub MayTake : List Statement → PlacedState → Answer → Type 0
MayTake all x a =
    (fault : Trouble) → taken x.task a ≡ Err fault → (s : Statement) × (slice_get all x.stand.at ≡ Some s)

-- what a task that stands right asks for the answer, and what it then is
pub record Asked (all : List Statement) (x : PlacedState) (a : Answer) : Type 0 where
  pub named : AreNamed all (placed_then x a).stand.ahead (placed_then x a).task.rest
  pub script : (placed_then x a).task.script ≡ x.task.script
  pub decl : (placed_then x a).stand.decl ≡ x.stand.decl
  pub there : IsThere all (placed_then x a).stand (script_asks x.task a)
  pub child : ChildOf x.task.script (script_asks x.task a) (placed_then x a).stand.called

pub is_asked : (all : List Statement) (x : PlacedState) (a : Answer) → AreNamed all x.stand.ahead x.task.rest
    → MayTake all x a → Asked all x a
is_asked all x a named may =
    let t = record x.task { places = x.task.places + new_places a } in
    let r = right_after all t x.stand (answered t t.due a) named (rest_answered t t.due a) in record {
      named = r.0.named;
      script = r.0.script;
      decl = r.0.decl;
      there = by t (answered t t.due a) refl named (rest_answered t t.due a);
      child = r.1;
    } where
      by : (t : TaskState) (r : Result TaskState Trouble) → taken x.task a ≡ r → AreNamed all x.stand.ahead t.rest
          → IsSameRest t r → IsThere all (stand_after r x.stand) (next_after t r).0
      by t (Ok new) e named same = there_on all new.steps new x.stand
          (subst (AreNamed all x.stand.ahead) (sym same.0) named)
      by t (Err fault) e named same = let s = may fault e in inl (s.0, s.1, tt)
