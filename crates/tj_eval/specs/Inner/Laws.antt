-- The laws of one ask, for a task of a script.
use Rattle.std.proofs.Common.{◌≡◌, ◌≤◌, ◌<◌, ℕ, zero, suc, ◌+◌, ◌-◌, ◌⊎◌, inl, inr, Bool, true, false, cond, nat_lt}
use Rattle.std.proofs.Common.{nat_le, nat_eq, ℤ, pos, neg_ℤ, ◌&&◌, List, [], ◌∷◌, ◌++◌, length, get_or, replicate, refl}
use Rattle.std.proofs.Common.{sym, subst, ap, ◌∙◌, arith, leb-true, ltb-true, lt-ltb, le-leb, eqb-true}
use Rattle.std.proofs.lemmas.Bool.{and_from}
use Rattle.std.specs.Prelude.{slice_get, slice_set, Option, Some, None, Result, Ok, Err, if◌then◌else◌}
use Rattle.std.specs.List.{AllByRecursion, list_all}
use Rattle.std.specs.Cmp.{first_so, second_so}
use Rattle.std.proofs.lemmas.Option.{slice_get_cases}
use Rattle.std.proofs.lemmas.List.Sums.{AllPass-from_list_all}
use Rattle.tj_base.specs.declared.value.Pay.{Pay}
use Rattle.tj_base.specs.declared.value.Pay.TheVariants as pay
use Rattle.tj_base.specs.declared.cause.Trouble.{Trouble}
use Rattle.tj_base.specs.declared.cause.Trouble.TheVariants as trouble
use Rattle.tj_body.specs.Asks as await
use Rattle.tj_body.specs.Asks.{Await, Fits, new_places, awaited, Ends, IsPaid, most_passed, most_left, IsFresh}
use Rattle.tj_body.specs.Asks.{IsPlaced, Obeys}
use Rattle.tj_body.specs.Table.{is_paid}
use Rattle.tj_body.specs.declared.ask.Answer.{Answer}
use Rattle.tj_body.specs.declared.ask.Answer.TheVariants as answer
use Rattle.tj_body.specs.declared.ask.Ask.{Ask}
use Rattle.tj_body.specs.declared.ask.Ask.TheVariants as ask
use Rattle.tj_syntax.specs.declared.expr.RefOf.{RefOf}
use Rattle.tj_syntax.specs.declared.expr.RefOf.TheVariants as ref
use Rattle.tj_syntax.specs.Trees.{Expression, Pairs, variable, me, negation, chain, comparison, no_pairs, pair}
use Rattle.tj_syntax.specs.Trees.{Argument, Given, Statement, Statements, Task}
use Rattle.tj_syntax.specs.Trees as tree
use Rattle.tj_eval.specs.Expressions.{Computed, with_number, with_reference, exact, is_i64, applied, compares, truth}
use Rattle.tj_eval.specs.Expressions.{held, value, chained}
use Rattle.tj_eval.specs.Statements.{TaskState, Effect, goes_on, asks, fails, Next, ended, failed, kept, value_in}
use Rattle.tj_eval.specs.Statements.{then_effect, number, reference, Due, start, place, cell, cell_or, done, over}
use Rattle.tj_eval.specs.Statements.{next_from, next_of, next_ask, next_after, next, begun, given, asked, forked, answered}
use Rattle.tj_eval.specs.Statements.{answered_or_else, value_of, kept_if, or_else_of, reference_of, argument, arguments}
use Rattle.tj_eval.specs.Statements.{and_more, references, handed, as_passed, task_of, fork_of, first}
use Rattle.tj_eval.specs.Bodies.{all_have_few_params, has_few_params, most_params, script_places, script_awaits}
use Rattle.tj_eval.specs.Bodies.{script_left, script_asks, script_then, is_sound, await_of}

-- Values: each reference is one of n places.
abbrev ArePaid : ℕ → List Pay → Type 0
ArePaid n = AllByRecursion (IsPaid n)

-- it holds of what was computed, if that is there
abbrev IfGood : {A : Type 0} → (A → Type 0) → Result A Trouble → Type 0
IfGood P (Ok x) = P x
IfGood P (Err fault) = Unit {0}

-- the value that was computed, if there is one, is one of a task with n places
abbrev IsFine : ℕ → Computed → Type 0
IsFine n = IfGood (IsPaid n)

fine-number : (n : ℕ) (c : Computed) (go : ℤ → Computed) → ((k : ℤ) → IsFine n (go k)) → IsFine n (with_number c go)
fine-number n (Ok (pay.Num k)) go h = h k
fine-number n c go h = tt

fine-if : (n : ℕ) (b : Bool) (c d : Computed) → IsFine n c → IsFine n d → IsFine n (if b then c else d)
fine-if n true c d h k = h
fine-if n false c d h k = k

fine-exact : (n : ℕ) (k : ℤ) → IsFine n (exact k)
fine-exact n k = fine-if n (is_i64 k) (Ok (pay.Num k)) (Err trouble.Arith) tt tt

fine-truth : (n : ℕ) (b : Bool) → IsPaid n (truth b)
fine-truth n true = tt
fine-truth n false = tt

-- what a variable holds is one of the task's values
pub fine-held : (n : ℕ) (vars : List Pay) (x : ℕ) → ArePaid n vars → IsPaid n (held vars x)
fine-held n [] x h = tt
fine-held n (v ∷ vars) zero h = h.0
fine-held n (v ∷ vars) (suc x) h = fine-held n vars x h.1

mutual
  -- the value of an expression is one of the task's
  pub fine-value : (n : ℕ) (vars : List Pay) (e : Expression) → 0 < n → ArePaid n vars → IsFine n (value vars e)
  fine-value n vars (tree.number k) p h = tt
  fine-value n vars (variable x) p h = fine-held n vars x h
  fine-value n vars me p h = p
  fine-value n vars (negation e) p h = fine-number n (value vars e) (λ k. exact (neg_ℤ k)) (λ k. fine-exact n (neg_ℤ k))
  fine-value n vars (chain e pairs) p h =
      fine-number n (value vars e) (λ k. chained vars k pairs) (λ k. fine-chained n vars k pairs)
  fine-value n vars (comparison rel a b) p h =
      fine-number n (value vars a) _ (λ k. fine-number n (value vars b) _ (λ m. fine-truth n (compares rel k m)))

  fine-chained : (n : ℕ) (vars : List Pay) (k : ℤ) (pairs : Pairs) → IsFine n (chained vars k pairs)
  fine-chained n vars k no_pairs = tt
  fine-chained n vars k (pair op e more) =
      fine-number n (value vars e) _ (λ m. fine-number n (applied op k m) _ (λ r. fine-chained n vars r more))

-- any number will do
any : {A : Type 0} (c : Result A Trouble) → IfGood (λ _. Unit {0}) c
any (Ok x) = tt
any (Err fault) = tt

fine-reference : (n : ℕ) (c : Computed) → IsFine n c → IfGood (λ k. k < n) (reference c)
fine-reference n (Ok (pay.Ref k)) h = h
fine-reference n c h = tt

-- Tests and what they say.
paid : (n : ℕ) (v : Pay) → is_paid n v ≡ true → IsPaid n v
paid n (pay.Num i) e = tt
paid n (pay.Ref k) e = ltb-true k n e

is-paid : (n : ℕ) (v : Pay) → IsPaid n v → is_paid n v ≡ true
is-paid n (pay.Num i) h = refl
is-paid n (pay.Ref k) h = lt-ltb k n h

all-paid : (n : ℕ) (vars : List Pay) → list_all (is_paid n) vars ≡ true → ArePaid n vars
all-paid n [] e = tt
all-paid n (v ∷ vars) e = (
  paid n v (first_so (is_paid n v) (list_all (is_paid n) vars) e),
  all-paid n vars (second_so (is_paid n v) (list_all (is_paid n) vars) e),
)

are-paid : (n : ℕ) (vars : List Pay) → ArePaid n vars → list_all (is_paid n) vars ≡ true
are-paid n [] h = refl
are-paid n (v ∷ vars) h = and_from (is_paid n v) (list_all (is_paid n) vars) (is-paid n v h.0) (are-paid n vars h.1)

-- what a sound task has
pub record IsSound (t : TaskState) : Type 0 where
  pub few : all_have_few_params t.script ≡ true
  pub limit : t.limit ≤ most_left
  pub some : 0 < t.places
  pub paid : ArePaid t.places t.vars

-- what the test of a sound task says
pub sound-parts : (t : TaskState) → is_sound t ≡ true → IsSound t
sound-parts t e = let a = all_have_few_params t.script in let b = nat_le t.limit most_left in
    let c = nat_lt 0 t.places in
    let d = list_all (is_paid t.places) t.vars in let abc = first_so (a && b && c) d e in
    let ab = first_so (a && b) c abc in
    record {
      few = first_so a b ab;
      limit = leb-true t.limit most_left (second_so a b ab);
      some = ltb-true 0 t.places (second_so (a && b) c abc);
      paid = all-paid t.places t.vars (second_so (a && b && c) d e);
    }

-- a sound task passes the test
pub sound-test : (t : TaskState) → IsSound t → is_sound t ≡ true
sound-test t s = let a = all_have_few_params t.script in let b = nat_le t.limit most_left in
    let c = nat_lt 0 t.places in
    let d = list_all (is_paid t.places) t.vars in
    and_from (a && b && c) d
    (and_from (a && b) c (and_from a b s.few (le-leb t.limit most_left s.limit)) (lt-ltb 0 t.places s.some))
    (are-paid t.places t.vars s.paid)

awaits-sound : (t : TaskState) → IsSound t → script_awaits t ≡ await_of t.due
awaits-sound t s = ap (λ b. cond b (await_of t.due) await.nothing) (sound-test t s)

nothing_or_nothing : (b : Bool) → cond b await.nothing await.nothing ≡ await.nothing
nothing_or_nothing true = refl
nothing_or_nothing false = refl

-- Asks.
abbrev Placed : ℕ → Ask TaskState → Type 0
Placed n q = IsPlaced script_places script_awaits script_left n q

-- the ask, and the task from then on, of one with p places where n statements might still begin
record IsGood (n p : ℕ) (q : Ask TaskState) (new : TaskState) : Type 0 where
  pub falls : Ends q ⊎ (new.steps < n)
  pub awaits : script_awaits new ≡ awaited q
  pub places : new.places ≡ p
  pub placed : Placed p q

-- the same of a pair of the ask and the task from then on
abbrev Good : ℕ → ℕ → Next → Type 0
Good n p next = IsGood n p next.0 next.1

-- the effect of a task leaves it sound
abbrev IsGoodEffect : TaskState → Effect → Type 0
IsGoodEffect t (goes_on new) = IsSound new × (new.places ≡ t.places)
IsGoodEffect t (asks q new) = IsGood (suc t.steps) t.places q new
IsGoodEffect t (fails fault) = Unit {0}

good-effect : {A : Type 0} (P : A → Type 0) (t : TaskState) (c : Result A Trouble) (go : A → Effect) → IfGood P c
    → ((x : A) → P x → IsGoodEffect t (go x)) → IsGoodEffect t (then_effect c go)
good-effect P t (Ok x) go h k = k x h
good-effect P t (Err fault) go h k = tt

sound-due : (t : TaskState) (d : Due) → IsSound t → IsSound (record t { due = d })
sound-due t d s = record { few = s.few; limit = s.limit; some = s.some; paid = s.paid }

-- a sound task asks
good-ask : (t : TaskState) (d : Due) (q : Ask TaskState) → IsSound t → await_of d ≡ awaited q → Placed t.places q
    → IsGoodEffect t (asks q (record t { due = d }))
good-ask t d q s e h = record {
  falls = inr (omega arith);
  awaits = awaits-sound (record t { due = d }) (sound-due t d s) ∙ e;
  places = refl;
  placed = h;
}

-- a task ends
good-end : (n : ℕ) (t : TaskState) (q : Ask TaskState) → Ends q → await.nothing ≡ awaited q → Placed t.places q
    → IsGood n t.places q (ended t)
good-end n t q e f h = record {
  falls = inl e;
  awaits = nothing_or_nothing (is_sound (ended t)) ∙ f;
  places = refl;
  placed = h;
}

-- Variables.
paid-set : (n : ℕ) (vars : List Pay) (x : ℕ) (v : Pay) → ArePaid n vars → IsPaid n v → ArePaid n (slice_set vars x v)
paid-set n [] x v h p = tt
paid-set n (w ∷ vars) zero v h p = (p, h.1)
paid-set n (w ∷ vars) (suc x) v h p = (h.0, paid-set n vars x v h.1 p)

paid-append : (n : ℕ) (xs ys : List Pay) → ArePaid n xs → ArePaid n ys → ArePaid n (xs ++ ys)
paid-append n [] ys h k = k
paid-append n (x ∷ xs) ys h k = (h.0, paid-append n xs ys h.1 k)

paid-zeros : (n m : ℕ) → ArePaid n (replicate m (pay.Num (pos 0)))
paid-zeros n zero = tt
paid-zeros n (suc m) = (tt, paid-zeros n m)

paid-more : (n m : ℕ) (vars : List Pay) → n ≤ m → ArePaid n vars → ArePaid m vars
paid-more n m [] l h = tt
paid-more n m (pay.Num k ∷ vars) l h = (tt, paid-more n m vars l h.1)
paid-more n m (pay.Ref k ∷ vars) l h = let p : k < n = h.0 in (omega arith, paid-more n m vars l h.1)

sound-kept : (t : TaskState) (into : Option ℕ) (v : Pay) → IsSound t → IsPaid t.places v → IsSound (kept into v t)
sound-kept t None v s p = s
sound-kept t (Some x) v s p = record {
  few = s.few;
  limit = s.limit;
  some = s.some;
  paid = paid-set t.places t.vars x v s.paid p;
}

places-kept : (t : TaskState) (into : Option ℕ) (v : Pay) → (kept into v t).places ≡ t.places
places-kept t None v = refl
places-kept t (Some x) v = refl

steps-kept : (t : TaskState) (into : Option ℕ) (v : Pay) → (kept into v t).steps ≡ t.steps
steps-kept t None v = refl
steps-kept t (Some x) v = refl

-- Forks.
fine-argument : (n : ℕ) (vars : List Pay) (x : Argument) → 0 < n → ArePaid n vars → IsFine n (argument vars x)
fine-argument n vars (tree.own x) p h = handed-is (held vars x) (fine-held n vars x h) where
  handed-is : (v : Pay) → IsPaid n v → IsFine n (with_reference (Ok v) (λ k. Ok (pay.Ref k)))
  handed-is (pay.Num k) h = tt
  handed-is (pay.Ref k) h = h
fine-argument n vars (tree.value e) p h = fine-value n vars e p h

-- the values of these arguments, each a number or a reference to one of n places
abbrev AreArguments : ℕ → List Argument → List Pay → Type 0
AreArguments n list values = ArePaid n values × (length values ≡ length list)

fine-more : (n : ℕ) (x : Argument) (list : List Argument) (c : Computed) (more : Result (List Pay) Trouble) → IsFine n c
    → IfGood (AreArguments n list) more → IfGood (AreArguments n (x ∷ list)) (and_more c more)
fine-more n x list (Ok v) (Ok values) h k = ((h, k.0), ap suc k.1)
fine-more n x list (Ok v) (Err fault) h k = tt
fine-more n x list (Err fault) more h k = tt

fine-arguments : (n : ℕ) (vars : List Pay) (list : List Argument) → 0 < n → ArePaid n vars
    → IfGood (AreArguments n list) (arguments vars list)
fine-arguments n vars [] p h = (tt, refl)
fine-arguments n vars (x ∷ list) p h = fine-more n x list (argument vars x) (arguments vars list)
    (fine-argument n vars x p h) (fine-arguments n vars list p h)

paid-handed : (n : ℕ) (vars : List Pay) (list : List Argument) → ArePaid n vars → ArePaid n (handed vars list)
paid-handed n vars [] h = tt
paid-handed n vars (tree.own x ∷ list) h = (fine-held n vars x h, paid-handed n vars list h)
paid-handed n vars (tree.value e ∷ list) h = paid-handed n vars list h

references-below : (n : ℕ) (values : List Pay) → ArePaid n values → AllByRecursion (λ k. k < n) (references values)
references-below n [] h = tt
references-below n (pay.Num k ∷ values) h = references-below n values h.1
references-below n (pay.Ref k ∷ values) h = (h.0, references-below n values h.1)

few-references : (values : List Pay) → length (references values) ≤ length values
few-references [] = omega arith
few-references (pay.Num k ∷ values) = omega (arith, few-references values)
few-references (pay.Ref k ∷ values) = omega (arith, few-references values)

paid-passed : (n k : ℕ) (values : List Pay) → k + length (references values) ≤ n → ArePaid n (as_passed k values)
paid-passed n k [] l = tt
paid-passed n k (pay.Num m ∷ values) l = (tt, paid-passed n k values l)
paid-passed n k (pay.Ref m ∷ values) l = (omega arith, paid-passed n (suc k) values (omega arith))

sound-task : (t : TaskState) (d : Task) (values : List Pay) → IsSound t → IsSound (task_of t.script t.limit d values)
sound-task t d values s = let n = suc (length (references values)) in record {
  few = s.few;
  limit = s.limit;
  some = omega arith;
  paid = paid-append n (as_passed 1 values) _ (paid-passed n 1 values (omega arith)) (paid-zeros n _);
}

good-fork : (t : TaskState) (d : Task) (list : List Argument) (values : List Pay) → IsSound t
    → length list ≤ most_params
    → AreArguments t.places list values → Placed t.places (fork_of t d list values)
good-fork t d list values s l h = record {
  passed = references-below t.places values h.0;
  handed = references-below t.places (handed t.vars list) (paid-handed t.places t.vars list s.paid);
  few = few;
  fresh = record {
    has_places = refl;
    begins = awaits-sound (task_of t.script t.limit d values) (sound-task t d values s);
    ends = s.limit;
  };
} where
  few : length (references values) ≤ most_passed
  few = let a = few-references values in let b : length values ≡ length list = h.1 in omega (arith, a, b, l)

good-if : (t : TaskState) (b : Bool) (x y : Effect) → (b ≡ true → IsGoodEffect t x) → IsGoodEffect t y
    → IsGoodEffect t (if b then x else y)
good-if t true x y h k = h refl
good-if t false x y h k = k

good-forked : (t : TaskState) (d : Task) (into : Option ℕ) (list : List Argument) → IsSound t → has_few_params d ≡ true
    → IsGoodEffect t (forked t (Some d) into list)
good-forked t d into list s e = good-if t (nat_eq (length list) d.params) _ (fails trouble.Kind)
    (λ f. good-effect (AreArguments t.places list) t (arguments t.vars list) _
    (fine-arguments t.places t.vars list s.some s.paid)
    (λ values h. good-ask t (place into) (fork_of t d list values) s refl
    (good-fork t d list values s (few f) h))) tt where
      few : nat_eq (length list) d.params ≡ true → length list ≤ most_params
      few f = let a : length list ≡ d.params = eqb-true (length list) d.params f in
          let b : d.params ≤ most_params = leb-true d.params most_params e in omega (arith, a, b)

-- the script has a task with this number, which reading gives, or none
abbrev TaskAt : List Task → ℕ → Type 0
TaskAt script f = ((d : Task) × (f < length script) × (slice_get script f ≡ Some d)
    × (get_or script f d ≡ d)) ⊎ ((length script ≤ f) × (slice_get script f ≡ None))

good-fork-at : (t : TaskState) (f : ℕ) (into : Option ℕ) (list : List Argument) → IsSound t
    → IsGoodEffect t (forked t (slice_get t.script f) into list)
good-fork-at t f into list s = by (slice_get_cases t.script f).1 where
  by : TaskAt t.script f → IsGoodEffect t (forked t (slice_get t.script f) into list)
  by (inl d) = subst (λ z. IsGoodEffect t (forked t z into list)) (sym d.2) (good-forked t d.0 into list s
      (subst (λ z. has_few_params z ≡ true) d.3 (AllPass-from_list_all has_few_params t.script s.few f d.0 d.1)))
  by (inr h) = subst (λ z. IsGoodEffect t (forked t z into list)) (sym h.1) tt

-- Statements.
good-reference_of : (t : TaskState) (r : RefOf) → IsSound t → IfGood (λ k. k < t.places) (reference_of t r)
good-reference_of t (ref.Var x) s = fine-reference t.places (Ok (held t.vars x)) (fine-held t.places t.vars x s.paid)
good-reference_of t ref.Me s = s.some

good-asked : (t : TaskState) (into : Option ℕ) (call : tree.Ask) → IsSound t → IsGoodEffect t (asked t into call)
good-asked t into tree.new s = good-ask t (place into) ask.New s refl tt
good-asked t into (tree.fork f list) s = good-fork-at t f into list s
good-asked t into (tree.get r None) s = good-effect (λ k. k < t.places) t (reference_of t r) _ (good-reference_of t r s)
    (λ k h. good-ask t (cell into) (ask.Get k) s refl h)
good-asked t into (tree.get r (Some e)) s =
    good-effect (λ k. k < t.places) t (reference_of t r) _ (good-reference_of t r s)
    (λ k h. good-ask t (cell_or into e) (ask.GetOr k) s refl h)
good-asked t into (tree.join r None) s =
    good-effect (λ k. k < t.places) t (reference_of t r) _ (good-reference_of t r s)
    (λ k h. good-ask t (cell into) (ask.Join k) s refl h)
good-asked t into (tree.join r (Some e)) s =
    good-effect (λ k. k < t.places) t (reference_of t r) _ (good-reference_of t r s)
    (λ k h. good-ask t (cell_or into e) (ask.JoinOr k) s refl h)

fine-value_in : (t : TaskState) (e : Expression) → IsSound t → IsFine t.places (value_in t e)
fine-value_in t e s = fine-value t.places t.vars e s.some s.paid

good-given : (t : TaskState) (x : ℕ) (side : Given) → IsSound t → IsGoodEffect t (given t x side)
good-given t x (tree.answer call) s = good-asked t (Some x) call s
good-given t x (tree.result_of e) s = good-effect (IsPaid t.places) t (value_in t e) _ (fine-value_in t e s)
    (λ v h. (sound-kept t (Some x) v s h, refl))

sound-first : (t : TaskState) (list : List Statement) → IsSound t → IsSound (first list t)
sound-first t list s = record { few = s.few; limit = s.limit; some = s.some; paid = s.paid }

good-begun : (t : TaskState) (s : Statement) → IsSound t → IsGoodEffect t (begun t s)
good-begun t (tree.let_new x side) h = good-given t x side h
good-begun t (tree.assign x side) h = good-given t x side h
good-begun t (tree.ask call) h = good-asked t None call h
good-begun t (tree.print e) h = good-effect (λ _. Unit {0}) t (number (value_in t e)) _ (any (number (value_in t e)))
    (λ n _. good-ask t done (ask.Emit n) h refl tt)
good-begun t (tree.set_cell x e) h = good-effect (λ k. k < t.places) t (reference (Ok (held t.vars x))) _
    (good-reference_of t (ref.Var x) h)
    (λ k p. good-effect (IsPaid t.places) t (value_in t e) _ (fine-value_in t e h)
    (λ v q. good-ask t done (ask.Set k v) h refl (p, q)))
good-begun t (tree.return e) h = good-effect (IsPaid t.places) t (value_in t e) _ (fine-value_in t e h)
    (λ v p. good-end (suc t.steps) t (ask.End v) tt refl p)
good-begun t (tree.choose e body other) h = good-effect (λ _. Unit {0}) t (number (value_in t e)) _
    (any (number (value_in t e))) (λ n _. (sound-first t _ h, refl))
good-begun t (tree.repeat e body) h = good-effect (λ _. Unit {0}) t (number (value_in t e)) _
    (any (number (value_in t e))) (λ n _. (sound-first t _ h, refl))

-- Whole paths to the next ask.
good-fail : (n : ℕ) (t : TaskState) (fault : Trouble) → IsGood n t.places (ask.Fail fault) (failed t)
good-fail n t fault = record {
  falls = inl tt;
  awaits = nothing_or_nothing (is_sound (failed t));
  places = refl;
  placed = tt;
}

good-next_of : (n : ℕ) (t : TaskState) (rest : List Statement) (go : Statement → List Statement → Next)
    → ((s : Statement) (more : List Statement) → Good n t.places (go s more)) → Good n t.places (next_of t rest go)
good-next_of n t [] go h = good-end n t (ask.End (pay.Num (pos 0))) tt refl tt
good-next_of n t (s ∷ rest) go h = h s rest

sound-begin : (t : TaskState) (rest : List Statement) (n : ℕ) → IsSound t
    → IsSound (record t { rest = rest; steps = n })
sound-begin t rest n s = record { few = s.few; limit = s.limit; some = s.some; paid = s.paid }

one_less : (q : Ask TaskState) (k n : ℕ) → Ends q ⊎ (k < n) → Ends q ⊎ (k < suc n)
one_less q k n (inl e) = inl e
one_less q k n (inr l) = inr (omega arith)

good-next_from : (n : ℕ) (t : TaskState) (rest : List Statement) (effect : Effect) (go : TaskState → Next)
    → ((new : TaskState) → IsSound new → Good n new.places (go new))
    → IsGoodEffect (record t { rest = rest; steps = n }) effect
    → Good (suc n) t.places (next_from (record t { rest = rest; steps = n }) effect go)
good-next_from n t rest (goes_on new) go h k = let g = h new k.0 in record {
  falls = one_less (go new).0 (go new).1.steps n g.falls;
  awaits = g.awaits;
  places = g.places ∙ k.1;
  placed = subst (λ p. Placed p (go new).0) k.1 g.placed;
}
good-next_from n t rest (asks q new) go h k = k
good-next_from n t rest (fails fault) go h k = good-fail (suc n) (record t { rest = rest; steps = n }) fault

good-next_ask : (n : ℕ) (t : TaskState) → IsSound t → Good n t.places (next_ask n t)
good-next_ask zero t s = good-next_of 0 t t.rest _ (λ x more. good-fail 0 (record t { rest = more }) trouble.Steps)
good-next_ask (suc n) t s = good-next_of (suc n) t t.rest _ (λ x more.
    good-next_from n t more (begun (record t { rest = more; steps = n }) x) (next_ask n) (good-next_ask n)
    (good-begun (record t { rest = more; steps = n }) x (sound-begin t more n s)))

-- Answers.
abbrev PaidIf : ℕ → Option Pay → Type 0
PaidIf n None = Unit {0}
PaidIf n (Some v) = IsPaid n v

local-is : (w : Await) (n k : ℕ) → Fits w n (answer.Local k) → k ≡ n
local-is await.place n k h = h
local-is w n k h = absurd h

ref-is : (w : Await) (n k : ℕ) → Fits w n (answer.RefAt k) → k ≡ n
ref-is await.cell n k h = h
ref-is await.cell_or n k h = h
ref-is w n k h = absurd h

paid-answer : (w : Await) (n : ℕ) (a : Answer) → Fits w n a → PaidIf (n + new_places a) (value_of a)
paid-answer w n (answer.Local k) h = omega (arith, local-is w n k h)
paid-answer w n (answer.RefAt k) h = omega (arith, ref-is w n k h)
paid-answer w n a h = tt

-- the task after its answer is sound, and is otherwise as it was
abbrev IsOn : TaskState → TaskState → Type 0
IsOn t new = IsSound new × (new.places ≡ t.places) × (new.steps ≡ t.steps)

on-kept : (t : TaskState) (into : Option ℕ) (v : Pay) → IsSound t → IsPaid t.places v → IsOn t (kept into v t)
on-kept t into v s p = (sound-kept t into v s p, places-kept t into v, steps-kept t into v)

on-kept_if : (t : TaskState) (into : Option ℕ) (o : Option Pay) → IsSound t → PaidIf t.places o
    → IsOn t (kept_if into o t)
on-kept_if t into None s p = (s, refl, refl)
on-kept_if t into (Some v) s p = on-kept t into v s p

on-or_else_of : (t : TaskState) (into : Option ℕ) (c : Computed) → IsSound t → IsFine t.places c
    → IfGood (IsOn t) (or_else_of t into c)
on-or_else_of t into (Ok v) s h = on-kept t into v s h
on-or_else_of t into (Err fault) s h = tt

on-answered_or_else : (t : TaskState) (into : Option ℕ) (e : Expression) (a : Answer) → IsSound t
    → PaidIf t.places (value_of a)
    → IfGood (IsOn t) (answered_or_else t into e a)
on-answered_or_else t into e (answer.Local k) s p = on-kept t into (pay.Ref k) s p
on-answered_or_else t into e (answer.Num n) s p = on-kept t into (pay.Num n) s p
on-answered_or_else t into e (answer.RefAt k) s p = on-kept t into (pay.Ref k) s p
on-answered_or_else t into e answer.Lost s p = on-or_else_of t into (value_in t e) s (fine-value_in t e s)
on-answered_or_else t into e a s p = (s, refl, refl)

on-answered : (t : TaskState) (d : Due) (a : Answer) → IsSound t → PaidIf t.places (value_of a)
    → IfGood (IsOn t) (answered t d a)
on-answered t start a s p = (s, refl, refl)
on-answered t (place into) a s p = on-kept_if t into (value_of a) s p
on-answered t (cell into) a s p = on-kept_if t into (value_of a) s p
on-answered t (cell_or into e) a s p = on-answered_or_else t into e a s p
on-answered t done a s p = (s, refl, refl)
on-answered t over a s p = (s, refl, refl)

good-after : (t : TaskState) (r : Result TaskState Trouble) → IfGood (IsOn t) r → Good t.steps t.places (next_after t r)
good-after t (Ok new) h = subst (λ n. Good n t.places (next_ask new.steps new)) h.2
    (subst (λ p. Good new.steps p (next_ask new.steps new)) h.1 (good-next_ask new.steps new h.0))
good-after t (Err fault) h = good-fail t.steps t fault

-- a task that awaits the answer is sound
sound-fits : (t : TaskState) (a : Answer) → Fits (script_awaits t) t.places a → (is_sound t ≡ true)
    × Fits (await_of t.due) t.places a
sound-fits t a h = by (is_sound t) refl h where
  by : (b : Bool) → is_sound t ≡ b → Fits (cond b (await_of t.due) await.nothing) t.places a
      → (is_sound t ≡ true) × Fits (await_of t.due) t.places a
  by true e f = (e, f)
  by false e f = absurd f

sound-more : (t : TaskState) (a : Answer) → IsSound t → IsSound (record t { places = t.places + new_places a })
sound-more t a s = record {
  few = s.few;
  limit = s.limit;
  some = let l : 0 < t.places = s.some in omega arith;
  paid = paid-more t.places (t.places + new_places a) t.vars (omega arith) s.paid;
}

good-next : (t : TaskState) (a : Answer) → IsSound t → Fits (await_of t.due) t.places a
    → Good t.steps (t.places + new_places a) (next t a)
good-next t a s f = let now = record t { places = t.places + new_places a } in
    good-after now (answered now t.due a)
    (on-answered now t.due a (sound-more t a s) (paid-answer (await_of t.due) t.places a f))

-- the laws of one ask, for each task of a script and each answer
pub script_obeys : (t : TaskState) (a : Answer)
    → Obeys script_places script_awaits script_left script_asks script_then t a
script_obeys t a h = let f = sound-fits t a h in let good = good-next t a (sound-parts t f.0) f.1 in
    let p : (next t a).1.places ≡ t.places + new_places a = good.places in record {
      falls = good.falls;
      awaits_answer = good.awaits;
      adds_places = p;
      placed = subst (λ n. Placed n (next t a).0) (sym p) good.placed;
    }

-- the body of a task without parameters, for one place
pub fresh-main : (script : List Task) (steps : ℕ) (d : Task) → all_have_few_params script ≡ true → steps ≤ most_left
    → IsFresh script_places script_awaits script_left 1 (task_of script steps d [])
fresh-main script steps d e l = record {
  has_places = refl;
  begins = awaits-sound (task_of script steps d []) sound;
  ends = l;
} where
  sound : IsSound (task_of script steps d [])
  sound = record { few = e; limit = l; some = omega arith; paid = paid-zeros 1 (length d.vars - 0) }
