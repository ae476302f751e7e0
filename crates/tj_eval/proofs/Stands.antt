-- What is ahead of a task are the numbers of the statements that remain.
use Rattle.std.proofs.Common.{◌≡◌, ℕ, zero, suc, ◌+◌, ℤ, Bool, true, false, List, [], ◌∷◌, ◌++◌, length, refl, sym, ap}
use Rattle.std.proofs.Common.{subst, ◌∙◌, append_assoc, arith}
use Rattle.std.proofs.lemmas.List.{append-nil, length-append}
use Rattle.std.specs.Prelude.{slice_get, Option, Some, None, Result, Ok, Err, if◌then◌else◌, nat_eq}
use Rattle.tj_base.specs.declared.cause.Trouble.{Trouble}
use Rattle.tj_base.specs.declared.cause.Trouble.TheVariants as trouble
use Rattle.tj_base.specs.declared.value.Pay.{Pay}
use Rattle.tj_base.specs.declared.value.Pay.TheVariants as pay
use Rattle.tj_body.specs.declared.ask.Answer.{Answer}
use Rattle.tj_body.specs.declared.ask.Answer.TheVariants as answer
use Rattle.tj_body.specs.declared.ask.Ask.{Ask}
use Rattle.tj_body.specs.declared.ask.Ask.TheVariants as ask
use Rattle.tj_body.specs.Asks.{new_places}
use Rattle.tj_body.specs.SeenAs.{ask_as}
use Rattle.tj_body.specs.Programs.{program_of}
use Rattle.tj_body.specs.KeptFacts.{HoldsInRounds}
use Rattle.tj_body.proofs.KeptFacts.{holds_in_rounds}
use Rattle.tj_syntax.specs.Trees as tree
use Rattle.tj_syntax.specs.Trees.{Argument, Expression, Given, Statement, Statements, Otherwise, Task}
use Rattle.tj_eval.specs.Expressions.{Computed, is_zero, held}
use Rattle.tj_eval.specs.Statements.{TaskState, Effect, goes_on, asks, fails, begun, value_in, number, listed}
use Rattle.tj_eval.specs.Statements.{otherwise, first, then_effect, reference, forked, fork_of, arguments, asked, given}
use Rattle.tj_eval.specs.Statements.{Next, reference_of, Due, start, place, cell, cell_or, done, over, next_from}
use Rattle.tj_eval.specs.Statements.{next_of, next_ask, failed, next_after, answered, answered_or_else, kept, kept_if}
use Rattle.tj_eval.specs.Statements.{value_of, or_else_of}
use Rattle.tj_eval.specs.Bodies.{script_asks}
use Rattle.tj_eval.specs.Stands.{inside, within, within_other, numbers, other_numbers, Stand, IsAt, AreNamed, decided}
use Rattle.tj_eval.specs.Stands.{stand_begun, PlacedState, placed, placed_places, placed_awaits, placed_left}
use Rattle.tj_eval.specs.Stands.{placed_asks, placed_then, callee, given_callee, stand_from, stand_of, stand_ask}
use Rattle.tj_eval.specs.Stands.{stand_after, stand_next, all_ahead, StandsRight, ForkStandsRight}

-- Numbers.
named_block : (all front behind : List Statement) (b : Statements) (ahead : List ℕ) (rest : List Statement)
    → all ≡ front ++ (within b ++ behind) → AreNamed all ahead rest
    → AreNamed all (numbers (length front) b ++ ahead) (listed b ++ rest)
named_block all front behind tree.no_more ahead rest e h = h
named_block all front behind (tree.then_do s more) ahead rest e h =
    let split = e ∙ ap (λ z. front ++ z) (append_assoc (inside s) (within more) behind) in (
      record { front = front; behind = within more ++ behind; split = split; count = refl },
      subst (λ n. AreNamed all (numbers n more ++ ahead) (listed more ++ rest)) (length-append front (inside s))
          (named_block all (front ++ inside s) behind more ahead rest
          (split ∙ sym (append_assoc front (inside s) (within more ++ behind))) h),
    )

-- all statements of a declaration remain, with all numbers ahead
pub all_named : (b : Statements) → AreNamed (within b) (numbers 0 b ++ length (within b) ∷ []) (listed b)
all_named b = subst (AreNamed (within b) (numbers 0 b ++ length (within b) ∷ [])) (append-nil (listed b))
    (named_block (within b) [] [] b (length (within b) ∷ []) [] (sym (append-nil (within b))) (refl, refl))

-- a child is a task of the script, at its beginning
abbrev pub ChildOf : List Task → Ask TaskState → ℕ → Type 0
ChildOf script ask.New f = Unit {0}
ChildOf script (ask.Fork b pass hand) f =
    (d : Task) × (slice_get script f ≡ Some d) × (b.script ≡ script) × (b.rest ≡ listed d.body)
ChildOf script (ask.Set k v) f = Unit {0}
ChildOf script (ask.Get k) f = Unit {0}
ChildOf script (ask.Join k) f = Unit {0}
ChildOf script (ask.GetOr k) f = Unit {0}
ChildOf script (ask.JoinOr k) f = Unit {0}
ChildOf script (ask.Emit i) f = Unit {0}
ChildOf script (ask.End v) f = Unit {0}
ChildOf script (ask.Fail c) f = Unit {0}

module _ (all : List Statement) where
  named_from : (n : ℕ) (front behind : List Statement) (b : Statements) (ahead : List ℕ) (rest : List Statement)
      → length front ≡ n → all ≡ front ++ (within b ++ behind) → AreNamed all ahead rest
      → AreNamed all (numbers n b ++ ahead) (listed b ++ rest)
  named_from n front behind b ahead rest l e h =
      subst (λ m. AreNamed all (numbers m b ++ ahead) (listed b ++ rest)) l
      (named_block all front behind b ahead rest e h)

  -- the task has gone on to new, and stands at w
  pub record IsOn (t : TaskState) (z : Stand) (new : TaskState) (w : Stand) : Type 0 where
    pub named : AreNamed all w.ahead new.rest
    pub script : new.script ≡ t.script
    pub decl : w.decl ≡ z.decl

  abbrev pub IsRightEffect : TaskState → Stand → Effect → Stand → Type 0
  IsRightEffect t z (goes_on new) w = IsOn t z new w
  IsRightEffect t z (asks q new) w = IsOn t z new w × ChildOf t.script q w.called
  IsRightEffect t z (fails fault) w = IsOn t z t w

  abbrev pub IsRightNext : TaskState → Stand → Next → Stand → Type 0
  IsRightNext t z next w = IsOn t z next.1 w × ChildOf t.script next.0 w.called

  stays : (t : TaskState) (z : Stand) → AreNamed all z.ahead t.rest → IsOn t z t z
  stays t z h = record { named = h; script = refl; decl = refl }

  calls : (t : TaskState) (z : Stand) (f : ℕ) → AreNamed all z.ahead t.rest → IsOn t z t (record z { called = f })
  calls t z f h = record { named = h; script = refl; decl = refl }

  right_then : {A : Type 0} (t : TaskState) (z : Stand) (c : Result A Trouble) (go : A → Effect) (w : Stand)
      → IsOn t z t w
      → ((x : A) → IsRightEffect t z (go x) w) → IsRightEffect t z (then_effect c go) w
  right_then t z (Ok x) go w h k = k x
  right_then t z (Err fault) go w h k = h

  right_if : (t : TaskState) (z : Stand) (b : Bool) (x y : Effect) (w : Stand) → IsRightEffect t z x w
      → IsRightEffect t z y w → IsRightEffect t z (if b then x else y) w
  right_if t z true x y w h k = h
  right_if t z false x y w h k = k

  -- it asks for something that isn't a child
  right_due : (t : TaskState) (z : Stand) (d : Due) (q : Ask TaskState) (f : ℕ) → AreNamed all z.ahead t.rest
      → ChildOf t.script q f → IsRightEffect t z (asks q (record t { due = d })) (record z { called = f })
  right_due t z d q f h c = (record { named = h; script = refl; decl = refl }, c)

  right_forked : (t : TaskState) (z : Stand) (f : ℕ) (into : Option ℕ) (list : List Argument) (o : Option Task)
      → slice_get t.script f ≡ o → AreNamed all z.ahead t.rest
      → IsRightEffect t z (forked t o into list) (record z { called = f })
  right_forked t z f into list None e h = calls t z f h
  right_forked t z f into list (Some d) e h = right_if t z (nat_eq (length list) d.params) _ (fails trouble.Kind) _
      (right_then t z (arguments t.vars list) _ _ (calls t z f h)
      (λ values. right_due t z (place into) (fork_of t d list values) f h (d, e, refl, refl))) (calls t z f h)

  right_asked : (t : TaskState) (z : Stand) (into : Option ℕ) (q : tree.Ask) → AreNamed all z.ahead t.rest
      → IsRightEffect t z (asked t into q) (record z { called = callee q })
  right_asked t z into tree.new h = right_due t z (place into) ask.New 0 h tt
  right_asked t z into (tree.fork f list) h = right_forked t z f into list (slice_get t.script f) refl h
  right_asked t z into (tree.get r None) h = right_then t z (reference_of t r) _ _ (calls t z 0 h)
      (λ k. right_due t z (cell into) (ask.Get k) 0 h tt)
  right_asked t z into (tree.get r (Some e)) h = right_then t z (reference_of t r) _ _ (calls t z 0 h)
      (λ k. right_due t z (cell_or into e) (ask.GetOr k) 0 h tt)
  right_asked t z into (tree.join r None) h = right_then t z (reference_of t r) _ _ (calls t z 0 h)
      (λ k. right_due t z (cell into) (ask.Join k) 0 h tt)
  right_asked t z into (tree.join r (Some e)) h = right_then t z (reference_of t r) _ _ (calls t z 0 h)
      (λ k. right_due t z (cell_or into e) (ask.JoinOr k) 0 h tt)

  right_given : (t : TaskState) (z : Stand) (x : ℕ) (side : Given) → AreNamed all z.ahead t.rest
      → IsRightEffect t z (given t x side) (record z { called = given_callee side })
  right_given t z x (tree.answer q) h = right_asked t z (Some x) q h
  right_given t z x (tree.result_of e) h = right_then t z (value_in t e) _ _ (calls t z 0 h)
      (λ v. record { named = h; script = refl; decl = refl })

  -- a condition is computed, and then statements come first, with their numbers
  right_decided : (t : TaskState) (z : Stand) (c : Result ℤ Trouble) (list : ℤ → List Statement) (ns : ℤ → List ℕ)
      → AreNamed all z.ahead t.rest → ((n : ℤ) → AreNamed all (ns n ++ z.ahead) (list n ++ t.rest))
      → IsRightEffect t z (then_effect c (λ n. goes_on (first (list n) t))) (decided c ns z)
  right_decided t z (Ok n) list ns h k = record { named = k n; script = refl; decl = refl }
  right_decided t z (Err fault) list ns h k = stays t z h

  either : (b : Bool) (m n : List ℕ) (xs ys : List Statement) (ahead : List ℕ) (rest : List Statement)
      → AreNamed all (m ++ ahead) (xs ++ rest) → AreNamed all (n ++ ahead) (ys ++ rest)
      → AreNamed all ((if b then m else n) ++ ahead) ((if b then xs else ys) ++ rest)
  either true m n xs ys ahead rest h k = h
  either false m n xs ys ahead rest h k = k

  module _ (t : TaskState) (z : Stand) (h : AreNamed all z.ahead t.rest) where
    -- what stands within the statement at which the task stands
    body_named : (s : Statement) (b : Statements) (more : List Statement) (ahead : List ℕ) (rest : List Statement)
        → inside s ≡ s ∷ (within b ++ more) → IsAt all z.at s → AreNamed all ahead rest
        → AreNamed all (numbers (suc z.at) b ++ ahead) (listed b ++ rest)
    body_named s b more ahead rest e at k =
        named_from (suc z.at) (at.front ++ s ∷ []) (more ++ at.behind) b ahead rest
        (let l = at.count in let m = length-append at.front (s ∷ []) in omega (arith, l, m))
        (at.split ∙ ap (λ w. at.front ++ (w ++ at.behind)) e
        ∙ ap (λ w. at.front ++ (s ∷ w)) (append_assoc (within b) more at.behind)
        ∙ sym (append_assoc at.front (s ∷ []) (within b ++ (more ++ at.behind)))) k

    other_named : (s : Statement) (b : Statements) (other : Otherwise)
        → inside s ≡ s ∷ (within b ++ within_other other) → IsAt all z.at s
        → AreNamed all (other_numbers (suc z.at + length (within b)) other ++ z.ahead) (otherwise other ++ t.rest)
    other_named s b tree.nothing e at = h
    other_named s b (tree.block c) e at =
        named_from (suc z.at + length (within b)) ((at.front ++ s ∷ []) ++ within b) at.behind c z.ahead t.rest
        (let l = at.count in let m = length-append at.front (s ∷ []) in
        let n = length-append (at.front ++ s ∷ []) (within b) in omega (arith, l, m, n))
        (at.split ∙ ap (λ w. at.front ++ (w ++ at.behind)) e
        ∙ ap (λ w. at.front ++ (s ∷ w)) (append_assoc (within b) (within c) at.behind)
        ∙ sym (append_assoc at.front (s ∷ []) (within b ++ (within c ++ at.behind)))
        ∙ sym (append_assoc (at.front ++ s ∷ []) (within b) (within c ++ at.behind))) h

    loop_named : (e : Expression) (b : Statements) → IsAt all z.at (tree.repeat e b)
        → AreNamed all ((numbers (suc z.at) b ++ z.at ∷ []) ++ z.ahead) ((listed b ++ tree.repeat e b ∷ []) ++ t.rest)
    loop_named e b at =
        let k = body_named (tree.repeat e b) b [] (z.at ∷ z.ahead) (tree.repeat e b ∷ t.rest)
        (ap (λ w. tree.repeat e b ∷ w) (sym (append-nil (within b)))) at (at, h) in
        subst (λ w. AreNamed all w ((listed b ++ tree.repeat e b ∷ []) ++ t.rest))
        (sym (append_assoc (numbers (suc z.at) b) (z.at ∷ []) z.ahead))
        (subst (AreNamed all (numbers (suc z.at) b ++ (z.at ∷ z.ahead)))
        (sym (append_assoc (listed b) (tree.repeat e b ∷ []) t.rest)) k)

    -- the statement at which the task stands begins
    pub right_begun : (s : Statement) → IsAt all z.at s → IsRightEffect t z (begun t s) (stand_begun t s z)
    right_begun (tree.let_new x side) at = right_given t z x side h
    right_begun (tree.assign x side) at = right_given t z x side h
    right_begun (tree.ask q) at = right_asked t z None q h
    right_begun (tree.print e) at = right_then t z (number (value_in t e)) _ _ (stays t z h)
        (λ i. right_due t z done (ask.Emit i) z.called h tt)
    right_begun (tree.set_cell x e) at = right_then t z (reference (Ok (held t.vars x))) _ _ (stays t z h)
        (λ k. right_then t z (value_in t e) _ _ (stays t z h) (λ v. right_due t z done (ask.Set k v) z.called h tt))
    right_begun (tree.return e) at = right_then t z (value_in t e) _ _ (stays t z h)
        (λ v. (record { named = h; script = refl; decl = refl }, tt))
    right_begun (tree.choose e body other) at = right_decided t z (number (value_in t e)) _ _ h
        (λ i. either (is_zero i) (other_numbers (suc z.at + length (within body)) other) (numbers (suc z.at) body)
        (otherwise other) (listed body) z.ahead t.rest (other_named (tree.choose e body other) body other refl at)
        (body_named (tree.choose e body other) body (within_other other) z.ahead t.rest refl at h))
    right_begun (tree.repeat e body) at = right_decided t z (number (value_in t e)) _ _ h
        (λ i. either (is_zero i) [] (numbers (suc z.at) body ++ z.at ∷ []) [] (listed body ++ tree.repeat e body ∷ [])
        z.ahead t.rest h (loop_named e body at))

  -- Whole paths to the next ask.
  right_from : (t : TaskState) (z : Stand) (effect : Effect) (w : Stand) (go : TaskState → Next)
      (on : TaskState → Stand → Stand) → IsRightEffect t z effect w
      → ((new : TaskState) (u : Stand) → AreNamed all u.ahead new.rest → IsRightNext new u (go new) (on new u))
      → IsRightNext t z (next_from t effect go) (stand_from w effect on)
  right_from t z (goes_on new) w go on h k = let r = k new w h.named in (
    record {
      named = r.0.named;
      script = r.0.script ∙ h.script;
      decl = r.0.decl ∙ h.decl;
    },
    subst (λ s. ChildOf s (go new).0 (on new w).called) h.script r.1,
  )
  right_from t z (asks q new) w go on h k = h
  right_from t z (fails fault) w go on h k = (record { named = h.named; script = h.script; decl = h.decl }, tt)

  -- The task has these statements left, and stands with these numbers ahead.
  right_of : (t : TaskState) (decl at called : ℕ) (rest : List Statement) (ahead : List ℕ) → t.rest ≡ rest
      → (go : Statement → List Statement → Next) (on : Statement → List Statement → Stand → Stand)
      → AreNamed all ahead rest
      → ((s : Statement) (more : List Statement) (n : ℕ) (ns : List ℕ) → IsAt all n s → AreNamed all ns more
      → let w : Stand = record { decl = decl; ahead = ns; at = n; called = 0 } in
      IsRightNext t w (go s more) (on s more w))
      → let z : Stand = record { decl = decl; ahead = ahead; at = at; called = called } in
      IsRightNext t z (next_of t rest go) (stand_of z rest on)
  right_of t decl at called rest [] e go on h k = absurd h
  right_of t decl at called [] (n ∷ ns) e go on h k =
      (record { named = subst (AreNamed all (n ∷ ns)) (sym e) h; script = refl; decl = refl }, tt)
  right_of t decl at called (s ∷ more) (n ∷ ns) e go on h k = let r = k s more n ns h.0 h.1 in
      (record { named = r.0.named; script = r.0.script; decl = r.0.decl }, r.1)

  right_ask : (n : ℕ) (t : TaskState) (z : Stand) → AreNamed all z.ahead t.rest
      → IsRightNext t z (next_ask n t) (stand_ask n t z)
  right_ask zero t z h = right_of t z.decl z.at z.called t.rest z.ahead refl
      (λ s rest. (ask.Fail trouble.Steps, failed (record t { rest = rest }))) (λ s rest w. w) h
      (λ s more n ns at k. (record { named = k; script = refl; decl = refl }, tt))
  right_ask (suc n) t z h = right_of t z.decl z.at z.called t.rest z.ahead refl
      (λ s rest. let on = record t { rest = rest; steps = n } in next_from on (begun on s) (next_ask n))
      (λ s rest w. let on = record t { rest = rest; steps = n } in
      stand_from (stand_begun on s w) (begun on s) (stand_ask n)) h
      (λ s more m ns at k. let on = record t { rest = more; steps = n } in
      let w : Stand = record { decl = z.decl; ahead = ns; at = m; called = 0 } in
      let r = right_from on w (begun on s) (stand_begun on s w) (next_ask n) (stand_ask n)
      (right_begun on w k s at) (right_ask n) in
      (record { named = r.0.named; script = r.0.script; decl = r.0.decl }, r.1))

-- Answers leave the statements that remain.
-- the statements that remain and the script are the same
abbrev pub IsSameRest : TaskState → Result TaskState Trouble → Type 0
IsSameRest t (Ok new) = (new.rest ≡ t.rest) × (new.script ≡ t.script)
IsSameRest t (Err fault) = Unit {0}

rest_kept : (t : TaskState) (into : Option ℕ) (v : Pay) → IsSameRest t (Ok (kept into v t))
rest_kept t None v = (refl, refl)
rest_kept t (Some x) v = (refl, refl)

rest_kept_if : (t : TaskState) (into : Option ℕ) (o : Option Pay) → IsSameRest t (Ok (kept_if into o t))
rest_kept_if t into None = (refl, refl)
rest_kept_if t into (Some v) = rest_kept t into v

rest_or_else : (t : TaskState) (into : Option ℕ) (c : Computed) → IsSameRest t (or_else_of t into c)
rest_or_else t into (Ok v) = rest_kept t into v
rest_or_else t into (Err fault) = tt

rest_answered_or : (t : TaskState) (into : Option ℕ) (e : Expression) (a : Answer)
    → IsSameRest t (answered_or_else t into e a)
rest_answered_or t into e (answer.Local k) = rest_kept t into (pay.Ref k)
rest_answered_or t into e (answer.Num n) = rest_kept t into (pay.Num n)
rest_answered_or t into e (answer.RefAt k) = rest_kept t into (pay.Ref k)
rest_answered_or t into e answer.Lost = rest_or_else t into (value_in t e)
rest_answered_or t into e a = (refl, refl)

-- an answer leaves the statements that remain
pub rest_answered : (t : TaskState) (d : Due) (a : Answer) → IsSameRest t (answered t d a)
rest_answered t start a = (refl, refl)
rest_answered t (place into) a = rest_kept_if t into (value_of a)
rest_answered t (cell into) a = rest_kept_if t into (value_of a)
rest_answered t (cell_or into e) a = rest_answered_or t into e a
rest_answered t done a = (refl, refl)
rest_answered t over a = (refl, refl)

-- what the task asks for an answer, and where it then stands, is right
pub right_after : (all : List Statement) (t : TaskState) (z : Stand) (r : Result TaskState Trouble)
    → AreNamed all z.ahead t.rest → IsSameRest t r → IsRightNext all t z (next_after t r) (stand_after r z)
right_after all t z (Ok new) h k = let x = right_ask all new.steps new z (subst (AreNamed all z.ahead) (sym k.0) h) in (
  record { named = x.0.named; script = x.0.script ∙ k.1; decl = x.0.decl },
  subst (λ s. ChildOf s (next_after t (Ok new)).0 (stand_after (Ok new) z).called) k.1 x.1,
)
right_after all t z (Err fault) h k = (record { named = h; script = refl; decl = refl }, tt)

-- A child stands right where it begins.
child_right : (f : ℕ) (script : List Task) (q : Ask TaskState) → ChildOf script q f
    → ForkStandsRight (ask_as (placed f) q)
child_right f script (ask.Fork b pass hand) h =
    let found = ap (λ s. slice_get s f) h.2 ∙ h.1 in record {
      task = h.0;
      is_declared = found;
      named = subst (λ o. AreNamed (within h.0.body) (all_ahead o) b.rest) (sym found)
          (subst (AreNamed (within h.0.body) (numbers 0 h.0.body ++ length (within h.0.body) ∷ [])) (sym h.3)
          (all_named h.0.body));
    }
child_right f script q h = tt

-- a task that stands right does so after each ask, and so does what it forks
pub stays_right : (x : PlacedState) (a : Answer) → StandsRight x
    → StandsRight (placed_then x a) × ForkStandsRight (placed_asks x a)
stays_right x a h =
    let t = record x.task { places = x.task.places + new_places a } in
    let r = right_after (within h.task.body) t x.stand (answered t t.due a) h.named (rest_answered t t.due a) in (
      record {
        task = h.task;
        is_declared = ap (λ s. slice_get s (stand_next x.task a x.stand).decl) r.0.script
            ∙ ap (slice_get x.task.script) r.0.decl ∙ h.is_declared;
        named = r.0.named;
      },
      child_right (stand_next x.task a x.stand).called x.task.script (script_asks x.task a) r.1,
    )

-- A task that stands right does so at each point of each round.
pub right_in_rounds : (strict : Bool) (root : PlacedState) → StandsRight root → HoldsInRounds StandsRight
    (program_of placed_places placed_awaits placed_left placed_asks placed_then strict root)
right_in_rounds strict root h = holds_in_rounds StandsRight
    (program_of placed_places placed_awaits placed_left placed_asks placed_then strict root)
    stays_right h
