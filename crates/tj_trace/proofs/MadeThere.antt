-- What a line tells is read off the history of the task that knows where it stands.
use Rattle.tj_trace.proofs.LoggedRules.{rules}
use Rattle.tj_trace.proofs.Prelude.{Ask, Assignment, Bool, Cause, Entry, Err, IsIn, List, Logged, Maker, Name, None}
use Rattle.tj_trace.proofs.Prelude.{Ok, Option, Point, PointStage, Reference, Result, Rules, Some, Sort, Task, Value}
use Rattle.tj_trace.proofs.Prelude.{[], after_ask, after_failure, after_get, after_join, after_look, after_new}
use Rattle.tj_trace.proofs.Prelude.{after_read, after_set, after_stage, after_try_fork, after_write, ap, arith}
use Rattle.tj_trace.proofs.Prelude.{before, cond, false, given, hand_all, has, history, last_round, length}
use Rattle.tj_trace.proofs.Prelude.{length-append, logged, logged_left, logged_program, logged_then, made_by}
use Rattle.tj_trace.proofs.Prelude.{maker_here, map, not, point_after, reference, refl, root_task, rules_of, subst}
use Rattle.tj_trace.proofs.Prelude.{suc, sym, tasks, true, with_wait, zero, ℕ, ◌&&◌, ◌*◌, ◌++◌, ◌+◌, ◌∙◌, ◌∷◌, ◌≡◌}
use Rattle.std.proofs.Common.{nat_eq, append-nil, eq-eqb}
use Rattle.std.proofs.lemmas.Bool.{ne_eqb}
use Rattle.tj_body.specs.SeenAs.{ask_as, task_as, point_as, AreSeenAs}
use Rattle.tj_body.proofs.Lists.{in_map}
use Rattle.tj_body.proofs.SeenAs.{histories_seen, rounds_seen}
use Rattle.tj_body.proofs.Rounds.Rises.{one_of_all}
use Rattle.tj_eval.specs.Stands.{PlacedState, placed_places, placed_awaits, placed_left, placed_asks, placed_then}
use Rattle.tj_body.specs.History.{to_task}
use Rattle.tj_trace.specs.MadeAt.{placed_program, made_here, made_between, made_until, IsLineOf, LinesAreOfStands}
use Rattle.tj_trace.specs.MadeAt.{set_between, set_until, values_of}
use Rattle.tj_trace.specs.Traces.{held_at, set_of}
use Rattle.tj_trace.proofs.Noted.{IsLogged, family_fresh, notes_at}
use Rattle.tj_trace.proofs.HasLines.{HasLine, of_line, line_name, line_makers, line_stand}
use Rattle.tj_trace.proofs.LineParts.{line_sets, line_began, line_held}
use Rattle.tj_trace.proofs.PromisePlaces.{ArePromises, set_places}
use Rattle.tj_trace.proofs.SetsThere.{began_there, place, sets_of_point, step_sets}
use Rattle.tj_base.specs.declared.cell.Sort.TheVariants as sort
use Rattle.tj_base.specs.declared.cause.Cause.TheVariants as cause
use Rattle.tj_body.specs.declared.ask.Ask.TheVariants as ask
use Rattle.tj_body.specs.declared.point.Value.TheVariants as value
use Rattle.tj_body.specs.declared.point.Entry.TheVariants as entry
use Rattle.tj_body.specs.declared.point.PointStage.TheVariants as stage

place_ask : (q : Ask PlacedState) → q ≡ ask_as place (ask_as logged q)
place_ask ask.New = refl
place_ask q = refl

placed_seen : (strict : Bool) → AreSeenAs place
    (rules strict)
    (rules_of placed_places placed_awaits placed_left placed_asks placed_then strict)
placed_seen strict = record {
  strict = refl;
  places = λ b. refl;
  awaits = λ b. refl;
  left = λ b. refl;
  asks = λ b a. place_ask (placed_asks b.placed a);
  then = λ b a. refl;
}

same_number : (n : ℕ) → nat_eq n n ≡ true
same_number n = eq-eqb n n refl

next_number : (n : ℕ) → nat_eq (suc n) n ≡ false
next_number n = ne_eqb (suc n) n (λ e. off n e) where
  off : (n : ℕ) → suc n ≡ n → ⊥
  off n e = omega (arith, e)

one_longer : {A : Type 0} (xs : List A) (x : A) → nat_eq (length (xs ++ x ∷ [])) (length xs) ≡ false
one_longer xs x =
    ap (λ k. nat_eq k (length xs)) (let l = length-append xs (x ∷ []) in longer xs x l) ∙ next_number (length xs) where
      longer : {A : Type 0} (xs : List A) (x : A) → length (xs ++ x ∷ []) ≡ length xs + 1
          → length (xs ++ x ∷ []) ≡ suc (length xs)
      longer xs x l = omega (arith, l)

-- the notes of the first point, of which it has so many, with what was made are those of the second
abbrev IsMore : List Maker → Point Logged → Point Logged → Type 0
IsMore ms p q = notes_at q.stage q.body ≡ ms ++ made_between (point_as place p) (point_as place q)

-- nothing was made
nothing_more : (ms : List Maker) (p q : Point Logged) → q.made ≡ p.made → notes_at q.stage q.body ≡ ms → IsMore ms p q
nothing_more ms p q e h =
    h ∙ sym (append-nil ms)
    ∙ ap (λ b. ms ++ cond b [] (made_here (cond (nat_eq (length q.promises) (length p.promises)) sort.Task sort.Promise)
    q.body.placed.stand ∷ [])) (sym (ap (λ n. nat_eq n p.made) e ∙ same_number p.made))

-- a promise was made
promise_more : (p : Point Logged) → p.body.due ≡ Some sort.Promise → IsMore p.body.makers p (after_new p)
promise_more p e =
    ap (λ o. p.body.makers ++ maker_here o p.body.placed.stand) e
    ∙ sym (ap (λ b. p.body.makers ++ made b (nat_eq (length (after_new p).promises) (length p.promises)))
    (next_number p.made) ∙ ap (λ b. p.body.makers ++ made false b) (one_longer p.promises _)) where
      made : Bool → Bool → List Maker
      made b c = cond b [] (made_here (cond c sort.Task sort.Promise) p.body.placed.stand ∷ [])

-- a task was made, unless the fork was refused
fork_more : (b : PlacedState) (passed : List Reference) (handed : List Name) (o : Result (List Name) Cause)
    (p : Point Logged) → p.body.due ≡ Some sort.Task
    → IsMore p.body.makers p (after_try_fork (logged b) passed handed o p)
fork_more b passed handed (Err c) p e = nothing_more p.body.makers p (after_failure c p) refl refl
fork_more b passed handed (Ok left) p e =
    ap (λ o. p.body.makers ++ maker_here o p.body.placed.stand) e
    ∙ sym (ap (λ b. p.body.makers ++ made b (nat_eq (length p.promises) (length p.promises))) (next_number p.made)
    ∙ ap (λ b. p.body.makers ++ made false b) (same_number (length p.promises))) where
      made : Bool → Bool → List Maker
      made b c = cond b [] (made_here (cond c sort.Task sort.Promise) p.body.placed.stand ∷ [])

set_more : (s : Sort) (x : Name) (v : Value) (p : Point Logged) → IsMore p.body.makers p (after_set s x v p)
set_more sort.Task x v p = nothing_more p.body.makers p (after_failure cause.Kind p) refl refl
set_more sort.Promise x v p = by (has x p.holds) where
  by : (b : Bool) → IsMore p.body.makers p (cond b (after_write x v p) (after_failure (cause.Owner x) p))
  by true = nothing_more p.body.makers p (after_write x v p) refl refl
  by false = nothing_more p.body.makers p (after_failure (cause.Owner x) p) refl refl

get_more : (spare : Bool) (s : Sort) (x : Name) (p : Point Logged) → IsMore p.body.makers p (after_get spare s x p)
get_more spare sort.Task x p = nothing_more p.body.makers p (after_failure cause.Kind p) refl refl
get_more spare sort.Promise x p = nothing_more p.body.makers p (with_wait spare x p) refl refl

join_more : (strict spare : Bool) (s : Sort) (x : Name) (p : Point Logged)
    → IsMore p.body.makers p (after_join strict spare s x p)
join_more strict spare sort.Promise x p = nothing_more p.body.makers p (after_failure cause.Kind p) refl refl
join_more strict spare sort.Task x p = by (strict && not (before p.name x)) where
  by : (b : Bool) → IsMore p.body.makers p (cond b (after_failure (cause.Order x) p) (with_wait spare x p))
  by true = nothing_more p.body.makers p (after_failure (cause.Order x) p) refl refl
  by false = nothing_more p.body.makers p (with_wait spare x p) refl refl

ask_more : (strict : Bool) (a : Ask PlacedState) (p : Point Logged) → p.body.due ≡ made_by a
    → IsMore p.body.makers p (after_ask strict (ask_as logged a) p)
ask_more strict ask.New p e = promise_more p e
ask_more strict (ask.Fork b pass hand) p e = fork_more b _ _ (hand_all p.holds (map (reference p) hand)) p e
ask_more strict (ask.Set k v) p e = set_more (reference p k).sort (reference p k).name _ p
ask_more strict (ask.Get k) p e = get_more false (reference p k).sort (reference p k).name p
ask_more strict (ask.Join k) p e = join_more strict false (reference p k).sort (reference p k).name p
ask_more strict (ask.GetOr k) p e = get_more true (reference p k).sort (reference p k).name p
ask_more strict (ask.JoinOr k) p e = join_more strict true (reference p k).sort (reference p k).name p
ask_more strict (ask.Emit i) p e = nothing_more p.body.makers p (after_ask strict (ask.Emit i) p) refl refl
ask_more strict (ask.End v) p e = nothing_more p.body.makers p (after_ask strict (ask.End v) p) refl refl
ask_more strict (ask.Fail t) p e = nothing_more p.body.makers p (after_ask strict (ask.Fail t) p) refl refl

look_more : (spare : Bool) (x : Name) (o : Option Entry) (p : Point Logged)
    → notes_at p.stage p.body ≡ p.body.makers → IsMore (notes_at p.stage p.body) p (after_look spare x o p)
look_more spare x None p e = nothing_more (notes_at p.stage p.body) p p refl refl
look_more spare x (Some y) p e = subst (λ ms. IsMore ms p (after_read spare x y p)) (sym e) (read spare y) where
  read : (b : Bool) (y : Entry) → IsMore p.body.makers p (after_read b x y p)
  read true entry.Broken = nothing_more p.body.makers p (after_read true x entry.Broken p) refl refl
  read false entry.Broken = nothing_more p.body.makers p (after_read false x entry.Broken p) refl refl
  read b (entry.Value (value.Num i)) =
      nothing_more p.body.makers p (after_read b x (entry.Value (value.Num i)) p) refl refl
  read b (entry.Value (value.Ref r)) =
      nothing_more p.body.makers p (after_read b x (entry.Value (value.Ref r)) p) refl refl

module _ (strict : Bool) where
  abbrev bare : Rules PlacedState
  bare = rules_of placed_places placed_awaits placed_left placed_asks placed_then strict

  -- each step
  step_more : (V : Assignment) (s : PointStage) (p : Point Logged) → p.stage ≡ s
      → IsMore (notes_at p.stage p.body) p (after_stage (rules strict) V s p)
  step_more V (stage.Answered a) p e =
      let q = record p { body = logged_then p.body a } in
      let r = after_ask strict (ask_as logged (placed_asks p.body.placed a)) q in
      subst (λ s. IsMore (notes_at s p.body) p r) (sym e) (ask_more strict (placed_asks p.body.placed a) q refl)
  step_more V (stage.Waits x spare) p e = look_more spare x (V x) p (ap (λ s. notes_at s p.body) e)
  step_more V (stage.Closed c) p e = nothing_more (notes_at p.stage p.body) p p refl refl

  -- the notes after so many steps
  pub noted_until : (V : Assignment) (t : Task Logged) → t.body.makers ≡ [] → (k : ℕ)
      → let p = point_after (rules strict) V k t in notes_at p.stage p.body ≡ made_until bare V (task_as place t) k
  noted_until V t e zero = e
  noted_until V t e (suc k) =
      let p = point_after (rules strict) V k t in
      let q = point_after (rules strict) V (suc k) t in
      let seen = (histories_seen place (rules strict) bare (placed_seen strict) V t).0 in
      step_more V p.stage p refl
      ∙ ap (λ ms. ms ++ made_between (point_as place p) (point_as place q)) (noted_until V t e k)
      ∙ ap (λ z. made_until bare V (task_as place t) k ++ made_between z (point_as place q)) (sym (seen k))
      ∙ ap (λ z. made_until bare V (task_as place t) k ++ made_between (point_after bare V k (task_as place t)) z)
      (sym (seen (suc k)))

  -- what was set after so many steps
  set_by_then : (V : Assignment) (t : Task Logged) → IsLogged t → (k : ℕ)
      → let p = point_after (rules strict) V k t in
      (map (set_of p.name p.references) (sets_of_point p) ≡ set_until bare V (task_as place t) k)
      × ArePromises p.name p.references (set_places (sets_of_point p))
  set_by_then V t e zero = (
    ap (λ (x : Logged). map (set_of t.name (to_task t.name ∷ t.passed)) x.sets) e,
    subst (λ (x : Logged). ArePromises t.name (to_task t.name ∷ t.passed) (set_places x.sets)) (sym e) tt,
  )
  set_by_then V t e (suc k) =
      let p = point_after (rules strict) V k t in
      let q = point_after (rules strict) V (suc k) t in
      let seen = (histories_seen place (rules strict) bare (placed_seen strict) V t).0 in
      let before = set_by_then V t e k in
      let on = step_sets strict V p.stage p refl before.1 in (
        on.sets
            ∙ ap (λ ns. ns ++ set_between (point_as place p) (point_as place q)) before.0
            ∙ ap (λ z. set_until bare V (task_as place t) k ++ set_between z (point_as place q)) (sym (seen k))
            ∙ ap (λ z. set_until bare V (task_as place t) k
            ++ set_between (point_after bare V k (task_as place t)) z) (sym (seen (suc k))),
        on.promises,
      )

-- the law
pub lines_are_of_stands : (strict : Bool) (root : PlacedState) → LinesAreOfStands strict root
lines_are_of_stands strict root N lines traced l i t there name =
    let p = logged_program strict root in
    let bare_p = placed_program strict root in
    let n = last_round N in
    let seen = rounds_seen place p bare_p (record { rules = placed_seen strict; root = refl }) n in
    let k = of_line strict root N lines traced l i in
    let u = in_map (task_as place) t (tasks p n) (subst (IsIn t) seen.tasks there) in
    let one : u.0 ≡ k.0 = one_of_all p n n u.0 k.0 u.1 k.1.there
    (ap (λ (z : Task PlacedState). z.name) (sym u.2) ∙ sym name ∙ line_name strict root N k.0 l k.1) in
    let same : t ≡ task_as place k.0 = u.2 ∙ ap (task_as place) one in
    subst (λ z. IsLineOf (bare strict) (given bare_p n) z l) (sym same)
    (subst (λ W. IsLineOf (bare strict) W (task_as place k.0) l) (sym seen.given) (told k.0 k.1)) where
      fresh : (n : ℕ) (t : Task Logged) → IsIn t (tasks (logged_program strict root) n) → IsLogged t
      fresh zero t i = absurd i
      fresh (suc n) t i = family_fresh strict (given (logged_program strict root) n) (suc n)
          (root_task (logged root)) refl t i

      told : (t : Task Logged) → HasLine strict root N t l
          → IsLineOf (bare strict) (given (logged_program strict root) (last_round N)) (task_as place t) l
      told t h =
          let V = given (logged_program strict root) (last_round N) in
          let seen = (histories_seen place (rules strict) (bare strict) (placed_seen strict) V t).1 in
          let last = 2 * suc (logged_left t.body) in
          let z = line_stand strict root N t l h in record {
            decl = z.0 ∙ ap (λ (q : Point PlacedState). q.body.stand.decl) (sym seen);
            at = z.1 ∙ ap (λ (q : Point PlacedState). q.body.stand.at) (sym seen);
            makers = line_makers strict root N t l h
                ∙ noted_until strict V t (ap (λ (x : Logged). x.makers) (fresh (last_round N) t h.there)) last;
            sets = line_sets strict root N t l h
                ∙ (set_by_then strict V t (fresh (last_round N) t h.there) last).0;
            began = line_began strict root N t l h
                ∙ ap (values_of (point_as place (history (rules strict) V t))) (began_there strict V t last
                ∙ ap (λ (x : Logged). x.began) (fresh (last_round N) t h.there))
                ∙ ap (λ (q : Point PlacedState). values_of q t.body.placed.task.vars) (sym seen);
            held = line_held strict root N t l h
                ∙ ap (λ (q : Point PlacedState). held_at l.line.ending (values_of q q.body.task.vars)) (sym seen);
          }
