-- A task that failed for a promise which it owned had handed it twice at one fork.
use Rattle.std.proofs.Common.{◌≡◌, ◌≤◌, ℕ, zero, suc, ◌*◌, ◌+◌, Bool, true, false, cond, not, ◌&&◌, List, [], ◌∷◌, map}
use Rattle.std.proofs.Common.{Option, Some, None, Result, Ok, Err, refl, sym, ap, ◌∙◌, subst, arith}
use Rattle.tj_base.specs.ForkOrder.{Name, before}
use Rattle.tj_base.specs.declared.cause.Cause.{Cause}
use Rattle.tj_base.specs.declared.cause.Cause.TheVariants as cause
use Rattle.tj_base.specs.declared.cause.Trouble.TheVariants as trouble
use Rattle.tj_base.specs.declared.cell.Sort.{Sort}
use Rattle.tj_base.specs.declared.cell.Sort.TheVariants as sort
use Rattle.tj_body.specs.History.{Assignment, after_ask, after_failure, after_get, after_join, after_look, after_set}
use Rattle.tj_body.specs.History.{after_stage, after_try_fork, after_write, hand_all, hand_one, history, point_after}
use Rattle.tj_body.specs.History.{reference, with_wait}
use Rattle.tj_body.specs.Names.{has, in_order, same, without}
use Rattle.tj_body.specs.Points.{IsIn}
use Rattle.tj_body.specs.Programs.{Rules}
use Rattle.tj_body.specs.declared.ask.Answer.{Answer}
use Rattle.tj_body.specs.declared.ask.Ask.{Ask}
use Rattle.tj_body.specs.declared.ask.Ask.TheVariants as ask
use Rattle.tj_body.specs.declared.point.Close.{Close}
use Rattle.tj_body.specs.declared.point.Close.TheVariants as close
use Rattle.tj_body.specs.declared.point.Entry.{Entry}
use Rattle.tj_body.specs.declared.point.Entry.TheVariants as entry
use Rattle.tj_body.specs.declared.point.Point.{Point}
use Rattle.tj_body.specs.declared.point.PointStage.{PointStage}
use Rattle.tj_body.specs.declared.point.PointStage.TheVariants as stage
use Rattle.tj_body.specs.declared.point.Reference.{Reference}
use Rattle.tj_body.specs.declared.point.Task.{Task}
use Rattle.tj_body.specs.declared.point.Value.{Value}
use Rattle.tj_body.specs.declared.point.Value.TheVariants as value
use Rattle.tj_body.proofs.Counts.{has_of_times, is, one_if, same_is, same_self, times, times_in_order, times_of_in}
use Rattle.tj_body.proofs.Counts.{times_without}
use Rattle.tj_body.specs.Rounds.{given, last_round, tasks}
use Rattle.tj_body.specs.SeenAs.{task_as}
use Rattle.tj_body.proofs.Lists.{to_map}
use Rattle.tj_body.proofs.SeenAs.{histories_seen, rounds_seen}
use Rattle.tj_eval.specs.Stands.{PlacedState}
use Rattle.tj_mean.specs.Outcomes.{ending_of}
use Rattle.tj_mean.specs.declared.outcome.Ending.TheVariants as ending
use Rattle.tj_mean.proofs.Lists.Elements.{get_in, in_of_has}
use Rattle.tj_trace.specs.Logs.{logged_program}
use Rattle.tj_trace.specs.MadeAt.{placed_program}
use Rattle.tj_trace.specs.Traces.{AreTraced}
use Rattle.tj_trace.specs.declared.line.TraceLine.{TraceLine}
use Rattle.tj_trace.proofs.HasLines.{line_is, line_name, not_none, of_line, some_is as line_some}
use Rattle.tj_trace.proofs.SetsThere.{place}
use Rattle.tj_forest.proofs.PlacedTasks.{placed_seen}
use Rattle.tj_forest.specs.TwiceHanded.{EndsHandingTwice, HandsTwice, IsTwiceIn}
use Rattle.tj_forest.specs.WentLaws.{HandedTwice}

-- stages, causes and results that differ
owner_is : (x q : Name) → ◌≡◌ {A = Result (List Name) Cause} (Err (cause.Owner x)) (Err (cause.Owner q)) → x ≡ q
owner_is x q e = cc

no_kind : (q : Name) → ◌≡◌ {A = Result (List Name) Cause} (Err cause.Kind) (Err (cause.Owner q)) → ⊥
no_kind q e = cc

failed_is : (c d : Cause) → stage.Closed (close.Failed c) ≡ stage.Closed (close.Failed d) → c ≡ d
failed_is c d e = cc

failed_for : (x q : Name) → stage.Closed (close.Failed (cause.Owner x)) ≡ stage.Closed (close.Failed (cause.Owner q))
    → x ≡ q
failed_for x q e = cc

no_answer : (a : Answer) (c : Close) → stage.Answered a ≡ stage.Closed c → ⊥
no_answer a c e = cc

no_wait : (x : Name) (spare : Bool) (c : Close) → stage.Waits x spare ≡ stage.Closed c → ⊥
no_wait x spare c e = cc

no_end : (v : Value) (c : Cause) → stage.Closed (close.Done v) ≡ stage.Closed (close.Failed c) → ⊥
no_end v c e = cc

-- the cause is no lack of a right to a promise
abbrev IsOther : Cause → Type 0
IsOther cause.Arith = Unit {0}
IsOther cause.Kind = Unit {0}
IsOther cause.Steps = Unit {0}
IsOther (cause.Owner q) = ⊥
IsOther (cause.Broken q) = Unit {0}
IsOther (cause.Order q) = Unit {0}

no_other : (c : Cause) (q : Name) → IsOther c
    → stage.Closed (close.Failed c) ≡ stage.Closed (close.Failed (cause.Owner q)) → ⊥
no_other c q o e = subst IsOther (failed_is c (cause.Owner q) e) o

-- what stands twice in a list does so at two numbers
two_numbers : (q : Name) (l : List Name) → 2 ≤ times q l → IsTwiceIn q l
two_numbers q [] h = absurd (omega arith)
two_numbers q (x ∷ xs) h = by (same q x) refl h (two_numbers q xs) where
  by : (b : Bool) → same q x ≡ b → 2 ≤ one_if b + times q xs → (2 ≤ times q xs → IsTwiceIn q xs)
      → IsTwiceIn q (x ∷ xs)
  by true e g rec =
      let k = get_in xs q (in_of_has q xs (has_of_times q xs (omega arith))) in
      (0, suc k.0, omega arith, ap (λ z. Some z) (sym (same_is q x e)), k.1)
  by false e g rec =
      let r = rec (omega arith) in
      let l = r.2 in (suc r.0, suc r.1, omega arith, r.3, r.4)

-- a fork that is refused for a promise names it more often than the task holds it
more_often : (q : Name) (holds : List Name) (rs : List Reference) → hand_all holds rs ≡ Err (cause.Owner q)
    → suc (times q holds) ≤ times q (map (λ (r : Reference). r.name) rs)
more_often q holds [] e = absurd (cc)
more_often q holds (r ∷ rs) e =
    by_sort (more_often q (without r.name holds) rs) r.sort (has r.name holds) refl e where
      by_sort : (hand_all (without r.name holds) rs ≡ Err (cause.Owner q)
          → suc (times q (without r.name holds)) ≤ times q (map (λ (x : Reference). x.name) rs))
          → (s : Sort) (b : Bool) → has r.name holds ≡ b
          → hand_one s b r.name (hand_all (without r.name holds) rs) ≡ Err (cause.Owner q)
          → suc (times q holds) ≤ is q r.name + times q (map (λ (x : Reference). x.name) rs)
      by_sort rec sort.Task b h g = absurd (no_kind q g)
      by_sort rec sort.Promise true h g = let k = rec g in let m = times_without q r.name holds h in omega arith
      by_sort rec sort.Promise false h g =
          let z : r.name ≡ q = owner_is r.name q g in
          let few : ¬ (1 ≤ times q holds) = λ l. (
          let w : true ≡ false = sym (has_of_times q holds l) ∙ subst (λ x. has x holds ≡ false) z h in cc) in
          let one : is q r.name ≡ 1 = subst (λ x. is q x ≡ 1) (sym z) (ap one_if (same_self q)) in
          omega arith

-- the names of references
names_of : {A : Type 0} (f : A → Reference) (l : List A)
    → map (λ (r : Reference). r.name) (map f l) ≡ map (λ k. (f k).name) l
names_of f [] = refl
names_of f (x ∷ xs) = ap (λ l. (f x).name ∷ l) (names_of f xs)

module _ {B : Type 0} (q : Name) where
  -- the task has failed for the promise
  abbrev Fails : Point B → Type 0
  Fails p = p.stage ≡ stage.Closed (close.Failed (cause.Owner q))

  -- the fork hands the promise twice
  abbrev IsTwiceFork : Point B → Ask B → Type 0
  IsTwiceFork p a = (b : B) × (pass : List ℕ) × (hand : List ℕ) × (a ≡ ask.Fork b pass hand)
      × IsTwiceIn q (map (λ k. (reference p k).name) hand)

  held : (p : Point B) → IsIn q (in_order p.holds) → 1 ≤ times q p.holds
  held p i = let a = times_of_in q (in_order p.holds) i in let b = times_in_order q p.holds in omega arith

  fork_twice : (b : B) (pass hand : List ℕ) (passed : List Reference) (handed : List Name)
      (o : Result (List Name) Cause) (p : Point B) → hand_all p.holds (map (reference p) hand) ≡ o
      → Fails (after_try_fork b passed handed o p) → IsIn q (after_try_fork b passed handed o p).owed
      → IsTwiceFork p (ask.Fork b pass hand)
  fork_twice b pass hand passed handed (Ok left) p h e i = absurd (no_answer _ _ e)
  fork_twice b pass hand passed handed (Err c) p h e i =
      let same : c ≡ cause.Owner q = failed_is c (cause.Owner q) e in
      let more = more_often q p.holds (map (reference p) hand) (h ∙ ap (λ z. Err z) same) in
      let own = held p i in (
        b,
        pass,
        hand,
        refl,
        subst (IsTwiceIn q) (names_of (reference p) hand)
            (two_numbers q (map (λ (r : Reference). r.name) (map (reference p) hand)) (omega arith)),
      )

  no_set : (s : Sort) (x : Name) (v : Value) (p : Point B) → Fails (after_set s x v p)
      → IsIn q (after_set s x v p).owed → ⊥
  no_set sort.Task x v p e i = no_other cause.Kind q tt e
  no_set sort.Promise x v p e i = by (has x p.holds) refl e i where
    by : (b : Bool) → has x p.holds ≡ b → Fails (cond b (after_write x v p) (after_failure (cause.Owner x) p))
        → IsIn q (cond b (after_write x v p) (after_failure (cause.Owner x) p)).owed → ⊥
    by true h e i = no_answer _ _ e
    by false h e i =
        let w : false ≡ true = sym h ∙ ap (λ z. has z p.holds) (failed_for x q e) ∙ has_of_times q p.holds (held p i) in
        cc

  no_get : (spare : Bool) (s : Sort) (x : Name) (p : Point B) → Fails (after_get spare s x p) → ⊥
  no_get spare sort.Task x p e = no_other cause.Kind q tt e
  no_get spare sort.Promise x p e = no_wait x spare _ e

  no_join : (strict spare : Bool) (s : Sort) (x : Name) (p : Point B) → Fails (after_join strict spare s x p) → ⊥
  no_join strict spare sort.Promise x p e = no_other cause.Kind q tt e
  no_join strict spare sort.Task x p e = by (strict && not (before p.name x)) e where
    by : (b : Bool) → Fails (cond b (after_failure (cause.Order x) p) (with_wait spare x p)) → ⊥
    by true e = no_other (cause.Order x) q tt e
    by false e = no_wait x spare _ e

  -- an ask at which a task fails for a promise that it holds is a fork which hands it twice
  ask_twice : (strict : Bool) (a : Ask B) (p : Point B) → Fails (after_ask strict a p)
      → IsIn q (after_ask strict a p).owed → IsTwiceFork p a
  ask_twice strict ask.New p e i = absurd (no_answer _ _ e)
  ask_twice strict (ask.Fork b pass hand) p e i =
      fork_twice b pass hand (map (reference p) pass) (map (λ k. (reference p k).name) hand)
      (hand_all p.holds (map (reference p) hand)) p refl e i
  ask_twice strict (ask.Set k v) p e i = absurd (no_set (reference p k).sort (reference p k).name _ p e i)
  ask_twice strict (ask.Get k) p e i = absurd (no_get false (reference p k).sort (reference p k).name p e)
  ask_twice strict (ask.Join k) p e i = absurd (no_join strict false (reference p k).sort (reference p k).name p e)
  ask_twice strict (ask.GetOr k) p e i = absurd (no_get true (reference p k).sort (reference p k).name p e)
  ask_twice strict (ask.JoinOr k) p e i = absurd (no_join strict true (reference p k).sort (reference p k).name p e)
  ask_twice strict (ask.Emit n) p e i = absurd (no_answer _ _ e)
  ask_twice strict (ask.End v) p e i = absurd (no_end _ _ e)
  ask_twice strict (ask.Fail trouble.Arith) p e i = absurd (no_other cause.Arith q tt e)
  ask_twice strict (ask.Fail trouble.Kind) p e i = absurd (no_other cause.Kind q tt e)
  ask_twice strict (ask.Fail trouble.Steps) p e i = absurd (no_other cause.Steps q tt e)

  -- no wait ends so
  no_look : (spare : Bool) (x : Name) (o : Option Entry) (p : Point B) → p.stage ≡ stage.Waits x spare
      → Fails (after_look spare x o p) → ⊥
  no_look spare x None p s e = no_wait x spare _ (sym s ∙ e)
  no_look true x (Some entry.Broken) p s e = no_answer _ _ e
  no_look false x (Some entry.Broken) p s e = no_other (cause.Broken x) q tt e
  no_look spare x (Some (entry.Value (value.Num n))) p s e = no_answer _ _ e
  no_look spare x (Some (entry.Value (value.Ref r))) p s e = no_answer _ _ e

-- the task hasn't ended in this stage
abbrev GoesOn : PointStage → Type 0
GoesOn (stage.Answered a) = Unit {0}
GoesOn (stage.Waits x spare) = Unit {0}
GoesOn (stage.Closed c) = ⊥

module _ {B : Type 0} (rules : Rules B) (V : Assignment) where
  step_twice : (q : Name) (s : PointStage) (p : Point B) → p.stage ≡ s → GoesOn s → Fails q (after_stage rules V s p)
      → IsIn q (after_stage rules V s p).owed → HandsTwice rules p q
  step_twice q (stage.Answered a) p is on e i =
      let f = ask_twice q rules.strict (rules.asks p.body a) (record p { body = rules.then p.body a }) e i in record {
        answer = a;
        answered = is;
        child = f.0;
        pass = f.1;
        hand = f.2;
        forks = f.3;
        twice = f.4;
      }
  step_twice q (stage.Waits x spare) p is on e i = absurd (no_look q spare x (V x) p is e)
  step_twice q (stage.Closed c) p is on e i = absurd on

  module _ (t : Task B) where
    abbrev at : ℕ → Point B
    at k = point_after rules V k t

    -- a history that has ended has a last step
    last_step : (n : ℕ) (c : Close) → (at n).stage ≡ stage.Closed c
        → (k : ℕ) × (at (suc k) ≡ at n) × GoesOn (at k).stage
    last_step zero c e = absurd (no_answer _ c e)
    last_step (suc n) c e = by (at n).stage refl (last_step n) where
      by : (s : PointStage) → (at n).stage ≡ s
          → ((d : Close) → (at n).stage ≡ stage.Closed d → (k : ℕ) × (at (suc k) ≡ at n) × GoesOn (at k).stage)
          → (k : ℕ) × (at (suc k) ≡ at (suc n)) × GoesOn (at k).stage
      by (stage.Answered a) s rec = (n, refl, subst GoesOn (sym s) tt)
      by (stage.Waits x spare) s rec = (n, refl, subst GoesOn (sym s) tt)
      by (stage.Closed d) s rec =
          let r = rec d s in (r.0, r.1 ∙ sym (ap (λ z. after_stage rules V z (at n)) s), r.2)

    -- a task that failed for a promise which it owed had handed it twice
    pub ends_twice : (q : Name) → Fails q (history rules V t) → IsIn q (history rules V t).owed
        → EndsHandingTwice rules V t q
    ends_twice q e i =
        let k = last_step (2 * suc (rules.left t.body)) (close.Failed (cause.Owner q)) e in (
          k.0,
          step_twice q (at k.0).stage (at k.0) refl k.2 (ap (λ (p : Point B). p.stage) k.1 ∙ e)
              (subst (λ (p : Point B). IsIn q p.owed) (sym k.1) i),
          k.1,
        )

-- a task whose line tells that it failed for a promise which it owed
module _ (strict : Bool) (root : PlacedState) (N : ℕ) (lines : List TraceLine)
    (traced : AreTraced (logged_program strict root) N lines) where
  -- a history that ended in a failure has this stage
  failed_stage : (z : PointStage) (c : Cause) → ending_of z ≡ Some (ending.Failed c) → z ≡ stage.Closed (close.Failed c)
  failed_stage (stage.Answered a) c e = absurd (not_none (ending.Failed c) e)
  failed_stage (stage.Waits x spare) c e = absurd (cc)
  failed_stage (stage.Closed (close.Done v)) c e = absurd (cc)
  failed_stage (stage.Closed (close.Failed d)) c e =
      ap (λ z. stage.Closed (close.Failed z)) (one d c (line_some (ending.Failed d) (ending.Failed c) e)) where
        one : (d c : Cause) → ending.Failed d ≡ ending.Failed c → d ≡ c
        one d c e = cc

  pub twice_there : (l : TraceLine) → IsIn l lines → (q : Name) → l.line.ending ≡ ending.Failed (cause.Owner q)
      → IsIn q l.line.owes → HandedTwice strict root N l.line.name q
  twice_there l i q ends owes =
      let program = logged_program strict root in
      let other = placed_program strict root in
      let V = given program (last_round N) in
      let t = of_line strict root N lines traced l i in
      let p = history program.rules V t.0 in
      let k = line_is p l t.1.is in
      let stops = failed_stage p.stage (cause.Owner q)
      (k.1 ∙ ap (λ (z : TraceLine). Some z.line.ending) k.2 ∙ ap (λ z. Some z) ends) in
      let owed = subst (IsIn q) (ap (λ (z : TraceLine). z.line.owes) (sym k.2)) owes in
      let seen = rounds_seen place program other (record { rules = placed_seen strict root; root = refl })
      (last_round N) in
      let u = task_as place t.0 in
      let same = (histories_seen place program.rules other.rules (placed_seen strict root) V t.0).1 in
      let twice = ends_twice other.rules V u q (ap (λ (z : Point PlacedState). z.stage) same ∙ stops)
      (subst (λ (z : Point PlacedState). IsIn q z.owed) (sym same) owed) in (
        u,
        (
          subst (IsIn u) (sym seen.tasks) (to_map (task_as place) t.0 (tasks program (last_round N)) t.1.there),
          line_name strict root N t.0 l t.1,
        ),
        subst (λ W. EndsHandingTwice other.rules W u q) (sym seen.given) twice,
      )
