-- Each echo has an origin, which echoes nothing: a cell that is broken in a round was broken by a task that ended in
-- the round before, so that each step back comes to an earlier round.
use Rattle.std.proofs.Common.{◌≡◌, ℕ, zero, suc, ◌+◌, ◌*◌, ◌≤◌, Bool, true, false, cond, List, [], ◌∷◌}
use Rattle.std.proofs.Common.{Option, Some, None, refl, sym, ap, subst, ◌∙◌, inl, inr, ◌⊎◌, arith}
use Rattle.std.specs.Prelude.{option_and_then, unwrap_or}
use Rattle.std.specs.List.{find}
use Rattle.std.specs.Option.{option_map, option_or}
use Rattle.tj_base.specs.Cycles.{Reaches}
use Rattle.tj_base.specs.ForkOrder.{Name}
use Rattle.tj_base.specs.declared.cause.Cause.{Cause}
use Rattle.tj_base.specs.declared.cause.Cause.TheVariants as cause
use Rattle.tj_base.specs.declared.cell.TheConstants.{MAX_CELLS}
use Rattle.tj_base.specs.declared.value.Shown.{Shown}
use Rattle.tj_body.specs.History.{Assignment, history, owned_in}
use Rattle.tj_body.specs.Names.{has}
use Rattle.tj_body.specs.Points.{IsIn}
use Rattle.tj_body.specs.Programs.{Program}
use Rattle.tj_body.specs.Rounds.{given, last_round, meaning, tasks, writes_by}
use Rattle.tj_body.specs.declared.point.Close.{Close}
use Rattle.tj_body.specs.declared.point.Close.TheVariants as close
use Rattle.tj_body.specs.declared.point.Entry.TheVariants as entry
use Rattle.tj_body.specs.declared.point.Point.{Point}
use Rattle.tj_body.specs.declared.point.PointStage.{PointStage}
use Rattle.tj_body.specs.declared.point.PointStage.TheVariants as stage
use Rattle.tj_body.specs.declared.point.Task.{Task}
use Rattle.tj_body.proofs.Counts.{has_of_times, times_of_in, total_one}
use Rattle.tj_body.proofs.Histories.Grows.{ended_same}
use Rattle.tj_body.proofs.Lists.{from_flat_map}
use Rattle.tj_body.proofs.Rounds.Families.{same_name, uses}
use Rattle.tj_body.proofs.Rounds.Rises.{in_entries, once_in_round, tasks_within, within, wrote_of_in}
use Rattle.tj_eval.specs.Bodies.{script_left}
use Rattle.tj_eval.specs.Stands.{PlacedState}
use Rattle.tj_eval.specs.Statements.{TaskState}
use Rattle.tj_mean.specs.Outcomes.{IsOutcome, ending_of}
use Rattle.tj_mean.specs.declared.outcome.Ending.{Ending}
use Rattle.tj_mean.specs.declared.outcome.Ending.TheVariants as ending
use Rattle.tj_mean.specs.declared.outcome.Outcome.{Outcome}
use Rattle.tj_mean.proofs.Lists.Elements.{get_in, in_of_has, some_is}
use Rattle.tj_trace.specs.Logs.{Logged, logged_left, logged_program}
use Rattle.tj_trace.specs.Lookups.{kept_by, kept_with}
use Rattle.tj_trace.specs.TraceLaws.{script_program}
use Rattle.tj_trace.specs.Traces.{AreTraced}
use Rattle.tj_trace.specs.Traces as traces
use Rattle.tj_trace.specs.declared.line.TraceLine.{TraceLine}
use Rattle.tj_trace.proofs.HasLines.{HasLine, ended_line, line_is, line_name, of_line, to_line}
use Rattle.tj_trace.proofs.OwnersOne.{owes_written}
use Rattle.tj_forest.proofs.BrokenCells.{BreaksAt, breaks, broken_by, names_broken}
use Rattle.tj_forest.proofs.CycleOwners.{found}
use Rattle.tj_forest.proofs.Found.{IsOf, a_cycle, a_debt, a_failure, a_wait, an_echo, debt_there, failure_there, is_of}
use Rattle.tj_forest.proofs.LineNumbers.{found_there}
use Rattle.tj_forest.proofs.Placed.{found_in}
use Rattle.tj_forest.proofs.ToldOnce.{to_point}
use Rattle.tj_findings.specs.Echoes.{back, back_by, breaker, echoed, echoed_by, most_doublings, origin}
use Rattle.tj_forest.specs.Explanations.{StoppedSo}
use Rattle.tj_findings.specs.Findings.{findings_of, maker_named, stop_of, told_cell, told_task}
use Rattle.tj_forest.specs.Origins.{BeginsEchoes, BrokeIt, CameFrom, EchoesHaveOrigins, EchoesNameEarlierCells}
use Rattle.tj_findings.specs.Searches.{line_of, owner_of}
use Rattle.tj_findings.specs.declared.finding.Finding.{Finding}
use Rattle.tj_findings.specs.declared.finding.Finding.TheVariants as finding
use Rattle.tj_findings.specs.declared.finding.ToldCell.{ToldCell}
use Rattle.tj_findings.specs.declared.finding.ToldTask.{ToldTask}

-- how many steps are taken by so many doublings
abbrev pub power : ℕ → ℕ
power zero = 1
power (suc k) = 2 * power k

-- the round of a meaning is no later than these steps are many
enough : (N d : ℕ) → N ≤ MAX_CELLS → d + power most_doublings ≤ 2 * N → d ≡ 0
unfolding most_doublings
enough N d few more = omega arith

-- what is found keeps the cell
passes : (q : Name) (f : TraceLine) (ls : List TraceLine) → find (λ l. has q (kept_by l)) ls ≡ Some f
    → has q (kept_by f) ≡ true
passes q f [] e = absurd (cc)
passes q f (x ∷ xs) e = by (has q (kept_by x)) refl e (passes q f xs) where
  by : (b : Bool) → has q (kept_by x) ≡ b → cond b (Some x) (find (λ l. has q (kept_by l)) xs) ≡ Some f
      → (find (λ l. has q (kept_by l)) xs ≡ Some f → has q (kept_by f) ≡ true) → has q (kept_by f) ≡ true
  by true is e rest = ap (λ z. has q (kept_by z)) (sym (some_is x f e)) ∙ is
  by false is e rest = rest e

-- the round of a meaning is the one behind these
rounds : (N : ℕ) → last_round N ≡ suc (2 * N)
rounds N = omega arith

-- twice as many steps
pub twice : (k a e d : ℕ) → a + power k ≤ e → e + power k ≤ d → a + power (suc k) ≤ d
twice k a e d fewer less = omega arith

-- what a task told so has become
pub closed_of : (z : PointStage) (c : Cause) → ending_of z ≡ Some (ending.Failed c) → z ≡ stage.Closed (close.Failed c)
closed_of (stage.Answered a) c e = absurd (cc)
closed_of (stage.Closed (close.Done v)) c e = absurd (cc)
closed_of (stage.Closed (close.Failed d)) c e = failed d c e where
  failed : (d c : Cause) → ◌≡◌ {A = Option Ending} (Some (ending.Failed d)) (Some (ending.Failed c))
      → stage.Closed (close.Failed d) ≡ stage.Closed (close.Failed c)
  failed d c e = cc
closed_of (stage.Waits x spare) c e = absurd (cc)

-- the task echoes nothing: it failed for another cause, or ended owing
pub data IsFirst (l : TraceLine) : Type 0 where
  by_failure : (c : Cause) → l.line.ending ≡ ending.Failed c → echoed c ≡ None → IsFirst l
  by_debt : (v : Shown) (q : Name) → l.line.ending ≡ ending.Done v → IsIn q l.line.owes → IsFirst l

module _ (strict : Bool) (root : PlacedState) (N : ℕ) (lines : List TraceLine)
    (traced : AreTraced (logged_program strict root) N lines) where
  abbrev program : Program Logged
  program = logged_program strict root

  abbrev n : ℕ
  n = last_round N

  abbrev V : ℕ → Assignment
  V m = given program m

  abbrev at : ℕ → Task Logged → Point Logged
  at m t = history program.rules (V m) t

  -- what a task kept, it owns or has broken
  pub kept_used : (t : Task Logged) (l : TraceLine) (q : Name) → HasLine strict root N t l → IsIn q (kept_by l)
      → 1 ≤ uses program.rules (V n) q t
  kept_used t l q h i =
      let k = line_is (at n t) l h.is in
      by (at n t).stage k.0 refl k.1 (subst (λ z. IsIn q (kept_by z)) (sym k.2) i) where
        owed : IsIn q (at n t).owed → 1 ≤ uses program.rules (V n) q t
        owed j =
            let w = wrote_of_in q entry.Broken (at n t).writes
            (owes_written program.rules (V n) t (2 * suc (logged_left t.body)) q j) in
            omega arith

        by : (z : PointStage) (e : Ending) → (at n t).stage ≡ z → ending_of z ≡ Some e
            → IsIn q (kept_with e (ended_line (at n t) e)) → 1 ≤ uses program.rules (V n) q t
        by (stage.Answered a) e s f i = absurd (cc)
        by (stage.Closed (close.Done v)) (ending.Done u) s f i = owed i
        by (stage.Closed (close.Done v)) (ending.Failed c) s f i = absurd (cc)
        by (stage.Closed (close.Done v)) (ending.Waits x) s f i = absurd (cc)
        by (stage.Closed (close.Failed d)) (ending.Done u) s f i = absurd (cc)
        by (stage.Closed (close.Failed d)) (ending.Failed c) s f i = owed i
        by (stage.Closed (close.Failed d)) (ending.Waits x) s f i = absurd (cc)
        by (stage.Waits x spare) (ending.Done u) s f i = absurd (cc)
        by (stage.Waits x spare) (ending.Failed c) s f i = absurd (cc)
        by (stage.Waits x spare) (ending.Waits y) s f i =
            let p = at n t in
            let j = times_of_in q (owned_in p.stage p.name p.holds)
            (subst (λ w. IsIn q (owned_in w p.name p.holds)) (sym s) i) in
            omega arith

  -- in the history of this round the task of the line had ended as it did in the end
  pub record Ended (m : ℕ) (l : TraceLine) : Type 0 where
    pub task : Task Logged
    pub there : IsIn task (tasks program (suc m))
    pub has_line : HasLine strict root N task l
    pub same : at m task ≡ at n task

  -- in the first round nothing is broken
  pub nothing_at_first : (q : Name) → V 0 q ≡ Some entry.Broken → ⊥
  nothing_at_first q e = cc

  -- a line that had ended in the round of the meaning
  pub ended_last : (l : TraceLine) → IsIn l lines → Ended n l
  ended_last l i =
      let t = of_line strict root N lines traced l i in
      record {
        task = t.0;
        there = tasks_within program n (suc n) (omega arith) t.0 t.1.there;
        has_line = t.1;
        same = refl;
      }

  -- the cell that an echo names is broken in the round before
  pub names_earlier : (m : ℕ) (l : TraceLine) (q : Name) → Ended m l → l.line.ending ≡ ending.Failed (cause.Broken q)
      → V m q ≡ Some entry.Broken
  names_earlier m l q ended is =
      let k = line_is (at n ended.task) l ended.has_line.is in
      let told : ending_of (at n ended.task).stage ≡ Some (ending.Failed (cause.Broken q)) =
      k.1 ∙ ap (λ z. Some z) (ap (λ (z : TraceLine). z.line.ending) k.2 ∙ is) in
      let stopped : (at m ended.task).stage ≡ broken_by q =
      ap (λ (p : Point Logged). p.stage) ended.same ∙ closed_of (at n ended.task).stage (cause.Broken q) told in
      names_broken program.rules (V m) ended.task (2 * suc (logged_left ended.task.body)) q stopped

  -- the line's task broke the cell
  abbrev pub Broke : TraceLine → Name → Type 0
  Broke l q = ((q ≡ l.line.name) × ((c : Cause) × (l.line.ending ≡ ending.Failed c))) ⊎ IsIn q l.line.owes

  -- it has ended
  abbrev pub HasStopped : TraceLine → Type 0
  HasStopped l = ((q : Name) → l.line.ending ≡ ending.Waits q → ⊥)

  -- the task whose end broke a cell that is broken in this round has ended in the round before
  pub broke : (m : ℕ) → suc m ≤ n → (q : Name) → V (suc m) q ≡ Some entry.Broken
      → (l : TraceLine) × IsIn l lines × Ended m l × Broke l q × HasStopped l × (breaker lines q ≡ Some l)
  broke m few q is = (l.0, l.1, has_ended, is_broke, has_stopped, by (owner_of lines q) refl) where
    from : (t : Task Logged) × IsIn t (tasks program (suc m)) × IsIn (q, entry.Broken) (writes_by program.rules (V m) t)
    from = from_flat_map (writes_by program.rules (V m)) (q, entry.Broken) (tasks program (suc m))
        (in_entries program (suc m) q entry.Broken is)

    u : Task Logged
    u = from.0

    there : IsIn u (tasks program n)
    there = tasks_within program (suc m) n few u from.1

    l : (l : TraceLine) × IsIn l lines × HasLine strict root N u l
    l = to_line strict root N lines traced u there

    named : l.0.line.name ≡ u.name
    named = line_name strict root N u l.0 l.2

    close_of : (z : PointStage) → (at m u).stage ≡ z → BreaksAt z (at m u)
        → ((e : Close) × ((at m u).stage ≡ stage.Closed e))
        × (((q ≡ (at m u).name) × ((c : Cause) × ((at m u).stage ≡ stage.Closed (close.Failed c))))
        ⊎ IsIn q (at m u).owed)
    close_of (stage.Answered a) s h = absurd (h q from.2)
    close_of (stage.Waits x spare) s h = absurd (h q from.2)
    close_of (stage.Closed (close.Done v)) s h = ((close.Done v, s), inr (h q from.2))
    close_of (stage.Closed (close.Failed c)) s h = ((close.Failed c, s), which (h q from.2)) where
      which : (q ≡ (at m u).name) ⊎ IsIn q (at m u).owed
          → ((q ≡ (at m u).name) × ((c : Cause) × ((at m u).stage ≡ stage.Closed (close.Failed c))))
          ⊎ IsIn q (at m u).owed
      which (inl e) = inl (e, (c, s))
      which (inr i) = inr i

    closed : ((e : Close) × ((at m u).stage ≡ stage.Closed e))
        × (((q ≡ (at m u).name) × ((c : Cause) × ((at m u).stage ≡ stage.Closed (close.Failed c))))
        ⊎ IsIn q (at m u).owed)
    closed = close_of (at m u).stage refl (breaks program.rules (V m) u (2 * suc (logged_left u.body)))

    same_point : at m u ≡ at n u
    same_point = ended_same program.rules (V m) (V n) (within program m n (omega arith)) u
        (2 * suc (logged_left u.body)) closed.0.0 closed.0.1

    has_ended : Ended m l.0
    has_ended = record { task = u; there = from.1; has_line = l.2; same = same_point }

    told : (e : Ending) × (ending_of (at n u).stage ≡ Some e) × (ended_line (at n u) e ≡ l.0)
    told = line_is (at n u) l.0 l.2.is

    tells : (z : PointStage) → (at m u).stage ≡ z → ending_of z ≡ Some l.0.line.ending
    tells z s = ap ending_of (sym s ∙ ap (λ (p : Point Logged). p.stage) same_point)
        ∙ told.1 ∙ ap (λ (x : TraceLine). Some x.line.ending) told.2

    has_stopped : HasStopped l.0
    has_stopped x e = by closed.0.0 (tells (stage.Closed closed.0.0) closed.0.1 ∙ ap (λ z. Some z) e) where
      by : (c : Close) → ending_of (stage.Closed c) ≡ Some (ending.Waits x) → ⊥
      by (close.Done v) e = cc
      by (close.Failed c) e = cc

    is_broke : Broke l.0 q
    is_broke = by closed.1 where
      by : ((q ≡ (at m u).name) × ((c : Cause) × ((at m u).stage ≡ stage.Closed (close.Failed c))))
          ⊎ IsIn q (at m u).owed → Broke l.0 q
      by (inl (e, (c, s))) = inl (
        e ∙ same_name program.rules (V m) u ∙ sym named,
        (c, sym (some_is (ending.Failed c) l.0.line.ending (tells (stage.Closed (close.Failed c)) s))),
      )
      by (inr i) = inr (subst (IsIn q) (ap (λ (p : Point Logged). p.owed) same_point
          ∙ ap (λ (x : TraceLine). x.line.owes) told.2) i)

    used : 1 ≤ uses program.rules (V n) q u
    used =
        let w = wrote_of_in q entry.Broken (at n u).writes
        (subst (λ (p : Point Logged). IsIn (q, entry.Broken) p.writes) same_point from.2) in
        omega arith

    -- what owned the cell is this task
    is_line : (f : TraceLine) → owner_of lines q ≡ Some f → f ≡ l.0
    is_line f e =
        let kept : has q (kept_by f) ≡ true = passes q f lines e in
        let i = found_in (λ l. has q (kept_by l)) lines f e in
        let t = of_line strict root N lines traced f i in
        let task : t.0 ≡ u = total_one (uses program.rules (V n) q) (tasks program (suc n)) (once_in_round program n q)
        t.0 u (tasks_within program n (suc n) (omega arith) t.0 t.1.there)
        (tasks_within program n (suc n) (omega arith) u there)
        (kept_used t.0 f q t.1 (in_of_has q (kept_by f) kept)) used in
        some_is f l.0 (sym t.1.is ∙ ap (λ z. traces.line_of (at n z)) task ∙ l.2.is)

    by : (o : Option TraceLine) → owner_of lines q ≡ o → option_or o (line_of lines q) ≡ Some l.0
    by (Some f) e = ap (λ z. Some z) (is_line f e)
    by None e = which is_broke where
      keeps : (e : Ending) → l.0.line.ending ≡ e → IsIn q l.0.line.owes → IsIn q (kept_with e l.0)
      keeps (ending.Done v) is i = i
      keeps (ending.Failed c) is i = i
      keeps (ending.Waits x) is i = absurd (has_stopped x is)

      which : Broke l.0 q → line_of lines q ≡ Some l.0
      which (inl (named, f)) =
          let k = get_in lines l.0 l.1 in
          found_there q lines traced.in_name_order k.0 l.0 k.1 (sym named)
      which (inr i) =
          let kept = keeps l.0.line.ending refl i in
          let f = found (λ l. has q (kept_by l)) lines l.0 l.1
          (has_of_times q (kept_by l.0) (times_of_in q (kept_by l.0) kept)) in
          absurd (let z : ◌≡◌ {A = Option TraceLine} None (Some f.0) = sym e ∙ f.1 in cc)

  -- a line is first, or an echo of a cell that is broken in this round
  pub data IsFrom (d : ℕ) (l : TraceLine) : Type 0 where
    first : IsFirst l → IsFrom d l
    later : (q : Name) → l.line.ending ≡ ending.Failed (cause.Broken q) → V d q ≡ Some entry.Broken → IsFrom d l

  -- the task that broke a cell is first, or an echo of one that was broken earlier
  pub from_breaker : (m : ℕ) (l : TraceLine) (q : Name) → Ended m l → Broke l q → HasStopped l → IsFrom m l
  from_breaker m l q ended_then broken stopped = by l.line.ending refl where
    owes : (v : Shown) → l.line.ending ≡ ending.Done v → Broke l q → IsIn q l.line.owes
    owes v is (inl (e, (c, f))) = absurd (let z : ending.Done v ≡ ending.Failed c = sym is ∙ f in cc)
    owes v is (inr i) = i

    by : (e : Ending) → l.line.ending ≡ e → IsFrom m l
    by (ending.Done v) is = first (by_debt v q is (owes v is broken))
    by (ending.Failed cause.Arith) is = first (by_failure cause.Arith is refl)
    by (ending.Failed cause.Kind) is = first (by_failure cause.Kind is refl)
    by (ending.Failed cause.Steps) is = first (by_failure cause.Steps is refl)
    by (ending.Failed (cause.Owner r)) is = first (by_failure (cause.Owner r) is refl)
    by (ending.Failed (cause.Broken r)) is = later r is (names_earlier m l r ended_then is)
    by (ending.Failed (cause.Order r)) is = first (by_failure (cause.Order r) is refl)
    by (ending.Waits x) is = absurd (stopped x is)

  -- what is first stays
  stays : (k : ℕ) (l : TraceLine) → IsFirst l → back_by lines k l ≡ l
  stays zero l is = ap (λ o. unwrap_or (option_and_then (breaker lines) o) l) (none is) where
    none : IsFirst l → echoed_by l.line.ending ≡ None
    none (by_failure c e other) = ap echoed_by e ∙ other
    none (by_debt v q e i) = ap echoed_by e
  stays (suc k) l is = ap (back_by lines k) (stays k l is) ∙ stays k l is

  module _ (o : Outcome) (out : IsOutcome (meaning (script_program strict root) N) o) (x : Name) where
    abbrev points : List (Point TaskState)
    points = meaning (script_program strict root) N

    -- steps back lead to the line's task
    abbrev IsReached : TraceLine → Type 0
    IsReached l = (k : ℕ) × Reaches (CameFrom points) x (suc k) l.line.name

    pub stopped_so : (l : TraceLine) → IsIn l lines → (e : Ending) → l.line.ending ≡ e → StoppedSo points l.line.name e
    stopped_so l i e is =
        let p = to_point strict root N lines o traced out l i in
        let so = p.2 in (p.0, p.1, so.name, so.stopped ∙ ap (λ z. Some z) is)

    pub came_from : (l m : TraceLine) → IsIn l lines → IsIn m lines → (q : Name)
        → l.line.ending ≡ ending.Failed (cause.Broken q) → Broke m q → CameFrom points l.line.name m.line.name
    came_from l m i j q is broken = (q, stopped_so l i (ending.Failed (cause.Broken q)) is, by broken) where
      by : Broke m q → BrokeIt points m.line.name q
      by (inl (e, (c, f))) = inl (e, (c, stopped_so m j (ending.Failed c) f))
      by (inr k) =
          let p = to_point strict root N lines o traced out m j in
          let so = p.2 in inr (p.0, p.1, so.name, subst (IsIn q) (sym so.owed) k)

    -- where so many steps lead from an echo of a cell that is broken in this round
    pub record IsFar (k d : ℕ) (r : TraceLine) : Type 0 where
      pub there : IsIn r lines
      pub reached : IsReached r
      pub from : IsFirst r ⊎ ((e : ℕ) × (q : Name) × (r.line.ending ≡ ending.Failed (cause.Broken q))
          × (V e q ≡ Some entry.Broken) × (e + power k ≤ d))

    -- what is twice as far
    twice_far : (k d e : ℕ) (r : TraceLine) → e + power k ≤ d
        → IsFirst r ⊎ ((a : ℕ) × (q : Name) × (r.line.ending ≡ ending.Failed (cause.Broken q))
        × (V a q ≡ Some entry.Broken) × (a + power k ≤ e))
        → IsFirst r ⊎ ((a : ℕ) × (q : Name) × (r.line.ending ≡ ending.Failed (cause.Broken q))
        × (V a q ≡ Some entry.Broken) × (a + power (suc k) ≤ d))
    twice_far k d e r less (inl f) = inl f
    twice_far k d e r less (inr (a, q, t, w, fewer)) = inr (a, q, t, w, twice k a e d fewer less)

    far : (k d : ℕ) (l : TraceLine) (q : Name) → d ≤ n → IsIn l lines → IsReached l
        → l.line.ending ≡ ending.Failed (cause.Broken q) → V d q ≡ Some entry.Broken → IsFar k d (back_by lines k l)
    far zero zero l q few i reached is broken = absurd (cc)
    far zero (suc m) l q few i reached is broken =
        let b = broke m few q broken in
        let back_is : back lines l ≡ Some b.0 = ap (λ e. option_and_then (breaker lines) (echoed_by e)) is ∙ b.5 in
        subst (IsFar zero (suc m)) (sym (ap (λ o. unwrap_or o l) back_is)) (record {
          there = b.1;
          reached = (suc reached.0, (l.line.name, reached.1, came_from l b.0 i b.1 q is b.3));
          from = by b.0 (from_breaker m b.0 q b.2 b.3 b.4);
        })
      where
        by : (r : TraceLine) → IsFrom m r → IsFirst r ⊎ ((e : ℕ) × (q : Name)
            × (r.line.ending ≡ ending.Failed (cause.Broken q)) × (V e q ≡ Some entry.Broken) × (e + 1 ≤ suc m))
        by r (first f) = inl f
        by r (later p e v) = inr (m, p, e, v, omega arith)
    far (suc k) d l q few i reached is broken = by (far k d l q few i reached is broken) (far k) where
      r : TraceLine
      r = back_by lines k l

      by : IsFar k d r → ((e : ℕ) (m : TraceLine) (p : Name) → e ≤ n → IsIn m lines → IsReached m
          → m.line.ending ≡ ending.Failed (cause.Broken p) → V e p ≡ Some entry.Broken
          → IsFar k e (back_by lines k m)) → IsFar (suc k) d (back_by lines k r)
      by h on = which h.from where
        which : IsFirst r ⊎ ((e : ℕ) × (q : Name) × (r.line.ending ≡ ending.Failed (cause.Broken q))
            × (V e q ≡ Some entry.Broken) × (e + power k ≤ d)) → IsFar (suc k) d (back_by lines k r)
        which (inl f) = subst (IsFar (suc k) d) (sym (stays k r f))
            (record { there = h.there; reached = h.reached; from = inl f })
        which (inr (e, p, s, v, less)) =
            let g = on e r p (omega arith) h.there h.reached s v in
            record { there = g.there; reached = g.reached; from = twice_far k d e (back_by lines k r) less g.from }

    -- where an echo came from
    pub record HasOrigin (q : Name) : Type 0 where
      pub line : TraceLine
      pub there : IsIn line lines
      pub found : origin lines q ≡ Some line
      pub is_first : IsFirst line
      pub reached : IsReached line

    pub origin_there : N ≤ MAX_CELLS → (l : TraceLine) → IsIn l lines → x ≡ l.line.name → (q : Name)
        → l.line.ending ≡ ending.Failed (cause.Broken q) → HasOrigin q
    origin_there few l i named q is = by (from_breaker (2 * N) b.0 q b.2 b.3 b.4) where
      broken : V (suc (2 * N)) q ≡ Some entry.Broken
      broken = subst (λ k. V k q ≡ Some entry.Broken) (rounds N) (names_earlier n l q (ended_last l i) is)

      b : (l : TraceLine) × IsIn l lines × Ended (2 * N) l × Broke l q × HasStopped l × (breaker lines q ≡ Some l)
      b = broke (2 * N) (omega arith) q broken

      reached : IsReached b.0
      reached = (
        zero,
        (
          x,
          refl,
          subst (λ y. CameFrom points y b.0.line.name) (sym named)
              (came_from l b.0 i b.1 q is b.3),
        ),
      )

      there : origin lines q ≡ Some (back_by lines most_doublings b.0)
      there = ap (option_map (back_by lines most_doublings)) b.5

      by : IsFrom (2 * N) b.0 → HasOrigin q
      by (first f) = record {
        line = b.0;
        there = b.1;
        found = there ∙ ap (λ z. Some z) (stays most_doublings b.0 f);
        is_first = f;
        reached = reached;
      }
      by (later p s v) = done (far most_doublings (2 * N) b.0 p (omega arith) b.1 reached s v) where
        done : IsFar most_doublings (2 * N) (back_by lines most_doublings b.0) → HasOrigin q
        done h = record {
          line = back_by lines most_doublings b.0;
          there = h.there;
          found = there;
          is_first = which h.from;
          reached = h.reached;
        }
          where
            which : IsFirst (back_by lines most_doublings b.0) ⊎ ((e : ℕ) × (q : Name)
                × ((back_by lines most_doublings b.0).line.ending ≡ ending.Failed (cause.Broken q))
                × (V e q ≡ Some entry.Broken) × (e + power most_doublings ≤ 2 * N))
                → IsFirst (back_by lines most_doublings b.0)
            which (inl f) = f
            which (inr (e, r, t, w, less)) = absurd (nothing_at_first r
                (subst (λ k. V k r ≡ Some entry.Broken) (enough N e few less) w))

-- a failure that echoes nothing is for no broken cell
pub other_cause : (c : Cause) (q : Name) → echoed c ≡ None → c ≡ cause.Broken q → ⊥
other_cause c q none e = let z : ◌≡◌ {A = Option Name} None (Some q) = sym none ∙ ap echoed e in absurd (cc)

-- what an echo is of
echo_is : (t u : ToldTask) (p q : ToldCell) (a b : Option ToldTask)
    → finding.Echo t p a ≡ finding.Echo u q b → (t ≡ u) × (p ≡ q) × (a ≡ b)
echo_is t u p q a b e = (cc, cc, cc)

-- the law of origins
pub have_origins : (strict : Bool) (root : PlacedState) → EchoesHaveOrigins strict root
have_origins strict root N lines o few traced out t q origin_told i =
    by (is_of lines o.cycles (finding.Echo t q origin_told) i) where
      fs : List Finding
      fs = findings_of lines o.cycles

      begins : (l : TraceLine) → IsIn l lines → IsFirst l → BeginsEchoes fs (told_task lines l)
      begins l j (by_failure c e none) =
          inl (c, maker_named lines c, failure_there lines o.cycles l j c e none, (λ p b. other_cause c p none b))
      begins l j (by_debt v p e k) = inr (
        ap stop_of e,
        (told_cell lines p, debt_there lines o.cycles l j p k (ending.Done v) e refl),
      )

      Told : Type 0
      Told = (s : ToldTask) × (origin_told ≡ Some s) × BeginsEchoes fs s
          × ((k : ℕ) × Reaches (CameFrom (meaning (script_program strict root) N)) t.name (suc k) s.name)

      by : IsOf lines o.cycles (finding.Echo t q origin_told) → Told
      by (a_cycle c j e) = absurd (cc)
      by (a_wait l j p s e) = absurd (cc)
      by (a_failure l j c s none e) = absurd (cc)
      by (a_debt l j p k e) = absurd (cc)
      by (an_echo l j p s e) =
          let parts = echo_is t (told_task lines l) q (told_cell lines p) origin_told
          (option_map (told_task lines) (origin lines p)) e in
          let h = origin_there strict root N lines traced o out t.name few l j
          (ap (λ (z : ToldTask). z.name) parts.0) p s in (
            told_task lines h.line,
            parts.2 ∙ ap (option_map (told_task lines)) h.found,
            begins h.line h.there h.is_first,
            h.reached,
          )

-- the law of earlier cells
pub name_earlier_cells : (strict : Bool) (root : PlacedState) → EchoesNameEarlierCells strict root
name_earlier_cells strict root m t q there stopped =
    names_broken (script_program strict root).rules (given (script_program strict root) m) t
    (2 * suc (script_left t.body)) q stopped
