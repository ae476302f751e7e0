-- In a run that isn't full each promise was set, or a task owned it where it stopped.
use Rattle.std.proofs.Common.{◌≡◌, ℕ, zero, suc, ◌+◌, ◌*◌, ◌≤◌, Bool, true, false, inl, inr, ◌⊎◌, arith}
use Rattle.std.proofs.Common.{List, [], ◌∷◌, map, drop, length, Option, Some, None, refl, sym, ap, subst, ◌∙◌}
use Rattle.std.proofs.Common.{length-append, ◌++◌}
use native.Mathlib.Decide.{dec_le}
use mathlib.Core.Logic.{dite}
use Rattle.std.proofs.Math.Seq.{drop-append_seam}
use Rattle.std.specs.List.{flat_map}
use Rattle.tj_base.specs.ForkOrder.{Name}
use Rattle.tj_base.specs.declared.cause.Cause.TheVariants as cause
use Rattle.tj_base.specs.declared.cell.Sort.TheVariants as sort
use Rattle.tj_body.specs.Asks.{IsFresh}
use Rattle.tj_body.specs.History.{Assignment, after_close, after_read, after_stage, history, owned, owned_in}
use Rattle.tj_body.specs.History.{after_look, after_ask, point_after, reference, value_at, with_entry}
use Rattle.tj_body.specs.Inner.AskSteps.{IsAskStep, fails, ends, makes, forks, sets, gets, joins, prints}
use Rattle.tj_body.specs.Names.{in_order}
use Rattle.tj_body.specs.Points.{IsIn, IsPointOf, IsProper}
use Rattle.tj_body.specs.Programs.{AreLawful, Program, Rules, root_task}
use Rattle.tj_body.specs.RoundPoints.{InRounds, IsNamed}
use Rattle.tj_body.specs.Rounds.{IsFull, cells, cells_by, family, given, last_round, meaning, tasks, writes_by}
use Rattle.tj_body.specs.SeenAs.{RoundsAreSeen, point_as, task_as}
use Rattle.tj_body.specs.declared.ask.Ask.{Ask}
use Rattle.tj_body.specs.declared.point.Close.{Close}
use Rattle.tj_body.specs.declared.point.Close.TheVariants as close
use Rattle.tj_body.specs.declared.point.Entry.{Entry}
use Rattle.tj_body.specs.declared.point.Entry.TheVariants as entry
use Rattle.tj_body.specs.declared.point.Point.{Point}
use Rattle.tj_body.specs.declared.point.PointStage.{PointStage}
use Rattle.tj_body.specs.declared.point.PointStage.TheVariants as stage
use Rattle.tj_body.specs.declared.point.Task.{Task}
use Rattle.tj_body.specs.declared.point.Value.TheVariants as value
use Rattle.tj_body.proofs.Counts.{entry_of_wrote, in_of_times, is, times, times_of_in, total, total_flat_map, total_in}
use Rattle.tj_body.proofs.Counts.{total_one, total_some}
use Rattle.tj_body.proofs.Histories.AskSteps.{is_ask_step}
use Rattle.tj_body.proofs.Histories.Good.{task_proper}
use Rattle.tj_body.proofs.Histories.Points.{in_history}
use Rattle.tj_body.proofs.Lists.{flat_map_sub, in_begins, in_either, in_left, in_map, in_right, sub_length, sub_self}
use Rattle.tj_body.proofs.Lists.{to_map}
use Rattle.tj_body.proofs.Proper.{root_proper}
use Rattle.tj_body.proofs.RoundPoints.{points_stay, things_in_rounds}
use Rattle.tj_body.proofs.Rounds.Families.{beyond, same_name, used_exactly, uses}
use Rattle.tj_body.proofs.Rounds.Rises.{family_sub, once_name, tasks_within}
use Rattle.tj_body.proofs.Rounds.Settles.{at_most_limit, is_last, last_given, last_tasks, within_self}
use Rattle.tj_body.proofs.SeenAs.{histories_seen, rounds_seen}
use Rattle.tj_eval.specs.Bodies.{script_awaits, script_left, script_places}
use Rattle.tj_eval.specs.Stands.{PlacedState}
use Rattle.tj_trace.specs.Inner.LogLaws.{logged_obeys}
use Rattle.tj_trace.specs.Logs.{Logged, erased, logged_program}
use Rattle.tj_trace.specs.MadeAt.{placed_program, set_before, set_between, set_until}
use Rattle.tj_trace.specs.TraceLaws.{script_program}
use Rattle.tj_trace.specs.Traces.{AreTraced}
use Rattle.tj_trace.specs.declared.line.SetNote.{SetNote}
use Rattle.tj_trace.specs.declared.line.TraceLine.{TraceLine}
use Rattle.tj_trace.proofs.Seen.{is_full_alike}
use Rattle.tj_trace.proofs.SetsThere.{place}
use Rattle.tj_forest.proofs.OwnersKept.{without_notes}
use Rattle.tj_forest.proofs.PlacedTasks.{placed_seen}
use Rattle.tj_forest.specs.WentLaws.{OwnedAtEnd, kept_at, set_note, sets_of}

module _ {B : Type 0} where
  -- it was written since, or else it is what a task writes as it ends: its result, and what it then owes
  abbrev IsNew : PointStage → Point B → List (Name × Entry) → Name × Entry → Type 0
  IsNew (stage.Answered a) r old w = IsIn w (drop (length old) r.writes)
  IsNew (stage.Waits q spare) r old w = IsIn w (drop (length old) r.writes)
  IsNew (stage.Closed e) r old w = (w.0 ≡ r.name) ⊎ IsIn w.0 r.owed

  abbrev AreNew : Point B → Point B → Type 0
  AreNew p r = (w : Name × Entry) → IsIn w r.writes → IsIn w p.writes ⊎ IsNew r.stage r p.writes w

  closes : (e : Close) (r : Entry) (p : Point B) → AreNew p (after_close e r p)
  closes e r p w i =
      by (in_either w p.writes ((p.name, r) ∷ map (with_entry entry.Broken) (in_order p.holds)) i) where
        by : IsIn w p.writes ⊎ IsIn w ((p.name, r) ∷ map (with_entry entry.Broken) (in_order p.holds))
            → IsIn w p.writes ⊎ ((w.0 ≡ p.name) ⊎ IsIn w.0 (in_order p.holds))
        by (inl j) = inl j
        by (inr (inl e)) = inr (inl (ap (λ (z : Name × Entry). z.0) e))
        by (inr (inr j)) =
            let m = in_map (with_entry entry.Broken) w (in_order p.holds) j in
            inr (inr (subst (λ x. IsIn x (in_order p.holds)) (sym (ap (λ (z : Name × Entry). z.0) m.2)) m.1))

  -- an ask
  of_ask : (strict : Bool) (p : Point B) (a : Ask B) (r : Point B) → IsAskStep strict p a r → AreNew p r
  of_ask strict p _ _ (fails a c) = closes (close.Failed c) entry.Broken p
  of_ask strict p _ _ (ends v) = let r = value_at p.name p.references v in closes (close.Done r) (entry.Value r) p
  of_ask strict p _ _ makes = λ w i. inl i
  of_ask strict p _ _ (forks b pass hand l e) = λ w i. inl i
  of_ask strict p _ _ (sets k v s o) = λ w i. by w (in_either w p.writes one i) where
    one : List (Name × Entry)
    one = ((reference p k).name, entry.Value (value_at p.name p.references v)) ∷ []

    by : (w : Name × Entry) → IsIn w p.writes ⊎ IsIn w one
        → IsIn w p.writes ⊎ IsIn w (drop (length p.writes) (p.writes ++ one))
    by w (inl j) = inl j
    by w (inr j) = inr (subst (IsIn w) (sym (drop-append_seam p.writes one)) j)
  of_ask strict p _ _ (gets spare k s) = λ w i. inl i
  of_ask strict p _ _ (joins spare k s o) = λ w i. inl i
  of_ask strict p _ _ (prints i) = λ w j. inl j

  -- an answer
  of_read : (spare : Bool) (q : Name) (x : Entry) (p : Point B) → AreNew p (after_read spare q x p)
  of_read true q entry.Broken p = λ w i. inl i
  of_read false q entry.Broken p = closes (close.Failed (cause.Broken q)) entry.Broken p
  of_read spare q (entry.Value (value.Num i)) p = λ w j. inl j
  of_read spare q (entry.Value (value.Ref r)) p = λ w j. inl j

  of_look : (spare : Bool) (q : Name) (o : Option Entry) (p : Point B) → AreNew p (after_look spare q o p)
  of_look spare q None p = λ w i. inl i
  of_look spare q (Some x) p = of_read spare q x p

  -- each step
  of_step : (rules : Rules B) (V : Assignment) (s : PointStage) (p : Point B) → AreNew p (after_stage rules V s p)
  of_step rules V (stage.Answered a) p = let q = record p { body = rules.then p.body a } in
      of_ask rules.strict q (rules.asks p.body a) (after_ask rules.strict (rules.asks p.body a) q)
      (is_ask_step rules.strict q (rules.asks p.body a))
  of_step rules V (stage.Waits x spare) p = of_look spare x (V x) p
  of_step rules V (stage.Closed e) p = λ w i. inl i

module _ (rules : Rules PlacedState) (V : Assignment) (t : Task PlacedState) where
  abbrev at : ℕ → Point PlacedState
  at k = point_after rules V k t

  -- the promise was set within so many steps
  abbrev pub SetSo : ℕ → Name → Type 0
  SetSo k q = (n : SetNote) × IsIn n (set_until rules V t k) × (n.promise ≡ q)

  -- the task has ended, and this is its result or what it then owed
  abbrev pub EndsIn : PointStage → Point PlacedState → Name → Type 0
  EndsIn (stage.Answered a) p q = ⊥
  EndsIn (stage.Waits x spare) p q = ⊥
  EndsIn (stage.Closed e) p q = (q ≡ p.name) ⊎ IsIn q p.owed

  later : (k : ℕ) (q : Name) → SetSo k q → SetSo (suc k) q
  later k q (n, i, e) = (n, in_left n (set_until rules V t k) (set_between (at k) (at (suc k))) i, e)

  -- what a step wrote, it set, or the task has ended
  of_new : (k : ℕ) (w : Name × Entry) (s : PointStage) → (at (suc k)).stage ≡ s
      → IsNew s (at (suc k)) (at k).writes w → SetSo (suc k) w.0 ⊎ EndsIn s (at (suc k)) w.0
  of_new k w s is i = by s is i where
    since : List (Name × Entry)
    since = drop (length (at k).writes) (at (suc k)).writes

    note : Name × Entry → SetNote
    note v = set_note v.0 (at (suc k)).body.stand.at

    among : IsIn (note w) (set_between (at k) (at (suc k))) → SetSo (suc k) w.0
    among j = (note w, in_right (note w) (set_until rules V t k) (set_between (at k) (at (suc k))) j, refl)

    by : (s : PointStage) → (at (suc k)).stage ≡ s → IsNew s (at (suc k)) (at k).writes w
        → SetSo (suc k) w.0 ⊎ EndsIn s (at (suc k)) w.0
    by (stage.Answered a) is i =
        inl (among (subst (λ z. IsIn (note w) (set_before z (at (suc k)).body.stand since)) (sym is)
        (to_map note w since i)))
    by (stage.Waits x spare) is i =
        inl (among (subst (λ z. IsIn (note w) (set_before z (at (suc k)).body.stand since)) (sym is)
        (to_map note w since i)))
    by (stage.Closed e) is i = inr i

  -- one step more
  goes : (k : ℕ) (w : Name × Entry) (s : PointStage) → (at k).stage ≡ s
      → (IsIn w (at k).writes → SetSo k w.0 ⊎ EndsIn s (at k) w.0) → IsIn w (at (suc k)).writes
      → SetSo (suc k) w.0 ⊎ EndsIn (at (suc k)).stage (at (suc k)) w.0
  goes k w s is told i = by s is told where
    -- a task that hadn't ended
    onward : (IsIn w (at k).writes → SetSo k w.0) → SetSo (suc k) w.0 ⊎ EndsIn (at (suc k)).stage (at (suc k)) w.0
    onward old = either (of_step rules V (at k).stage (at k) w i) where
      either : IsIn w (at k).writes ⊎ IsNew (at (suc k)).stage (at (suc k)) (at k).writes w
          → SetSo (suc k) w.0 ⊎ EndsIn (at (suc k)).stage (at (suc k)) w.0
      either (inl j) = inl (later k w.0 (old j))
      either (inr j) = of_new k w (at (suc k)).stage refl j

    unended : SetSo k w.0 ⊎ ⊥ → SetSo k w.0
    unended (inl h) = h
    unended (inr h) = absurd h

    by : (s : PointStage) → (at k).stage ≡ s → (IsIn w (at k).writes → SetSo k w.0 ⊎ EndsIn s (at k) w.0)
        → SetSo (suc k) w.0 ⊎ EndsIn (at (suc k)).stage (at (suc k)) w.0
    by (stage.Answered a) is told = onward (λ j. unended (told j))
    by (stage.Waits x spare) is told = onward (λ j. unended (told j))
    by (stage.Closed e) is told = stays (told (subst (λ (z : Point PlacedState). IsIn w z.writes) stay i)) where
      stay : at (suc k) ≡ at k
      stay = ap (λ z. after_stage rules V z (at k)) is

      stays : SetSo k w.0 ⊎ ((w.0 ≡ (at k).name) ⊎ IsIn w.0 (at k).owed)
          → SetSo (suc k) w.0 ⊎ EndsIn (at (suc k)).stage (at (suc k)) w.0
      stays (inl h) = inl (later k w.0 h)
      stays (inr h) =
          inr (subst (λ (z : Point PlacedState). EndsIn z.stage z w.0) (sym stay)
          (subst (λ z. EndsIn z (at k) w.0) (sym is) h))

  -- what a history wrote, it set, or the task has ended
  pub wrote_so : (k : ℕ) (w : Name × Entry) → IsIn w (at k).writes → SetSo k w.0 ⊎ EndsIn (at k).stage (at k) w.0
  wrote_so zero w i = absurd i
  wrote_so (suc k) w i = goes k w (at k).stage refl (wrote_so k w) i

module _ {B : Type 0} (rules : Rules B) (V : Assignment) (q : Name) where
  abbrev family_of : ℕ → Task B → List (Task B)
  family_of d t = family rules V d t

  abbrev past : ℕ → Task B → ℕ
  past d t = beyond rules V q d t

  -- nothing is handed beyond a family to which one generation more adds nothing
  none_beyond : (d : ℕ) (t : Task B) → length (family_of (suc d) t) ≤ length (family_of d t) → past d t ≡ 0
  none_beyond zero t h = none (history rules V t).children (omega arith) where
    none : (l : List (Task B)) → length (flat_map (family_of zero) l) ≤ 0
        → total (λ (c : Task B). times q c.handed) l ≡ 0
    none [] e = refl
    none (x ∷ xs) e = absurd (omega arith)
  none_beyond (suc d) t h = all (none_beyond d) (history rules V t).children (omega arith) where
    all : ((x : Task B) → length (family_of (suc d) x) ≤ length (family_of d x) → past d x ≡ 0)
        → (l : List (Task B)) → length (flat_map (family_of (suc d)) l) ≤ length (flat_map (family_of d) l)
        → total (past d) l ≡ 0
    all rec [] e = refl
    all rec (x ∷ xs) e =
        let grown = family_sub rules V V (within_self rules V) d (suc d) (omega arith) in
        let a = length-append (family_of (suc d) x) (flat_map (family_of (suc d)) xs) in
        let b = length-append (family_of d x) (flat_map (family_of d) xs) in
        let c = sub_length (family_of d x) (family_of (suc d) x) (grown x) in
        let f = sub_length (flat_map (family_of d) xs) (flat_map (family_of (suc d)) xs)
        (flat_map_sub (family_of d) (family_of (suc d)) grown xs xs (sub_self xs)) in
        let r = rec x (omega arith) in
        let s = all rec xs (omega arith) in
        omega arith

  -- what a task uses it owns, or has written
  owns_or_wrote : (t : Task B) → 1 ≤ uses rules V q t
      → IsIn q (owned (history rules V t)) ⊎ ((e : Entry) × IsIn (q, e) (history rules V t).writes)
  owns_or_wrote t many =
      let H = owned (history rules V t) in
      dite (dec_le 1 (times q H)) (λ l. inl (in_of_times q H l))
      (λ l. inr (entry_of_wrote q (writes_by rules V t) (omega arith)))

module _ {B : Type 0} (program : Program B) (N : ℕ) (fits : ¬ IsFull program N) where
  abbrev V : ℕ → Assignment
  V n = given program n

  abbrev last : ℕ
  last = last_round N

  few : length (cells program last) ≤ N
  few = at_most_limit program N fits

  is_next : suc (2 * N) ≡ last
  is_next = omega arith

  -- one generation more adds nothing to the round
  settled : family program.rules (V (2 * N)) (suc (suc (2 * N))) (root_task program.root)
      ≡ tasks program (suc (2 * N))
  settled =
      ap (λ U. family program.rules U (suc (suc (2 * N))) (root_task program.root))
      (sym (last_given program N few (suc (2 * N)) (omega arith)))
      ∙ last_tasks program N few (suc (2 * N)) (omega arith)

  -- some task of the round uses each cell
  used_before : (q : Name) → IsIn q (cells program (suc (2 * N)))
      → (t : Task B) × IsIn t (tasks program (suc (2 * N))) × (1 ≤ uses program.rules (V (2 * N)) q t)
  used_before q i =
      let W = V (2 * N) in
      let a = used_exactly program.rules W q (suc (2 * N)) (root_task program.root) in
      let s = ap (λ (l : List (Task B)). length l) settled in
      let b = none_beyond program.rules W q (suc (2 * N)) (root_task program.root) (omega arith) in
      let c = times_of_in q (cells program (suc (2 * N))) i in
      let d = total_flat_map (is q) (cells_by program.rules W) (tasks program (suc (2 * N))) in
      total_some (uses program.rules W q) (tasks program (suc (2 * N))) (omega arith)

  pub cell_used : (q : Name) → IsIn q (cells program last)
      → (t : Task B) × IsIn t (tasks program last) × (1 ≤ uses program.rules (V last) q t)
  cell_used q i =
      let x = used_before q (subst (λ n. IsIn q (cells program n)) (sym is_next) i) in (
        x.0,
        subst (λ n. IsIn x.0 (tasks program n)) is_next x.1,
        subst (λ U. 1 ≤ uses program.rules U q x.0) (sym (last_given program N few last (omega arith))) x.2,
      )

-- a promise is no task's result
module _ {B : Type 0} (program : Program B) (obeys : AreLawful program.rules)
    (proper : IsProper program.rules (root_task program.root)) where
  pub no_result : (q : Name) → IsNamed program sort.Promise q → (m : ℕ) (u : Task B) → IsIn u (tasks program m)
      → q ≡ u.name → ⊥
  no_result q (p, h, i) m u j e =
      let n = h.1.0 + (h.2.0 + m) in
      let W = given program n in
      let t = h.0 in
      let there : IsIn t (tasks program (suc n)) = tasks_within program h.1.0 (suc n) (omega arith) t h.1.1 in
      let of_t : IsPointOf program.rules W t p = points_stay program h.2.0 n t p (omega arith) h.2.1 in
      let g = in_history program.rules obeys W t (task_proper program obeys proper (suc n) t there) p of_t in
      let H = history program.rules W t in
      let made : IsIn q H.promises = in_begins q p.promises H.promises g.2 i in
      let other : IsIn u (tasks program (suc n)) = tasks_within program m (suc n) (omega arith) u j in
      let once = once_name program (suc n) q in
      let sums = total_flat_map (is q) (cells_by program.rules W) (tasks program (suc n)) in
      let f : Task B → ℕ = λ (z : Task B). times q (cells_by program.rules W z) in
      let few : total f (tasks program (suc n)) ≤ 1 = omega arith in
      let one : t ≡ u = total_one f (tasks program (suc n)) few t u there other
      (times_of_in q (cells_by program.rules W t) (inr made)) (times_of_in q (cells_by program.rules W u) (inl e)) in
      let name : 1 ≤ is q t.name =
      let z = times_of_in q (t.name ∷ []) (inl (e ∙ ap (λ (z : Task B). z.name) (sym one))) in omega arith in
      let more = times_of_in q H.promises made in
      let all = total_in f t (tasks program (suc n)) there in
      let both : times q (cells_by program.rules W t) ≡ is q t.name + times q H.promises = refl in
      absurd (omega arith)

module _ (strict : Bool) (root : PlacedState) (fresh : IsFresh script_places script_awaits script_left 1 root.task)
    (N : ℕ) (room : ¬ IsFull (script_program strict root) N) (lines : List TraceLine)
    (traced : AreTraced (logged_program strict root) N lines) where
  abbrev program_of_lines : Program Logged
  program_of_lines = logged_program strict root

  abbrev final : Assignment
  final = given program_of_lines (last_round N)

  abbrev end_of : Task Logged → Point Logged
  end_of t = history program_of_lines.rules final t

  obeys : AreLawful program_of_lines.rules
  obeys = logged_obeys

  proper : IsProper program_of_lines.rules (root_task program_of_lines.root)
  proper = root_proper program_of_lines
      (record { has_places = fresh.has_places; begins = fresh.begins; ends = fresh.ends })

  fits : ¬ IsFull program_of_lines N
  fits full = room ((is_full_alike strict root N).0 full)

  abbrev IsLast : Task Logged → Type 0
  IsLast t = IsIn t (tasks program_of_lines (last_round N))

  -- by what the task kept in the stage at which it stopped
  kept_so : (q : Name) (t : Task Logged) → IsLast t → IsIn q (kept_at (end_of t).stage (point_as erased (end_of t)))
      → OwnedAtEnd strict root N (end_of t).name q
  kept_so q t i k = (
    point_as erased (end_of t),
    without_notes strict root N lines traced (end_of t) (to_map end_of t (tasks program_of_lines (last_round N)) i),
    refl,
    k,
  )

  owned_kept : (q : Name) (t : Task Logged) (s : PointStage) → IsIn q (owned_in s (end_of t).name (end_of t).holds)
      → IsIn q (kept_at s (point_as erased (end_of t)))
  owned_kept q t (stage.Answered a) i = i
  owned_kept q t (stage.Waits x spare) i = i
  owned_kept q t (stage.Closed e) i = absurd i

  -- each promise was set, or owned where its owner stopped
  pub set_or_owned : (q : Name) → IsNamed program_of_lines sort.Promise q
      → ((u : Task PlacedState) → IsIn u (tasks (placed_program strict root) (last_round N))
      → (n : SetNote) → IsIn n (sets_of strict root N u) → n.promise ≡ q → ⊥)
      → ((y : Name) → OwnedAtEnd strict root N y q → ⊥) → ⊥
  set_or_owned q named unset unowned =
      by (owns_or_wrote program_of_lines.rules final q x.0 x.2) where
        rounds : InRounds program_of_lines q
        rounds = (things_in_rounds program_of_lines obeys proper named.0 named.1).0 q named.2

        there : IsIn q (cells program_of_lines (last_round N))
        there = (((is_last program_of_lines N fits).0 rounds.0).2) q rounds.1

        x : (t : Task Logged) × IsLast t × (1 ≤ uses program_of_lines.rules final q t)
        x = cell_used program_of_lines N fits q there

        bare : Rules PlacedState
        bare = (placed_program strict root).rules

        u : Task PlacedState
        u = task_as place x.0

        seen : RoundsAreSeen place program_of_lines (placed_program strict root) (last_round N)
        seen = rounds_seen place program_of_lines (placed_program strict root)
            (record { rules = placed_seen strict root; root = refl }) (last_round N)

        steps : ℕ
        steps = 2 * suc (bare.left u.body)

        same : history bare final u ≡ point_as place (end_of x.0)
        same = (histories_seen place program_of_lines.rules bare (placed_seen strict root) final x.0).1

        u_there : IsIn u (tasks (placed_program strict root) (last_round N))
        u_there = subst (IsIn u) (sym seen.tasks) (to_map (task_as place) x.0 _ x.1)

        not_set : SetSo bare final u steps q → ⊥
        not_set (n, j, e) =
            unset u u_there n (subst (λ W. IsIn n (set_until bare W u steps)) (sym seen.given) j) e

        not_ended : (s : PointStage) → (end_of x.0).stage ≡ s
            → EndsIn bare final u s (point_as place (end_of x.0)) q → ⊥
        not_ended (stage.Answered a) is h = h
        not_ended (stage.Waits y spare) is h = h
        not_ended (stage.Closed c) is (inl e) =
            no_result program_of_lines obeys proper q named (last_round N) x.0 x.1
            (e ∙ same_name program_of_lines.rules final x.0)
        not_ended (stage.Closed c) is (inr j) =
            unowned (end_of x.0).name (kept_so q x.0 x.1
            (subst (λ z. IsIn q (kept_at z (point_as erased (end_of x.0)))) (sym is) j))

        of_write : SetSo bare final u steps q ⊎ EndsIn bare final u (history bare final u).stage (history bare final u) q
            → ⊥
        of_write (inl h) = not_set h
        of_write (inr h) =
            not_ended (end_of x.0).stage refl
            (subst (λ (z : Point PlacedState). EndsIn bare final u z.stage z q) same h)

        by : IsIn q (owned (end_of x.0)) ⊎ ((e : Entry) × IsIn (q, e) (end_of x.0).writes) → ⊥
        by (inl i) =
            unowned (end_of x.0).name (kept_so q x.0 x.1 (owned_kept q x.0 (end_of x.0).stage i))
        by (inr (e, i)) =
            of_write (wrote_so bare final u steps (q, e)
            (subst (λ (z : Point PlacedState). IsIn (q, e) z.writes) (sym same) i))
