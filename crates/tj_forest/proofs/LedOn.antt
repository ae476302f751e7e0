-- Waits lead from a task to a member of a cycle in no more steps than there are tasks.
use Rattle.std.proofs.Common.{◌≡◌, ℕ, zero, suc, ◌+◌, ◌-◌, ◌*◌, ◌<◌, ◌≤◌, Bool, true, false, List, [], ◌∷◌, map, length}
use Rattle.std.proofs.Common.{Option, Some, None, refl, sym, ap, subst, ◌∙◌, inl, inr, ◌⊎◌, arith}
use Rattle.std.specs.Prelude.{option_and_then, unwrap_or}
use Rattle.std.specs.List.{flat_map}
use Rattle.std.specs.Option.{option_map}
use Rattle.std.proofs.lemmas.List.{length-map}
use Rattle.tj_base.specs.Cycles as graph
use Rattle.tj_base.specs.ForkOrder.{Name}
use Rattle.tj_base.specs.declared.cell.TheConstants.{MAX_CELLS}
use Rattle.tj_base.proofs.CyclesOn.{on_cycle_moves}
use Rattle.tj_base.proofs.Ways.{cycle_at, reach_one, reach_plus, reach_split}
use Rattle.tj_body.specs.Laws.{AreDistinct}
use Rattle.tj_body.specs.Names.{has}
use Rattle.tj_body.specs.Points.{IsIn}
use Rattle.tj_body.specs.Rounds.{IsFull, cells, cells_by, given, last_round, meaning, tasks}
use Rattle.tj_body.specs.History.{history}
use Rattle.tj_body.specs.WaitGraph as points
use Rattle.tj_body.specs.declared.point.Point.{Point}
use Rattle.tj_body.specs.declared.point.PointStage.TheVariants as stage
use Rattle.tj_body.specs.declared.point.Task.{Task}
use Rattle.tj_body.proofs.Counts.{at_least, fewer, has_of_times, times_of_distinct, times_of_in}
use Rattle.tj_body.proofs.Lists.{in_flat_map, in_map, to_map}
use Rattle.tj_body.proofs.Rounds.Families.{same_name}
use Rattle.tj_body.proofs.Rounds.Settles.{at_most_limit}
use Rattle.tj_eval.specs.Stands.{PlacedState}
use Rattle.tj_eval.specs.Statements.{TaskState}
use Rattle.tj_mean.specs.Outcomes.{AreApart, IsCycle, IsOutcome, Leads, Owns, Waits, ending_of}
use Rattle.tj_mean.specs.declared.outcome.Ending.TheVariants as ending
use Rattle.tj_mean.specs.declared.outcome.Link.{Link}
use Rattle.tj_mean.specs.declared.outcome.Outcome.{Outcome}
use Rattle.tj_mean.specs.declared.stopped.Stopped.{Stopped}
use Rattle.tj_mean.proofs.Lists.Elements.{in_of_has}
use Rattle.tj_mean.proofs.Lists.KeyedLists.{one_of_key}
use Rattle.tj_mean.proofs.Outcomes.Indexes.{names_lead}
use Rattle.tj_mean.proofs.Outcomes.ToldOutcomes.{meaning_apart}
use Rattle.tj_trace.specs.Logs.{logged_program}
use Rattle.tj_trace.specs.TraceLaws.{script_program}
use Rattle.tj_trace.specs.Traces.{AreTraced, names_of}
use Rattle.tj_trace.specs.declared.line.TraceLine.{TraceLine}
use Rattle.tj_forest.proofs.CycleOwners.{owner_is}
use Rattle.tj_forest.proofs.LedToCycles.{lead_told, own_told, stands_with, waits_at}
use Rattle.tj_forest.proofs.Origins.{power}
use Rattle.tj_forest.proofs.Placed.{found_in}
use Rattle.tj_forest.proofs.ToldOnce.{apart, from_so, to_point}
use Rattle.tj_findings.specs.Echoes.{most_doublings}
use Rattle.tj_forest.specs.Explanations.{StoppedSo}
use Rattle.tj_findings.specs.Forests.{ahead, awaited, led_to}
use Rattle.tj_findings.specs.Onward.{onward}
use Rattle.tj_findings.specs.Searches.{owner_of}

-- ---- steps one by one

module _ (f : TraceLine → Option TraceLine) where
  abbrev step : TraceLine → TraceLine
  step l = unwrap_or (f l) l

  -- so many steps on
  abbrev pub steps : ℕ → TraceLine → TraceLine
  steps zero l = l
  steps (suc k) l = step (steps k l)

  steps_plus : (j k : ℕ) (l : TraceLine) → steps (j + k) l ≡ steps j (steps k l)
  steps_plus zero k l = let none : zero + k ≡ k = omega arith in ap (λ n. steps n l) none
  steps_plus (suc j) k l = let more : suc j + k ≡ suc (j + k) = omega arith in
      ap (λ n. steps n l) more ∙ ap step (steps_plus j k l)

  -- each doubling is twice as many steps
  pub onward_steps : (k : ℕ) (l : TraceLine) → onward f k l ≡ steps (power k) l
  onward_steps zero l = refl
  onward_steps (suc k) l =
      let both : power (suc k) ≡ power k + power k = omega arith in
      onward_steps k (onward f k l) ∙ ap (steps (power k)) (onward_steps k l)
      ∙ sym (steps_plus (power k) (power k) l) ∙ ap (λ n. steps n l) (sym both)

-- ---- a name that comes again

-- the first names of a row, from the last of them on
abbrev firsts : (ℕ → Name) → ℕ → List Name
firsts x zero = []
firsts x (suc k) = x k ∷ firsts x k

firsts_long : (x : ℕ → Name) (k : ℕ) → length (firsts x k) ≡ k
firsts_long x zero = refl
firsts_long x (suc k) = ap suc (firsts_long x k)

from_firsts : (x : ℕ → Name) (k : ℕ) (q : Name) → IsIn q (firsts x k) → (i : ℕ) × (i < k) × (q ≡ x i)
from_firsts x zero q i = absurd i
from_firsts x (suc k) q (inl e) = (k, omega arith, e)
from_firsts x (suc k) q (inr i) = let r = from_firsts x k q i in (r.0, (let less = r.1 in omega arith), r.2)

-- a name comes again, or all are distinct
abbrev ComesAgain : (ℕ → Name) → ℕ → Type 0
ComesAgain x k = (i : ℕ) × (j : ℕ) × (i < j) × (j < k) × (x i ≡ x j)

comes_again : (x : ℕ → Name) (k : ℕ) → ComesAgain x k ⊎ AreDistinct (firsts x k)
comes_again x zero = inr tt
comes_again x (suc k) = by (comes_again x k) where
  here : (b : Bool) → has (x k) (firsts x k) ≡ b → AreDistinct (firsts x k)
      → ComesAgain x (suc k) ⊎ AreDistinct (x k ∷ firsts x k)
  here true is d =
      let r = from_firsts x k (x k) (in_of_has (x k) (firsts x k) is) in
      inl (r.0, k, r.1, omega arith, sym r.2)
  here false is d = inr (
    (λ i. let yes = has_of_times (x k) (firsts x k) (times_of_in (x k) (firsts x k) i) in
        let z : true ≡ false = sym yes ∙ is in absurd (cc)),
    d,
  )

  by : ComesAgain x k ⊎ AreDistinct (firsts x k) → ComesAgain x (suc k) ⊎ AreDistinct (firsts x (suc k))
  by (inl (i, j, less, low, e)) = inl (i, j, less, omega arith, e)
  by (inr d) = here (has (x k) (firsts x k)) refl d

-- among more names than a list has, all of which stand in it, one comes again
again_within : (x : ℕ → Name) (m : List Name) → ((k : ℕ) → IsIn (x k) m) → ComesAgain x (suc (length m))
again_within x m all = by (comes_again x (suc (length m))) where
  by : ComesAgain x (suc (length m)) ⊎ AreDistinct (firsts x (suc (length m))) → ComesAgain x (suc (length m))
  by (inl c) = c
  by (inr d) =
      let k = suc (length m) in
      let long = firsts_long x k in
      let few = fewer (firsts x k) m (λ q. at_least q (firsts x k) m (times_of_distinct q (firsts x k) d)
      (λ i. let r = from_firsts x k q i in subst (λ z. IsIn z m) (sym r.2) (all r.0))) in
      absurd (omega arith)

-- so many steps are enough
enough_steps : (i n N : ℕ) → i < suc n → n ≤ N → N ≤ MAX_CELLS → i ≤ power most_doublings
unfolding most_doublings
enough_steps i n N less few small = omega arith

module _ (strict : Bool) (root : PlacedState) (N : ℕ) (lines : List TraceLine) (o : Outcome)
    (owners : points.OwnersWait (script_program strict root))
    (lead : points.WaitsLeadToCycle (script_program strict root))
    (room : ¬ IsFull (script_program strict root) N) (traced : AreTraced (logged_program strict root) N lines)
    (out : IsOutcome (meaning (script_program strict root) N) o) where
  abbrev ps : List (Point TaskState)
  ps = meaning (script_program strict root) N

  abbrev ss : List Stopped
  ss = out.0

  -- a line of a task that waits
  abbrev pub Waiting : TraceLine → Type 0
  Waiting l = IsIn l lines × ((q : Name) × (l.line.ending ≡ ending.Waits q))

  waits_of : (l : TraceLine) → IsIn l lines → (q : Name) → l.line.ending ≡ ending.Waits q
      → points.Waits ps l.line.name q
  waits_of l there q is =
      let p = to_point strict root N lines o traced out l there in
      let so = p.2 in
      let at = waits_at strict root N lines o owners lead room traced out q p.0.stage
      (so.stopped ∙ ap (λ z. Some z) is) in
      (p.0, at.0, p.1, so.name, at.1)

  -- it waits for a task that waits
  next : (l : TraceLine) → Waiting l
      → (m : TraceLine) × (ahead lines l ≡ Some m) × Waiting m × points.WaitsFor ps l.line.name m.line.name
  next l (there, (q, is)) = by (owner_of lines q) refl named where
    waits : points.Waits ps l.line.name q
    waits = waits_of l there q is

    own : (y : Name) × (r : Name) × points.Owns ps y q × points.Waits ps y r
    own = (owners N room l.line.name q waits).1

    named : option_map (λ (l : TraceLine). l.line.name) (owner_of lines q) ≡ Some own.0
    named = owner_is strict root N lines o traced out own.0 q
        (own_told strict root N lines o owners lead room traced out own.0 q own.2)

    by : (f : Option TraceLine) → owner_of lines q ≡ f
        → option_map (λ (l : TraceLine). l.line.name) f ≡ Some own.0
        → (m : TraceLine) × (ahead lines l ≡ Some m) × Waiting m × points.WaitsFor ps l.line.name m.line.name
    by None found e = absurd (cc)
    by (Some m) found e =
        let name : m.line.name ≡ own.0 = one m.line.name own.0 e in
        let here = found_in _ lines m found in
        let w = own.3 in
        let so : StoppedSo ps own.0 (ending.Waits own.1) = (w.0, w.2, w.3, ap ending_of w.4) in
        let says = from_so strict root N lines o traced out own.0 (ending.Waits own.1) so in
        let same = one_of_key (λ (l : TraceLine). l.line.name) lines (apart strict root N lines o traced out) m says.0
        here says.1 (name ∙ sym says.2) in (
          m,
          ap (λ e. option_and_then (owner_of lines) (awaited e)) is ∙ found,
          (here, (own.1, ap (λ (z : TraceLine). z.line.ending) same ∙ says.3)),
          (q, waits, subst (λ y. points.Owns ps y q) (sym name) own.2),
        )
      where
        one : (x y : Name) → ◌≡◌ {A = Option Name} (Some x) (Some y) → x ≡ y
        one x y e = cc

  -- so many steps lead to a task that waits
  goes_on : (k : ℕ) (l : TraceLine) → Waiting l → Waiting (steps (ahead lines) k l)
      × graph.Reaches (points.WaitsFor ps) l.line.name k (steps (ahead lines) k l).line.name
  goes_on zero l w = (w, refl)
  goes_on (suc k) l w =
      let f = ahead lines in
      let r = goes_on k l w in
      let m = next (steps f k l) r.0 in
      subst (λ (z : TraceLine). Waiting z × graph.Reaches (points.WaitsFor ps) l.line.name (suc k) z.line.name)
      (sym (ap (λ z. unwrap_or z (steps f k l)) m.1))
      (m.2, ((steps f k l).line.name, r.1, m.3))

  one_at : graph.LeadsToOne (points.WaitsFor ps)
  one_at a b c x y = names_lead ss (meaning_apart (script_program strict root) N ss out.1) a b c
      (lead_told strict root N lines o owners lead room traced out a b x)
      (lead_told strict root N lines o owners lead room traced out a c y)

  -- there are no more lines than cells
  few_lines : length lines ≤ N
  few_lines =
      let program = script_program strict root in
      let c = cells program (last_round N) in
      let long = length-map lines (λ (l : TraceLine). l.line.name) in
      let few = fewer (names_of lines) c (λ q. at_least q (names_of lines) c
      (times_of_distinct q (names_of lines) (apart strict root N lines o traced out)) (λ i.
      let l = in_map (λ (l : TraceLine). l.line.name) q lines i in
      let p = to_point strict root N lines o traced out l.0 l.1 in
      let t = in_map (history program.rules (given program (last_round N))) p.0 (tasks program (last_round N)) p.1 in
      let so = p.2 in
      let named : t.0.name ≡ q = sym (same_name program.rules (given program (last_round N)) t.0)
      ∙ sym (ap (λ (z : Point TaskState). z.name) t.2) ∙ so.name ∙ sym l.2 in
      subst (λ z. IsIn z c) named (in_cells (last_round N) t.0 t.1))) in
      let most = at_most_limit program N room in
      omega arith
    where
      in_cells : (n : ℕ) (t : Task TaskState) → IsIn t (tasks (script_program strict root) n)
          → IsIn t.name (cells (script_program strict root) n)
      in_cells zero t i = absurd i
      in_cells (suc n) t i =
          let program = script_program strict root in
          in_flat_map (cells_by program.rules (given program n)) t t.name (tasks program (suc n)) i (inl refl)

  -- a member of a cycle to which waits lead
  pub record IsLed (l m : TraceLine) : Type 0 where
    pub waiting : Waiting m
    pub way : (k : ℕ) × graph.Reaches (points.WaitsFor ps) l.line.name k m.line.name
    pub cycle : List Link
    pub there : IsIn cycle o.cycles
    pub member : IsIn m.line.name (map (λ (k : Link). k.task) cycle)

  pub led_on : N ≤ MAX_CELLS → (l : TraceLine) → Waiting l → IsLed l (led_to lines l)
  led_on small l w = subst (IsLed l) (sym (onward_steps f most_doublings l)) (record {
    waiting = end.0;
    way = (power most_doublings, end.1);
    cycle = c.0;
    there = (out.2.cycles.0 c.0).1 c.1;
    member = c.2;
  })
    where
      f : TraceLine → Option TraceLine
      f = ahead lines

      Leads' : Name → Name → Type 0
      Leads' = points.WaitsFor ps

      row : ℕ → Name
      row k = (steps f k l).line.name

      again : ComesAgain row (suc (length (names_of lines)))
      again = again_within row (names_of lines)
          (λ k. to_map (λ (l : TraceLine). l.line.name) (steps f k l) lines (goes_on k l w).0.0)

      end : Waiting (steps f (power most_doublings) l)
          × graph.Reaches Leads' l.line.name (power most_doublings) (steps f (power most_doublings) l).line.name
      end = goes_on (power most_doublings) l w

      -- from one number of the row to a later one
      on_from : (i j : ℕ) → i ≤ j → graph.Reaches Leads' (row i) (j - i) (row j)
      on_from i j less =
          let sum : (j - i) + i ≡ j = omega arith in
          let split = reach_split Leads' l.line.name i (j - i) (row j)
          (subst (λ n. graph.Reaches Leads' l.line.name n (row j)) (sym sum) (goes_on j l w).1) in
          let here = reach_one Leads' one_at l.line.name i split.0 (row i) split.1 (goes_on i l w).1 in
          subst (λ z. graph.Reaches Leads' z (j - i) (row j)) here split.2

      way : (y : Name) × (k : ℕ) × graph.Reaches Leads' l.line.name k y × graph.IsOnCycle Leads' y
      way = lead N room l.line.name w.1.0 (waits_of l w.0 w.1.0 w.1.1)

      -- so many rounds from the name that comes again
      often : ℕ → ℕ
      often zero = 0
      often (suc m) = (again.1 - again.0) + often m

      often_more : (m : ℕ) → m ≤ often m
      often_more zero = omega arith
      often_more (suc m) = let more = often_more m in let less = again.2 in omega arith

      round_often : (m : ℕ) → graph.Reaches Leads' (row again.0) (often m) (row again.0)
      round_often zero = refl
      round_often (suc m) =
          let less = again.2 in
          reach_plus Leads' (row again.0) (often m) (row again.0) (again.1 - again.0) (row again.0) (round_often m)
          (subst (graph.Reaches Leads' (row again.0) (again.1 - again.0)) (sym again.4)
          (on_from again.0 again.1 (omega arith)))

      -- the name that comes again is reached from the one on the cycle
      round : graph.IsOnCycle Leads' (row again.0)
      round =
          let more = often_more way.1 in
          let sum : (often way.1 + again.0 - way.1) + way.1 ≡ often way.1 + again.0 = omega arith in
          let whole = reach_plus Leads' l.line.name again.0 (row again.0) (often way.1) (row again.0)
          (goes_on again.0 l w).1 (round_often way.1) in
          let split = reach_split Leads' l.line.name way.1 (often way.1 + again.0 - way.1) (row again.0)
          (subst (λ n. graph.Reaches Leads' l.line.name n (row again.0)) (sym sum) whole) in
          let here = reach_one Leads' one_at l.line.name way.1 split.0 way.0 split.1 way.2 in (
            way.3.0,
            cycle_at Leads' one_at way.0 way.3.0 (often way.1 + again.0 - way.1) (row again.0) way.3.1
                (subst (λ z. graph.Reaches Leads' z (often way.1 + again.0 - way.1) (row again.0)) here split.2),
          )

      last : graph.IsOnCycle Leads' (row (power most_doublings))
      last =
          let long = length-map lines (λ (l : TraceLine). l.line.name) in
          let less = again.2 in
          let low = again.3 in
          let few = few_lines in
          let enough = enough_steps again.0 (length lines) N (omega arith) few small in (
            round.0,
            cycle_at Leads' one_at (row again.0) round.0 (power most_doublings - again.0) (row (power most_doublings))
                round.1 (on_from again.0 (power most_doublings) enough),
          )

      told : graph.IsOnCycle (Leads ss) (row (power most_doublings))
      told =
          let one = names_lead ss (meaning_apart (script_program strict root) N ss out.1) in
          on_cycle_moves Leads' (Leads ss)
          (λ a b c x y. lead_told strict root N lines o owners lead room traced out a b x)
          (λ a b c x y. one a b c (lead_told strict root N lines o owners lead room traced out a b x)
          (lead_told strict root N lines o owners lead room traced out a c y)) one (row (power most_doublings)) last

      c : (c : List Link) × IsCycle ss c × IsIn (row (power most_doublings)) (map (λ (k : Link). k.task) c)
      c = stands_with ss (meaning_apart (script_program strict root) N ss out.1) (row (power most_doublings)) told
