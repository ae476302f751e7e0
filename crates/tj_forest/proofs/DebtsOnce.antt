-- Each promise that is told as owed is told once: what a task owes it has broken, and no cell is written twice.
use Rattle.std.proofs.Common.{◌≡◌, ℕ, zero, suc, ◌+◌, ◌*◌, ◌≤◌, Bool, true, false, cond, List, [], ◌∷◌, ◌++◌, map}
use Rattle.std.proofs.Common.{Option, Some, None, refl, sym, ap, ◌∙◌, inl, inr, arith}
use Rattle.std.specs.Option.{option_map}
use Rattle.std.specs.List.{flat_map, sum_by}
use Rattle.std.specs.List.Sorted.{IsPermutation}
use Rattle.std.proofs.lemmas.List.Sorted.{sum_by-IsPermutation}
use Rattle.std.proofs.lemmas.List.Sums.{sum_by-cons}
use Rattle.tj_base.specs.ForkOrder.{Name}
use Rattle.tj_base.specs.declared.cause.Cause.TheVariants as cause
use Rattle.tj_body.specs.History.{Assignment, after_ask, after_close, after_look, after_read, after_stage, history}
use Rattle.tj_body.specs.History.{point_after, value_at, with_entry}
use Rattle.tj_body.specs.Inner.AskSteps.{IsAskStep, fails, ends, makes, forks, sets, gets, joins, prints}
use Rattle.tj_body.specs.Laws.{AreDistinct}
use Rattle.tj_body.specs.Names.{in_order}
use Rattle.tj_body.specs.Programs.{Rules}
use Rattle.tj_body.specs.Rounds.{given, last_round, meaning, tasks}
use Rattle.tj_body.specs.declared.ask.Ask.{Ask}
use Rattle.tj_body.specs.declared.point.Close.{Close}
use Rattle.tj_body.specs.declared.point.Close.TheVariants as close
use Rattle.tj_body.specs.declared.point.Entry.{Entry}
use Rattle.tj_body.specs.declared.point.Entry.TheVariants as entry
use Rattle.tj_body.specs.declared.point.Point.{Point}
use Rattle.tj_body.specs.declared.point.PointStage.{PointStage}
use Rattle.tj_body.specs.declared.point.PointStage.TheVariants as stage
use Rattle.tj_body.specs.declared.point.Task.{Task}
use Rattle.tj_body.specs.declared.point.Value.TheVariants as value
use Rattle.tj_body.proofs.Counts.{distinct_of_times, is, times, times_map, total, total_add, total_append, total_flat_map}
use Rattle.tj_body.proofs.Counts.{total_le, wrote, wrote_all}
use Rattle.tj_body.proofs.Histories.AskSteps.{is_ask_step}
use Rattle.tj_body.proofs.Lists.{Sub}
use Rattle.tj_body.proofs.Rounds.Families.{uses}
use Rattle.tj_body.proofs.Rounds.Rises.{once_in_round, tasks_sub}
use Rattle.tj_eval.specs.Stands.{PlacedState}
use Rattle.tj_mean.specs.Outcomes.{ending_of}
use Rattle.tj_mean.specs.declared.outcome.Ending.{Ending}
use Rattle.tj_mean.specs.declared.outcome.Ending.TheVariants as ending
use Rattle.tj_mean.specs.declared.outcome.Link.{Link}
use Rattle.tj_trace.specs.Logs.{Logged, logged_left, logged_program}
use Rattle.tj_trace.specs.Traces.{AreTraced, line_in}
use Rattle.tj_trace.specs.Traces as traces
use Rattle.tj_trace.specs.declared.line.TraceLine.{TraceLine}
use Rattle.tj_forest.proofs.ToldParts.{debts_by, debts_told}
use Rattle.tj_forest.specs.Explanations.{debts_in}
use Rattle.tj_findings.specs.Findings.{findings_of, is_owing, told_debt}

-- sums over lists with the same elements, over parts, and over images
total_sum : {A : Type 0} (f : A → ℕ) (l : List A) → total f l ≡ sum_by f l
total_sum f [] = refl
total_sum f (x ∷ xs) = ap (λ n. f x + n) (total_sum f xs) ∙ sym (sum_by-cons f x xs)

pub total_permuted : {A : Type 0} (f : A → ℕ) (l m : List A) → IsPermutation l m → total f m ≡ total f l
total_permuted f l m p = total_sum f m ∙ sum_by-IsPermutation f l m p ∙ sym (total_sum f l)

total_map : {A C : Type 0} (f : C → ℕ) (g : A → C) (l : List A) → total f (map g l) ≡ total (λ x. f (g x)) l
total_map f g [] = refl
total_map f g (x ∷ xs) = ap (λ n. f (g x) + n) (total_map f g xs)

total_sub : {A : Type 0} (f : A → ℕ) (l m : List A) → Sub l m → total f l ≤ total f m
total_sub f l [] h = let e = ap (total f) h in omega arith
total_sub f l (y ∷ ys) (inl s) = let h = total_sub f l ys s in omega arith
total_sub f l (y ∷ ys) (inr (k, e, s)) = let h = total_sub f k ys s in let g = ap (total f) e in omega arith

-- what is written stays written
longer : (q : Name) (ws more : List (Name × Entry)) (n : ℕ) → n ≤ wrote q ws → n ≤ wrote q (ws ++ more)
longer q ws more n h = let a = total_append (λ (w : Name × Entry). is q w.0) ws more in omega arith

module _ {B : Type 0} where
  -- what the task owes is broken among its writes, name by name
  abbrev OwesCounted : Point B → Type 0
  OwesCounted p = (q : Name) → times q p.owed ≤ wrote q p.writes

  closes : (e : Close) (r : Entry) (p : Point B) → OwesCounted (after_close e r p)
  closes e r p q =
      let a = total_append (λ (w : Name × Entry). is q w.0) p.writes
      ((p.name, r) ∷ map (with_entry entry.Broken) (in_order p.holds)) in
      let b = wrote_all q entry.Broken (in_order p.holds) in omega arith

  keeps : (strict : Bool) (p : Point B) (a : Ask B) (q : Point B) → IsAskStep strict p a q → OwesCounted p
      → OwesCounted q
  keeps strict p _ _ (fails a c) h = closes (close.Failed c) entry.Broken p
  keeps strict p _ _ (ends v) h =
      let r = value_at p.name p.references v in closes (close.Done r) (entry.Value r) p
  keeps strict p _ _ makes h = h
  keeps strict p _ _ (forks b pass hand l e) h = h
  keeps strict p _ _ (sets k v s o) h = λ q. longer q p.writes _ (times q p.owed) (h q)
  keeps strict p _ _ (gets spare k s) h = h
  keeps strict p _ _ (joins spare k s o) h = h
  keeps strict p _ _ (prints i) h = h

  reads : (spare : Bool) (q : Name) (x : Entry) (p : Point B) → OwesCounted p → OwesCounted (after_read spare q x p)
  reads true q entry.Broken p h = h
  reads false q entry.Broken p h = closes (close.Failed (cause.Broken q)) entry.Broken p
  reads spare q (entry.Value (value.Num i)) p h = h
  reads spare q (entry.Value (value.Ref r)) p h = h

  looks : (spare : Bool) (q : Name) (o : Option Entry) (p : Point B) → OwesCounted p
      → OwesCounted (after_look spare q o p)
  looks spare q None p h = h
  looks spare q (Some x) p h = reads spare q x p h

  module _ (rules : Rules B) (V : Assignment) where
    steps : (s : PointStage) (p : Point B) → OwesCounted p → OwesCounted (after_stage rules V s p)
    steps (stage.Answered a) p h = let q = record p { body = rules.then p.body a } in
        keeps rules.strict q (rules.asks p.body a) (after_ask rules.strict (rules.asks p.body a) q)
        (is_ask_step rules.strict q (rules.asks p.body a)) h
    steps (stage.Waits x spare) p h = looks spare x (V x) p h
    steps (stage.Closed e) p h = h

    owes_counted : (t : Task B) (k : ℕ) → OwesCounted (point_after rules V k t)
    owes_counted t zero = λ q. omega arith
    owes_counted t (suc k) = let p = point_after rules V k t in steps p.stage p (owes_counted t k)

module _ (strict : Bool) (root : PlacedState) (N : ℕ) (lines : List TraceLine)
    (traced : AreTraced (logged_program strict root) N lines) (q : Name) where
  -- how often a line, if there is one, tells the promise as owed
  abbrev owes_if : Option TraceLine → ℕ
  owes_if None = 0
  owes_if (Some l) = times q l.line.owes

  of_point : (p : Point Logged) → owes_if (traces.line_of p) ≤ times q p.owed
  of_point p = by (ending_of p.stage) where
    by : (e : Option Ending) → owes_if (option_map (line_in p) (option_map (λ e. record {
      line = record { name = p.name; prints = p.prints; ending = e; owes = p.owed };
      holds = p.holds;
    }) e)) ≤ times q p.owed
    by None = omega arith
    by (Some e) = omega arith

  -- no promise is owed twice
  owed_once : total (λ (l : TraceLine). times q l.line.owes) lines ≤ 1
  owed_once =
      let program = logged_program strict root in
      let n = last_round N in
      let V = given program n in
      let f : TraceLine → ℕ = λ l. times q l.line.owes in
      let at : Task Logged → Point Logged = history program.rules V in
      let g : Point Logged → ℕ = λ p. owes_if (traces.line_of p) in
      let same : total f lines ≡ total (λ (t : Task Logged). g (at t)) (tasks program n) =
      total_permuted f traced.told lines traced.same_lines
      ∙ sym (total_map owes_if (λ (l : TraceLine). Some l) traced.told)
      ∙ sym (ap (total owes_if) traced.are_told) ∙ total_map owes_if traces.line_of traced.histories
      ∙ total_permuted g (meaning program N) traced.histories traced.same_histories
      ∙ total_map g at (tasks program n) in
      let i = total_le (λ (t : Task Logged). g (at t)) (uses program.rules V q) (λ t.
      let x = of_point (at t) in
      let y = owes_counted program.rules V t (2 * suc (logged_left t.body)) q in omega arith) (tasks program n) in
      let j = total_sub (uses program.rules V q) (tasks program n) (tasks program (suc n)) (tasks_sub program n) in
      let k = once_in_round program n q in omega arith

  -- how often one line's debts name the promise
  abbrev names_it : Name × Name → ℕ
  names_it d = is q d.1

  of_debts : (l : TraceLine) (b : Bool) (qs : List Name)
      → total names_it (flat_map debts_in (cond b (map (told_debt lines l) qs) [])) ≤ times q qs
  of_debts l false qs = omega arith
  of_debts l true [] = omega arith
  of_debts l true (p ∷ ps) = let h = of_debts l true ps in omega arith

  of_line : (l : TraceLine) (e : Ending) (qs : List Name)
      → total names_it (flat_map debts_in (cond (is_owing true e) (map (told_debt lines l) qs) []))
      + total names_it (flat_map debts_in (cond (is_owing false e) (map (told_debt lines l) qs) [])) ≤ times q qs
  of_line l (ending.Done v) qs = let h = of_debts l true qs in omega arith
  of_line l (ending.Failed c) qs = let h = of_debts l true qs in omega arith
  of_line l (ending.Waits c) qs = let h = of_debts l true qs in omega arith

  pub debt_once : (cycles : List (List Link))
      → times q (map (λ (d : Name × Name). d.1) (flat_map debts_in (findings_of lines cycles))) ≤ 1
  debt_once cycles =
      let named = times_map (λ (d : Name × Name). d.1) q (flat_map debts_in (findings_of lines cycles)) in
      let parts = ap (total names_it) (debts_told lines cycles) in
      let sum = total_append names_it (flat_map (debts_by lines cycles true) lines)
      (flat_map (debts_by lines cycles false) lines) in
      let first = total_flat_map names_it (debts_by lines cycles true) lines in
      let second = total_flat_map names_it (debts_by lines cycles false) lines in
      let both = total_add (λ (l : TraceLine). total names_it (debts_by lines cycles true l))
      (λ (l : TraceLine). total names_it (debts_by lines cycles false l)) lines in
      let most = total_le
      (λ (l : TraceLine).
      total names_it (debts_by lines cycles true l) + total names_it (debts_by lines cycles false l))
      (λ l. times q l.line.owes) (λ l. of_line l l.line.ending l.line.owes) lines in
      let once = owed_once in omega arith

-- the law
pub debts_are_distinct : (strict : Bool) (root : PlacedState) (N : ℕ) (lines : List TraceLine)
    → AreTraced (logged_program strict root) N lines → (cycles : List (List Link))
    → AreDistinct (map (λ (d : Name × Name). d.1) (flat_map debts_in (findings_of lines cycles)))
debts_are_distinct strict root N lines traced cycles =
    distinct_of_times (map (λ (d : Name × Name). d.1) (flat_map debts_in (findings_of lines cycles)))
    (λ q. debt_once strict root N lines traced q cycles)
