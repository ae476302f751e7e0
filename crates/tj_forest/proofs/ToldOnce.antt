-- A list of findings tells each wait, each failure and each promise owed of a meaning, and no other.
use Rattle.std.proofs.Common.{◌≡◌, ℕ, ◌+◌, ◌≤◌, Bool, true, false, List, [], ◌∷◌, ◌++◌, map, Option, Some, None}
use Rattle.std.proofs.Common.{refl, sym, ap, subst, ◌∙◌, inl, inr, ◌⊎◌, arith}
use Rattle.std.specs.Prelude.{cond, ◌||◌}
use Rattle.std.specs.List.{flat_map}
use Rattle.std.specs.List.Sorted.{IsStrictlySortedBy}
use Rattle.std.specs.Option.{option_map}
use native.Mathlib.Decide.{dec_le}
use mathlib.Core.Logic.{dite}
use Rattle.tj_base.specs.ForkOrder.{Name}
use Rattle.tj_base.specs.declared.cause.Cause.{Cause}
use Rattle.tj_base.specs.declared.cause.Cause.TheVariants as cause
use Rattle.tj_body.specs.Laws.{AreDistinct}
use Rattle.tj_body.specs.Names.{has}
use Rattle.tj_body.specs.Points.{IsIn}
use Rattle.tj_body.specs.Rounds.{meaning}
use Rattle.tj_body.specs.declared.point.Point.{Point}
use Rattle.tj_body.proofs.Counts.{is, name_of_is, times, times_map, times_of_distinct, total, total_add, total_append}
use Rattle.tj_body.proofs.Counts.{distinct_of_times, has_of_times, times_of_in, total_flat_map, total_le, total_some}
use Rattle.tj_body.proofs.Lists.{from_flat_map, in_either, in_flat_map, in_left, in_map, in_right, to_map}
use Rattle.tj_eval.specs.Statements.{TaskState}
use Rattle.tj_eval.specs.Stands.{PlacedState}
use Rattle.tj_mean.specs.Outcomes.{Ascend, IsOutcome, Waits, ending_of, stopped_of}
use Rattle.tj_mean.specs.declared.outcome.Ending.{Ending}
use Rattle.tj_mean.specs.declared.outcome.Ending.TheVariants as ending
use Rattle.tj_mean.specs.declared.outcome.Link.{Link}
use Rattle.tj_mean.specs.declared.outcome.Outcome.{Outcome}
use Rattle.tj_mean.specs.declared.outcome.TaskLine.{TaskLine}
use Rattle.tj_mean.specs.declared.stopped.Stopped.{Stopped}
use Rattle.tj_mean.proofs.Lists.Elements.{get_in, in_of_all, in_of_has, some_is}
use Rattle.tj_mean.proofs.Lists.KeyedLists.{one_of_key}
use Rattle.tj_mean.proofs.Lists.NameOrder.{in_permuted, in_unpermuted}
use Rattle.tj_mean.proofs.Outcomes.ToldOutcomes.{meaning_apart, of_told, told_of}
use Rattle.tj_trace.specs.Logs.{logged_program}
use Rattle.tj_trace.specs.TraceLaws.{script_program}
use Rattle.tj_trace.specs.Traces.{AreTraced, names_of}
use Rattle.tj_trace.specs.declared.line.TraceLine.{TraceLine}
use Rattle.tj_trace.proofs.Seen.{is_of_outcome}
use Rattle.tj_forest.proofs.CyclesApart.{not_before, once_on_all, tasks_named}
use Rattle.tj_forest.proofs.DebtsOnce.{debts_are_distinct}
use Rattle.tj_forest.proofs.LineNumbers.{found_there}
use Rattle.tj_forest.proofs.ToldParts.{debts_by, debts_told, failures_echo, failures_failed, failures_told, waits_behind}
use Rattle.tj_forest.proofs.ToldParts.{waits_told}
use Rattle.tj_forest.specs.Explanations.{OwedIt, StoppedSo, TellsEachOnce, debts_in, failures_in, waits_in}
use Rattle.tj_findings.specs.Findings.{behind_with, echo_with, failed_with, findings_of, is_member, is_owing, told_debt}
use Rattle.tj_findings.specs.Searches.{line_of}

abbrev link : Name → Name → Link
link x q = record { task = x; cell = q }

abbrev failure : Name → Cause → Name × Cause
failure x c = (x, c)

abbrev debt : Name → Name → Name × Name
debt x q = (x, q)

abbrev owner_in : Name × Name → Name
owner_in d = d.0

abbrev promise_in : Name × Name → Name
promise_in d = d.1

abbrev task_of : Name × Cause → Name
task_of f = f.0

abbrev ending_with : Name × Cause → Ending
ending_with f = ending.Failed f.1

-- lines in name order have names that differ
ascend_distinct : (xs : List Name) → Ascend xs → AreDistinct xs
unfolding IsStrictlySortedBy
ascend_distinct [] asc = tt
ascend_distinct (x ∷ xs) asc = ((λ i. not_before x x xs asc.0 i refl), ascend_distinct xs asc.1)

-- the parts of one line, by how its task stopped
module _ (lines : List TraceLine) where
  behind_is : (l : TraceLine) (b : Bool) (e : Ending) (k : Link) → IsIn k (flat_map waits_in (behind_with lines b l e))
      → (l.line.name ≡ k.task) × (e ≡ ending.Waits k.cell)
  behind_is l b (ending.Done v) k i = absurd i
  behind_is l b (ending.Failed c) k i = absurd i
  behind_is l true (ending.Waits q) k i = absurd i
  behind_is l false (ending.Waits q) k (inl e) =
      (ap (λ (m : Link). m.task) (sym e), ap (λ (m : Link). ending.Waits m.cell) (sym e))
  behind_is l false (ending.Waits q) k (inr i) = absurd i

  behind_to : (l : TraceLine) (e : Ending) (k : Link) → l.line.name ≡ k.task → e ≡ ending.Waits k.cell
      → IsIn k (flat_map waits_in (behind_with lines false l e))
  behind_to l e k named is =
      subst (λ z. IsIn k (flat_map waits_in (behind_with lines false l z))) (sym is)
      (inl (ap (λ x. link x k.cell) (sym named)))

  -- at most one wait of a task that isn't a member
  behind_few : (x : Name) (l : TraceLine) (b : Bool) (e : Ending)
      → tasks_named x (flat_map waits_in (behind_with lines b l e)) ≤ is x l.line.name
  behind_few x l b (ending.Done v) = omega arith
  behind_few x l b (ending.Failed c) = omega arith
  behind_few x l true (ending.Waits q) = omega arith
  behind_few x l false (ending.Waits q) = omega arith

  failed_is : (l : TraceLine) (e : Ending) (x : Name) (c : Cause)
      → IsIn (x, c) (flat_map failures_in (failed_with lines l e)) → (l.line.name ≡ x) × (e ≡ ending.Failed c)
  failed_is l (ending.Done v) x c i = absurd i
  failed_is l (ending.Failed cause.Arith) x c (inl e) = (ap task_of (sym e), ap ending_with (sym e))
  failed_is l (ending.Failed cause.Kind) x c (inl e) = (ap task_of (sym e), ap ending_with (sym e))
  failed_is l (ending.Failed cause.Steps) x c (inl e) = (ap task_of (sym e), ap ending_with (sym e))
  failed_is l (ending.Failed (cause.Owner q)) x c (inl e) =
      (ap task_of (sym e), ap ending_with (sym e))
  failed_is l (ending.Failed (cause.Order q)) x c (inl e) =
      (ap task_of (sym e), ap ending_with (sym e))
  failed_is l (ending.Failed cause.Arith) x c (inr i) = absurd i
  failed_is l (ending.Failed cause.Kind) x c (inr i) = absurd i
  failed_is l (ending.Failed cause.Steps) x c (inr i) = absurd i
  failed_is l (ending.Failed (cause.Owner q)) x c (inr i) = absurd i
  failed_is l (ending.Failed (cause.Order q)) x c (inr i) = absurd i
  failed_is l (ending.Failed (cause.Broken q)) x c i = absurd i
  failed_is l (ending.Waits q) x c i = absurd i

  echo_is : (l : TraceLine) (e : Ending) (x : Name) (c : Cause)
      → IsIn (x, c) (flat_map failures_in (echo_with lines l e)) → (l.line.name ≡ x) × (e ≡ ending.Failed c)
  echo_is l (ending.Done v) x c i = absurd i
  echo_is l (ending.Failed cause.Arith) x c i = absurd i
  echo_is l (ending.Failed cause.Kind) x c i = absurd i
  echo_is l (ending.Failed cause.Steps) x c i = absurd i
  echo_is l (ending.Failed (cause.Owner q)) x c i = absurd i
  echo_is l (ending.Failed (cause.Order q)) x c i = absurd i
  echo_is l (ending.Failed (cause.Broken q)) x c (inl e) =
      (ap task_of (sym e), ap ending_with (sym e))
  echo_is l (ending.Failed (cause.Broken q)) x c (inr i) = absurd i
  echo_is l (ending.Waits q) x c i = absurd i

  -- a failure is told in one of both
  failure_to : (l : TraceLine) (x : Name) (c : Cause) → l.line.name ≡ x
      → IsIn (x, c) (flat_map failures_in (failed_with lines l (ending.Failed c)))
      ⊎ IsIn (x, c) (flat_map failures_in (echo_with lines l (ending.Failed c)))
  failure_to l x cause.Arith named = inl (inl (ap (λ y. failure y cause.Arith) (sym named)))
  failure_to l x cause.Kind named = inl (inl (ap (λ y. failure y cause.Kind) (sym named)))
  failure_to l x cause.Steps named = inl (inl (ap (λ y. failure y cause.Steps) (sym named)))
  failure_to l x (cause.Owner q) named = inl (inl (ap (λ y. failure y (cause.Owner q)) (sym named)))
  failure_to l x (cause.Order q) named = inl (inl (ap (λ y. failure y (cause.Order q)) (sym named)))
  failure_to l x (cause.Broken q) named = inr (inl (ap (λ y. failure y (cause.Broken q)) (sym named)))

  -- and told once
  failure_few : (x : Name) (l : TraceLine) (e : Ending)
      → total (λ (f : Name × Cause). is x (task_of f)) (flat_map failures_in (failed_with lines l e))
      + total (λ (f : Name × Cause). is x (task_of f)) (flat_map failures_in (echo_with lines l e)) ≤ is x l.line.name
  failure_few x l (ending.Done v) = omega arith
  failure_few x l (ending.Failed cause.Arith) = omega arith
  failure_few x l (ending.Failed cause.Kind) = omega arith
  failure_few x l (ending.Failed cause.Steps) = omega arith
  failure_few x l (ending.Failed (cause.Owner q)) = omega arith
  failure_few x l (ending.Failed (cause.Broken q)) = omega arith
  failure_few x l (ending.Failed (cause.Order q)) = omega arith
  failure_few x l (ending.Waits q) = omega arith

  debt_is : (l : TraceLine) (b : Bool) (qs : List Name) (x q : Name)
      → IsIn (x, q) (flat_map debts_in (cond b (map (told_debt lines l) qs) [])) → (l.line.name ≡ x) × IsIn q qs
  debt_is l false qs x q i = absurd i
  debt_is l true [] x q i = absurd i
  debt_is l true (p ∷ ps) x q (inl e) = (ap owner_in (sym e), inl (ap promise_in e))
  debt_is l true (p ∷ ps) x q (inr i) = let r = debt_is l true ps x q i in (r.0, inr r.1)

  debt_to : (l : TraceLine) (qs : List Name) (x q : Name) → l.line.name ≡ x → IsIn q qs
      → IsIn (x, q) (flat_map debts_in (map (told_debt lines l) qs))
  debt_to l [] x q named i = absurd i
  debt_to l (p ∷ ps) x q named (inl e) = inl (ap (λ y. debt y q) (sym named) ∙ ap (λ z. debt l.line.name z) e)
  debt_to l (p ∷ ps) x q named (inr i) = inr (debt_to l ps x q named i)

  owing : (l : TraceLine) (e : Ending) (x q : Name) → l.line.name ≡ x → IsIn q l.line.owes
      → IsIn (x, q) (flat_map debts_in (cond (is_owing true e) (map (told_debt lines l) l.line.owes) []))
      ⊎ IsIn (x, q) (flat_map debts_in (cond (is_owing false e) (map (told_debt lines l) l.line.owes) []))
  owing l (ending.Done v) x q named i = inl (debt_to l l.line.owes x q named i)
  owing l (ending.Failed c) x q named i = inr (debt_to l l.line.owes x q named i)
  owing l (ending.Waits c) x q named i = inr (debt_to l l.line.owes x q named i)

module _ (strict : Bool) (root : PlacedState) (N : ℕ) (lines : List TraceLine) (o : Outcome)
    (traced : AreTraced (logged_program strict root) N lines)
    (out : IsOutcome (meaning (script_program strict root) N) o) where
  abbrev points : List (Point TaskState)
  points = meaning (script_program strict root) N

  -- a line tells of a task with this history
  pub record IsOf (p : Point TaskState) (l : TraceLine) : Type 0 where
    pub name : p.name ≡ l.line.name
    pub stopped : ending_of p.stage ≡ Some l.line.ending
    pub owed : p.owed ≡ l.line.owes

  is_of : (p : Point TaskState) (s : Stopped) (l : TraceLine) → stopped_of p ≡ Some s → s.line ≡ l.line → IsOf p l
  is_of p s l told same = by (ending_of p.stage) refl told where
    by : (e : Option Ending) → ending_of p.stage ≡ e → option_map (λ e. record {
      line = record { name = p.name; prints = p.prints; ending = e; owes = p.owed };
      holds = p.holds;
    }) e ≡ Some s → IsOf p l
    by None is t = absurd (cc)
    by (Some e) is t =
        let whole = some_is _ s t in
        let line : _ ≡ l.line = ap (λ (z : Stopped). z.line) whole ∙ same in
        record {
          name = ap (λ (z : TaskLine). z.name) line;
          stopped = is ∙ ap (λ (z : TaskLine). Some z.ending) line;
          owed = ap (λ (z : TaskLine). z.owes) line;
        }

  pub same_lines : map (λ (l : TraceLine). l.line) lines ≡ o.lines
  same_lines = is_of_outcome strict root N lines o traced out

  -- each history has a line, and each line a history
  pub to_line : (p : Point TaskState) → IsIn p points → (l : TraceLine) × IsIn l lines × IsOf p l
  to_line p i =
      let s = of_told points out.0 out.1 p i in
      let j = in_unpermuted (map (λ (s : Stopped). s.line) out.0) o.lines out.2.lines s.0.line
      (to_map (λ (s : Stopped). s.line) s.0 out.0 s.1) in
      let l = in_map (λ (l : TraceLine). l.line) s.0.line lines (subst (IsIn s.0.line) (sym same_lines) j) in
      (l.0, l.1, is_of p s.0 l.0 s.2 l.2)

  to_stopped : (l : TraceLine) → IsIn l lines → (s : Stopped) × IsIn s out.0 × (s.line ≡ l.line)
  to_stopped l i =
      let j = subst (IsIn l.line) same_lines (to_map (λ (l : TraceLine). l.line) l lines i) in
      let s = in_map (λ (s : Stopped). s.line) l.line out.0
      (in_permuted (map (λ (s : Stopped). s.line) out.0) o.lines out.2.lines l.line j) in
      (s.0, s.1, sym s.2)

  pub to_point : (l : TraceLine) → IsIn l lines → (p : Point TaskState) × IsIn p points × IsOf p l
  to_point l i =
      let s = to_stopped l i in
      let p = told_of points out.0 out.1 s.0 s.1 in
      (p.0, p.1, is_of p.0 s.0 l p.2 s.2)

  of_stopped : (s : Stopped) → IsIn s out.0 → (l : TraceLine) × IsIn l lines × (s.line ≡ l.line)
  of_stopped s i =
      let j = in_unpermuted (map (λ (s : Stopped). s.line) out.0) o.lines out.2.lines s.line
      (to_map (λ (s : Stopped). s.line) s out.0 i) in
      in_map (λ (l : TraceLine). l.line) s.line lines (subst (IsIn s.line) (sym same_lines) j)

  -- a task stopped so where its line says so
  abbrev pub SaysSo : Name → Ending → Type 0
  SaysSo x e = (l : TraceLine) × IsIn l lines × (l.line.name ≡ x) × (l.line.ending ≡ e)

  to_so : (x : Name) (e : Ending) → SaysSo x e → StoppedSo points x e
  to_so x e (l, i, n, s) =
      let p = to_point l i in
      let is = p.2 in (p.0, p.1, is.name ∙ n, is.stopped ∙ ap (λ (z : Ending). Some z) s)

  pub from_so : (x : Name) (e : Ending) → StoppedSo points x e → SaysSo x e
  from_so x e (p, i, n, s) =
      let l = to_line p i in
      let is = l.2 in (l.0, l.1, sym is.name ∙ n, some_is l.0.line.ending e (sym is.stopped ∙ s))

  -- names of lines differ
  pub apart : AreDistinct (names_of lines)
  apart = ascend_distinct (names_of lines) traced.in_name_order

  once : (x : Name) → total (λ (l : TraceLine). is x l.line.name) lines ≤ 1
  once x =
      let a = times_of_distinct x (names_of lines) apart in
      let b = times_map (λ (l : TraceLine). l.line.name) x lines in omega arith

  -- the links of all cycles
  abbrev links : List Link
  links = flat_map (λ c. c) o.cycles

  -- the task of a link waits for its cell
  pub link_says : (k : Link) → IsIn k links → SaysSo k.task (ending.Waits k.cell)
  link_says k i =
      let c = from_flat_map (λ (c : List Link). c) k o.cycles i in
      let cycle = (out.2.cycles.0 c.0).0 c.1 in
      let w = in_of_all (λ (l : Link). Waits out.0 l.task l.cell) c.0 cycle.cells k c.2 in
      let l = of_stopped w.0 w.1 in (
        l.0,
        l.1,
        sym (ap (λ (z : TaskLine). z.name) l.2) ∙ w.2,
        sym (ap (λ (z : TaskLine). z.ending) l.2) ∙ w.3,
      )

  pub link_found : (k : Link) → IsIn k links
      → (l : TraceLine) × (line_of lines k.task ≡ Some l) × (l.line.name ≡ k.task)
  link_found k i =
      let l = link_says k i in
      let at = get_in lines l.0 l.1 in
      (l.0, found_there k.task lines traced.in_name_order at.0 l.0 at.1 l.2, l.2)

  all_waits : flat_map waits_in (findings_of lines o.cycles)
      ≡ links ++ flat_map (waits_behind lines o.cycles) lines
  all_waits = waits_told lines o.cycles link_found

  -- a member stands on a link
  member_link : (x : Name) (cs : List (List Link)) → is_member cs x ≡ true
      → (k : Link) × IsIn k (flat_map (λ c. c) cs) × (x ≡ k.task)
  member_link x [] h = absurd (cc)
  member_link x (c ∷ cs) h = by (has x (map (λ (k : Link). k.task) c)) refl (member_link x cs) h where
    by : (b : Bool) → has x (map (λ (k : Link). k.task) c) ≡ b
        → (is_member cs x ≡ true → (k : Link) × IsIn k (flat_map (λ c. c) cs) × (x ≡ k.task))
        → (b || is_member cs x) ≡ true → (k : Link) × IsIn k (c ++ flat_map (λ c. c) cs) × (x ≡ k.task)
    by true e rest h =
        let k = in_map (λ (k : Link). k.task) x c (in_of_has x (map (λ (k : Link). k.task) c) e) in
        (k.0, in_left k.0 c (flat_map (λ c. c) cs) k.1, k.2)
    by false e rest h = let k = rest h in (k.0, in_right k.0 c (flat_map (λ c. c) cs) k.1, k.2)

  -- the waits are those of the meaning
  pub waits_from : (k : Link) → IsIn k (flat_map waits_in (findings_of lines o.cycles))
      → StoppedSo points k.task (ending.Waits k.cell)
  waits_from k i =
      by (in_either k links (flat_map (waits_behind lines o.cycles) lines) (subst (IsIn k) all_waits i)) where
        by : IsIn k links ⊎ IsIn k (flat_map (waits_behind lines o.cycles) lines)
            → StoppedSo points k.task (ending.Waits k.cell)
        by (inl j) = to_so k.task (ending.Waits k.cell) (link_says k j)
        by (inr j) =
            let l = from_flat_map (waits_behind lines o.cycles) k lines j in
            let r = behind_is lines l.0 (is_member o.cycles l.0.line.name) l.0.line.ending k l.2 in
            to_so k.task (ending.Waits k.cell) (l.0, l.1, r.0, r.1)

  pub waits_to : (k : Link) → StoppedSo points k.task (ending.Waits k.cell)
      → IsIn k (flat_map waits_in (findings_of lines o.cycles))
  waits_to k so = subst (IsIn k) (sym all_waits) (by (is_member o.cycles k.task) refl) where
    l : SaysSo k.task (ending.Waits k.cell)
    l = from_so k.task (ending.Waits k.cell) so

    by : (b : Bool) → is_member o.cycles k.task ≡ b → IsIn k (links ++ flat_map (waits_behind lines o.cycles) lines)
    by true e =
        let m = member_link k.task o.cycles e in
        let n = link_says m.0 m.1 in
        let same = one_of_key (λ (z : TraceLine). z.line.name) lines apart l.0 n.0 l.1 n.1 (l.2 ∙ m.2 ∙ sym n.2) in
        let cells = waits_one k.cell m.0.cell
        (sym l.3 ∙ ap (λ (z : TraceLine). z.line.ending) same ∙ n.3) in
        in_left k links (flat_map (waits_behind lines o.cycles) lines)
        (subst (λ z. IsIn z links) (ap (λ x. link x m.0.cell) (sym m.2) ∙ ap (link k.task) (sym cells)) m.1)
      where
        waits_one : (p q : Name) → ending.Waits p ≡ ending.Waits q → p ≡ q
        waits_one p q e = cc
    by false e =
        in_right k links (flat_map (waits_behind lines o.cycles) lines)
        (in_flat_map (waits_behind lines o.cycles) l.0 k lines l.1
        (subst (λ b. IsIn k (flat_map waits_in (behind_with lines b l.0 l.0.line.ending)))
        (sym (ap (is_member o.cycles) l.2 ∙ e)) (behind_to lines l.0 l.0.line.ending k l.2 l.3)))

  -- each task that waits is told once
  none_of_members : (x : Name) → is_member o.cycles x ≡ true
      → total (λ (l : TraceLine). tasks_named x (waits_behind lines o.cycles l)) lines ≡ 0
  none_of_members x e =
      let a = total_le (λ (l : TraceLine). tasks_named x (waits_behind lines o.cycles l)) (λ l. 0) none lines in
      let b = zeros lines in omega arith
    where
      zeros : (ls : List TraceLine) → total (λ (l : TraceLine). 0) ls ≡ 0
      zeros [] = refl
      zeros (l ∷ ls) = let rest = zeros ls in omega arith

      none : (l : TraceLine) → tasks_named x (waits_behind lines o.cycles l) ≤ 0
      none l =
          dite (dec_le 1 (tasks_named x (waits_behind lines o.cycles l)))
          (λ some.
          let few = behind_few lines x l (is_member o.cycles l.line.name) l.line.ending in
          let named : x ≡ l.line.name = name_of_is x l.line.name (omega arith) in
          let member : is_member o.cycles l.line.name ≡ true =
          subst (λ y. is_member o.cycles y ≡ true) named e in
          let gone : tasks_named x (waits_behind lines o.cycles l)
          ≡ tasks_named x (flat_map waits_in (behind_with lines true l l.line.ending)) =
          ap (λ b. tasks_named x (flat_map waits_in (behind_with lines b l l.line.ending))) member in
          let empty = of_member l.line.ending in omega arith)
          (λ no. omega (arith, no))
        where
          of_member : (e : Ending) → tasks_named x (flat_map waits_in (behind_with lines true l e)) ≡ 0
          of_member (ending.Done v) = refl
          of_member (ending.Failed c) = refl
          of_member (ending.Waits q) = refl

  waits_once : AreDistinct (map (λ (k : Link). k.task) (flat_map waits_in (findings_of lines o.cycles)))
  waits_once = distinct_of_times (map (λ (k : Link). k.task) (flat_map waits_in (findings_of lines o.cycles))) few where
    few : (x : Name) → times x (map (λ (k : Link). k.task) (flat_map waits_in (findings_of lines o.cycles))) ≤ 1
    few x =
        let f : Link → ℕ = λ k. is x k.task in
        let named = times_map (λ (k : Link). k.task) x (flat_map waits_in (findings_of lines o.cycles)) in
        let parts : tasks_named x (flat_map waits_in (findings_of lines o.cycles))
        ≡ tasks_named x (links ++ flat_map (waits_behind lines o.cycles) lines) = ap (tasks_named x) all_waits in
        let sum = total_append f links (flat_map (waits_behind lines o.cycles) lines) in
        let each = total_flat_map f (waits_behind lines o.cycles) lines in
        let on = once_on_all out.0 (meaning_apart (script_program strict root) N out.0 out.1) o.cycles
        (λ c i. (out.2.cycles.0 c).0 i) out.2.cycles.1 x in
        let most = total_le (λ (l : TraceLine). tasks_named x (waits_behind lines o.cycles l))
        (λ l. is x l.line.name)
        (λ l. behind_few lines x l (is_member o.cycles l.line.name) l.line.ending) lines in
        let one = once x in
        dite (dec_le 1 (tasks_named x links))
        (λ some. let none = none_of_members x (member some) in omega arith)
        (λ no. omega (arith, no))
      where
        either : (a b : Bool) → b ≡ true → (a || b) ≡ true
        either true b e = refl
        either false b e = e

        is_on : (cs : List (List Link)) (k : Link) → IsIn k (flat_map (λ c. c) cs) → is_member cs k.task ≡ true
        is_on [] k i = absurd i
        is_on (c ∷ cs) k i = by (in_either k c (flat_map (λ c. c) cs) i) (is_on cs k) where
          by : IsIn k c ⊎ IsIn k (flat_map (λ c. c) cs)
              → (IsIn k (flat_map (λ c. c) cs) → is_member cs k.task ≡ true)
              → (has k.task (map (λ (k : Link). k.task) c) || is_member cs k.task) ≡ true
          by (inl j) rest =
              ap (λ b. b || is_member cs k.task) (has_of_times k.task (map (λ (k : Link). k.task) c)
              (times_of_in k.task (map (λ (k : Link). k.task) c) (to_map (λ (k : Link). k.task) k c j)))
          by (inr j) rest = either (has k.task (map (λ (k : Link). k.task) c)) (is_member cs k.task) (rest j)

        member : 1 ≤ tasks_named x links → is_member o.cycles x ≡ true
        member some =
            let k = total_some (λ (k : Link). is x k.task) links some in
            subst (λ y. is_member o.cycles y ≡ true) (sym (name_of_is x k.0.task k.2)) (is_on o.cycles k.0 k.1)

  -- the failures are those of the meaning
  failures_from : (x : Name) (c : Cause) → IsIn (failure x c) (flat_map failures_in (findings_of lines o.cycles))
      → StoppedSo points x (ending.Failed c)
  failures_from x c i =
      by (in_either (failure x c) (flat_map (failures_failed lines o.cycles) lines)
      (flat_map (failures_echo lines o.cycles) lines)
      (subst (IsIn (failure x c)) (failures_told lines o.cycles) i)) where
        by : IsIn (failure x c) (flat_map (failures_failed lines o.cycles) lines)
            ⊎ IsIn (failure x c) (flat_map (failures_echo lines o.cycles) lines)
            → StoppedSo points x (ending.Failed c)
        by (inl j) =
            let l = from_flat_map (failures_failed lines o.cycles) (failure x c) lines j in
            let r = failed_is lines l.0 l.0.line.ending x c l.2 in
            to_so x (ending.Failed c) (l.0, l.1, r.0, r.1)
        by (inr j) =
            let l = from_flat_map (failures_echo lines o.cycles) (failure x c) lines j in
            let r = echo_is lines l.0 l.0.line.ending x c l.2 in
            to_so x (ending.Failed c) (l.0, l.1, r.0, r.1)

  pub failures_to : (x : Name) (c : Cause) → StoppedSo points x (ending.Failed c)
      → IsIn (failure x c) (flat_map failures_in (findings_of lines o.cycles))
  failures_to x c so =
      subst (IsIn (failure x c)) (sym (failures_told lines o.cycles)) (by (failure_to lines l.0 x c l.2)) where
        l : SaysSo x (ending.Failed c)
        l = from_so x (ending.Failed c) so

        by : IsIn (failure x c) (flat_map failures_in (failed_with lines l.0 (ending.Failed c)))
            ⊎ IsIn (failure x c) (flat_map failures_in (echo_with lines l.0 (ending.Failed c)))
            → IsIn (failure x c) (flat_map (failures_failed lines o.cycles) lines
            ++ flat_map (failures_echo lines o.cycles) lines)
        by (inl j) =
            in_left (failure x c) (flat_map (failures_failed lines o.cycles) lines)
            (flat_map (failures_echo lines o.cycles) lines)
            (in_flat_map (failures_failed lines o.cycles) l.0 (failure x c) lines l.1
            (subst (λ e. IsIn (failure x c) (flat_map failures_in (failed_with lines l.0 e))) (sym l.3) j))
        by (inr j) =
            in_right (failure x c) (flat_map (failures_failed lines o.cycles) lines)
            (flat_map (failures_echo lines o.cycles) lines)
            (in_flat_map (failures_echo lines o.cycles) l.0 (failure x c) lines l.1
            (subst (λ e. IsIn (failure x c) (flat_map failures_in (echo_with lines l.0 e))) (sym l.3) j))

  failures_once : AreDistinct (map (λ (f : Name × Cause). f.0) (flat_map failures_in (findings_of lines o.cycles)))
  failures_once =
      distinct_of_times (map task_of (flat_map failures_in (findings_of lines o.cycles))) few where
        few : (x : Name) → times x (map task_of (flat_map failures_in (findings_of lines o.cycles))) ≤ 1
        few x =
            let f : Name × Cause → ℕ = λ z. is x (task_of z) in
            let named = times_map task_of x (flat_map failures_in (findings_of lines o.cycles)) in
            let parts = ap (total f) (failures_told lines o.cycles) in
            let sum = total_append f (flat_map (failures_failed lines o.cycles) lines)
            (flat_map (failures_echo lines o.cycles) lines) in
            let first = total_flat_map f (failures_failed lines o.cycles) lines in
            let second = total_flat_map f (failures_echo lines o.cycles) lines in
            let both = total_add (λ (l : TraceLine). total f (failures_failed lines o.cycles l))
            (λ (l : TraceLine). total f (failures_echo lines o.cycles l)) lines in
            let most = total_le
            (λ (l : TraceLine). total f (failures_failed lines o.cycles l) + total f (failures_echo lines o.cycles l))
            (λ l. is x l.line.name) (λ l. failure_few lines x l l.line.ending) lines in
            let one = once x in omega arith

  -- the promises owed are those of the meaning
  debts_from : (x q : Name) → IsIn (debt x q) (flat_map debts_in (findings_of lines o.cycles)) → OwedIt points x q
  debts_from x q i =
      by (in_either (debt x q) (flat_map (debts_by lines o.cycles true) lines)
      (flat_map (debts_by lines o.cycles false) lines)
      (subst (IsIn (debt x q)) (debts_told lines o.cycles) i)) where
        found : (l : TraceLine) → IsIn l lines → l.line.name ≡ x → IsIn q l.line.owes → OwedIt points x q
        found l i n j = let p = to_point l i in let is = p.2 in (p.0, p.1, is.name ∙ n, subst (IsIn q) (sym is.owed) j)

        by : IsIn (debt x q) (flat_map (debts_by lines o.cycles true) lines)
            ⊎ IsIn (debt x q) (flat_map (debts_by lines o.cycles false) lines) → OwedIt points x q
        by (inl j) =
            let l = from_flat_map (debts_by lines o.cycles true) (debt x q) lines j in
            let r = debt_is lines l.0 (is_owing true l.0.line.ending) l.0.line.owes x q l.2 in found l.0 l.1 r.0 r.1
        by (inr j) =
            let l = from_flat_map (debts_by lines o.cycles false) (debt x q) lines j in
            let r = debt_is lines l.0 (is_owing false l.0.line.ending) l.0.line.owes x q l.2 in found l.0 l.1 r.0 r.1

  pub debts_to : (x q : Name) → OwedIt points x q → IsIn (debt x q) (flat_map debts_in (findings_of lines o.cycles))
  debts_to x q (p, i, n, j) =
      subst (IsIn (debt x q)) (sym (debts_told lines o.cycles))
      (by (owing lines l.0 l.0.line.ending x q (sym is.name ∙ n) (subst (IsIn q) is.owed j))) where
        l : (l : TraceLine) × IsIn l lines × IsOf p l
        l = to_line p i

        is : IsOf p l.0
        is = l.2

        by : IsIn (debt x q) (debts_by lines o.cycles true l.0) ⊎ IsIn (debt x q) (debts_by lines o.cycles false l.0)
            → IsIn (debt x q) (flat_map (debts_by lines o.cycles true) lines
            ++ flat_map (debts_by lines o.cycles false) lines)
        by (inl k) =
            in_left (debt x q) (flat_map (debts_by lines o.cycles true) lines)
            (flat_map (debts_by lines o.cycles false) lines)
            (in_flat_map (debts_by lines o.cycles true) l.0 (debt x q) lines l.1 k)
        by (inr k) =
            in_right (debt x q) (flat_map (debts_by lines o.cycles true) lines)
            (flat_map (debts_by lines o.cycles false) lines)
            (in_flat_map (debts_by lines o.cycles false) l.0 (debt x q) lines l.1 k)

  -- the law
  pub tells_each_once : TellsEachOnce points (findings_of lines o.cycles)
  tells_each_once = record {
    waits = λ k. (waits_from k, waits_to k);
    waits_once = waits_once;
    failures = λ x c. (failures_from x c, failures_to x c);
    failures_once = failures_once;
    debts = λ x q. (debts_from x q, debts_to x q);
    debts_once = debts_are_distinct strict root N lines traced o.cycles;
  }
