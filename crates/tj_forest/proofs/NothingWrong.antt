-- Nothing is found exactly where no task failed, owes or waits.
use Rattle.std.proofs.Common.{◌≡◌, ℕ, Bool, true, false, not, cond, List, [], ◌∷◌, ◌++◌, map}
use Rattle.std.proofs.Common.{Some, refl, sym, ap, subst, ◌∙◌, inl, inr, ◌⊎◌}
use Rattle.std.specs.Prelude.{◌||◌, ◌↔◌}
use Rattle.std.specs.List.{flat_map, list_any}
use Rattle.tj_base.specs.ForkOrder.{Name}
use Rattle.tj_base.specs.declared.cause.Cause.{Cause}
use Rattle.tj_body.specs.Points.{IsIn}
use Rattle.tj_body.specs.Rounds.{meaning}
use Rattle.tj_body.proofs.Lists.{in_map, to_map}
use Rattle.tj_eval.specs.Stands.{PlacedState}
use Rattle.tj_mean.specs.Outcomes.{IsOutcome, is_marked, is_nil, is_troubled, is_undone}
use Rattle.tj_mean.specs.declared.outcome.Ending.{Ending}
use Rattle.tj_mean.specs.declared.outcome.Ending.TheVariants as ending
use Rattle.tj_mean.specs.declared.outcome.Link.{Link}
use Rattle.tj_mean.specs.declared.outcome.Outcome.{Outcome}
use Rattle.tj_mean.specs.declared.outcome.TaskLine.{TaskLine}
use Rattle.tj_trace.specs.Logs.{logged_program}
use Rattle.tj_trace.specs.TraceLaws.{script_program}
use Rattle.tj_trace.specs.Traces.{AreTraced}
use Rattle.tj_trace.specs.declared.line.TraceLine.{TraceLine}
use Rattle.tj_forest.proofs.ToldOnce.{debts_to, failures_to, same_lines, to_point, waits_to}
use Rattle.tj_forest.specs.Explanations.{debts_in, failures_in, waits_in}
use Rattle.tj_findings.specs.Findings.{behind, behind_with, echo, echo_with, failed, failed_with, findings_of, is_member}
use Rattle.tj_findings.specs.Findings.{is_owing, owed, told_debt}
use Rattle.tj_findings.specs.declared.finding.Finding.{Finding}

-- lists made of lines that give nothing
none_in : (g : TraceLine → List Finding) (ls : List TraceLine) → ((l : TraceLine) → IsIn l ls → g l ≡ [])
    → flat_map g ls ≡ []
none_in g [] none = refl
none_in g (l ∷ ls) none =
    ap (λ z. z ++ flat_map g ls) (none l (inl refl)) ∙ none_in g ls (λ m i. none m (inr i))

pub neither : (a b : Bool) → (a || b) ≡ false → (a ≡ false) × (b ≡ false)
neither true b e = absurd (cc)
neither false b e = (refl, e)

one_of : (a b : Bool) → (a || b) ≡ true → (a ≡ true) ⊎ (b ≡ true)
one_of true b e = inl refl
one_of false b e = inr e

-- where none passes, each fails
pub each_fails : (ls : List TaskLine) → list_any is_troubled ls ≡ false → (l : TaskLine) → IsIn l ls
    → is_troubled l ≡ false
each_fails [] e l i = absurd i
each_fails (m ∷ ms) e l (inl same) = ap is_troubled same ∙ (neither (is_troubled m) (list_any is_troubled ms) e).0
each_fails (m ∷ ms) e l (inr i) = each_fails ms (neither (is_troubled m) (list_any is_troubled ms) e).1 l i

-- where some passes, one does
one_passes : (ls : List TaskLine) → list_any is_troubled ls ≡ true
    → (l : TaskLine) × IsIn l ls × (is_troubled l ≡ true)
one_passes [] e = absurd (cc)
one_passes (m ∷ ms) e = by (one_of (is_troubled m) (list_any is_troubled ms) e) (one_passes ms) where
  by : (is_troubled m ≡ true) ⊎ (list_any is_troubled ms ≡ true)
      → (list_any is_troubled ms ≡ true → (l : TaskLine) × IsIn l ms × (is_troubled l ≡ true))
      → (l : TaskLine) × IsIn l (m ∷ ms) × (is_troubled l ≡ true)
  by (inl h) rest = (m, inl refl, h)
  by (inr h) rest = let l = rest h in (l.0, inr l.1, l.2)

pub empty : {A : Type 0} (xs : List A) → not (is_nil xs) ≡ false → xs ≡ []
empty [] e = refl
empty (x ∷ xs) e = absurd (cc)

module _ (lines : List TraceLine) where
  no_behind : (l : TraceLine) (b : Bool) (e : Ending) → is_undone e ≡ false → behind_with lines b l e ≡ []
  no_behind l b (ending.Done v) h = refl
  no_behind l b (ending.Failed c) h = refl
  no_behind l b (ending.Waits q) h = absurd (cc)

  no_failed : (l : TraceLine) (e : Ending) → is_undone e ≡ false → failed_with lines l e ≡ []
  no_failed l (ending.Done v) h = refl
  no_failed l (ending.Failed c) h = absurd (cc)
  no_failed l (ending.Waits q) h = refl

  no_echo : (l : TraceLine) (e : Ending) → is_undone e ≡ false → echo_with lines l e ≡ []
  no_echo l (ending.Done v) h = refl
  no_echo l (ending.Failed c) h = absurd (cc)
  no_echo l (ending.Waits q) h = refl

  no_owed : (l : TraceLine) (b : Bool) (qs : List Name) → qs ≡ [] → cond b (map (told_debt lines l) qs) [] ≡ []
  no_owed l false qs h = refl
  no_owed l true qs h = ap (map (told_debt lines l)) h

module _ (strict : Bool) (root : PlacedState) (N : ℕ) (lines : List TraceLine) (o : Outcome)
    (traced : AreTraced (logged_program strict root) N lines)
    (out : IsOutcome (meaning (script_program strict root) N) o) where
  -- nothing is found where nothing is marked
  fine_to : is_marked o ≡ false → findings_of lines o.cycles ≡ []
  fine_to fine = subst (λ cs. findings_of lines cs ≡ []) (sym (empty o.cycles parts.0)) all where
    parts : (not (is_nil o.cycles) ≡ false) × (list_any is_troubled o.lines ≡ false)
    parts = neither (not (is_nil o.cycles)) (list_any is_troubled o.lines) fine

    calm : (l : TraceLine) → IsIn l lines → (is_undone l.line.ending ≡ false) × (not (is_nil l.line.owes) ≡ false)
    calm l i = neither (is_undone l.line.ending) (not (is_nil l.line.owes))
        (each_fails o.lines parts.1 l.line
        (subst (IsIn l.line) (same_lines strict root N lines o traced out)
        (to_map (λ (l : TraceLine). l.line) l lines i)))

    pb : flat_map (behind lines []) lines ≡ []
    pb = none_in (behind lines []) lines
        (λ l i. no_behind lines l (is_member [] l.line.name) l.line.ending (calm l i).0)

    pf : flat_map (failed lines) lines ≡ []
    pf = none_in (failed lines) lines (λ l i. no_failed lines l l.line.ending (calm l i).0)

    pd : flat_map (owed lines true) lines ≡ []
    pd = none_in (owed lines true) lines
        (λ l i. no_owed lines l (is_owing true l.line.ending) l.line.owes (empty l.line.owes (calm l i).1))

    pe : flat_map (owed lines false) lines ≡ []
    pe = none_in (owed lines false) lines
        (λ l i. no_owed lines l (is_owing false l.line.ending) l.line.owes (empty l.line.owes (calm l i).1))

    px : flat_map (echo lines) lines ≡ []
    px = none_in (echo lines) lines (λ l i. no_echo lines l l.line.ending (calm l i).0)

    both : {a b c d : List Finding} → a ≡ b → c ≡ d → a ++ c ≡ b ++ d
    both {b = b} {c = c} p q = ap (λ z. z ++ c) p ∙ ap (λ z. b ++ z) q

    all : findings_of lines [] ≡ []
    all = both (both (both (both pb pf) pd) pe) px

  -- and only there
  fine_from : findings_of lines o.cycles ≡ [] → is_marked o ≡ false
  fine_from none = by (is_marked o) refl where
    gone_wait : (k : Link) → ¬ IsIn k (flat_map waits_in (findings_of lines o.cycles))
    gone_wait k i = subst (λ fs. IsIn k (flat_map waits_in fs)) none i

    gone_failure : (x : Name) (c : Cause) → ¬ IsIn (x, c) (flat_map failures_in (findings_of lines o.cycles))
    gone_failure x c i = subst (λ fs. IsIn (x, c) (flat_map failures_in fs)) none i

    gone_debt : (x q : Name) → ¬ IsIn (x, q) (flat_map debts_in (findings_of lines o.cycles))
    gone_debt x q i = subst (λ fs. IsIn (x, q) (flat_map debts_in fs)) none i

    no_cycles : (cs : List (List Link)) → findings_of lines cs ≡ [] → not (is_nil cs) ≡ true → ⊥
    no_cycles [] e h = absurd (cc)
    no_cycles (c ∷ cs) e h = absurd (cc)

    undone : (l : TraceLine) → IsIn l lines → (e : Ending) → l.line.ending ≡ e → is_undone e ≡ true → ⊥
    undone l i (ending.Done v) is h = absurd (cc)
    undone l i (ending.Failed c) is h =
        let p = to_point strict root N lines o traced out l i in
        let so = p.2 in
        gone_failure l.line.name c (failures_to strict root N lines o traced out l.line.name c
        (p.0, p.1, so.name, so.stopped ∙ ap (λ z. Some z) is))
    undone l i (ending.Waits q) is h =
        let p = to_point strict root N lines o traced out l i in
        let so = p.2 in
        let k : Link = record { task = l.line.name; cell = q } in
        gone_wait k (waits_to strict root N lines o traced out k
        (p.0, p.1, so.name, so.stopped ∙ ap (λ z. Some z) is))

    owing : (l : TraceLine) → IsIn l lines → (qs : List Name) → l.line.owes ≡ qs → not (is_nil qs) ≡ true → ⊥
    owing l i [] is h = absurd (cc)
    owing l i (q ∷ qs) is h =
        let p = to_point strict root N lines o traced out l i in
        let so = p.2 in
        gone_debt l.line.name q (debts_to strict root N lines o traced out l.line.name q
        (p.0, p.1, so.name, subst (IsIn q) (sym (so.owed ∙ is)) (inl refl)))

    troubled : list_any is_troubled o.lines ≡ true → ⊥
    troubled h =
        let t = one_passes o.lines h in
        let l = in_map (λ (l : TraceLine). l.line) t.0 lines
        (subst (IsIn t.0) (sym (same_lines strict root N lines o traced out)) t.1) in
        cases l.0 l.1 (one_of (is_undone l.0.line.ending) (not (is_nil l.0.line.owes)) (sym (ap is_troubled l.2) ∙ t.2))
      where
        cases : (l : TraceLine) → IsIn l lines
            → (is_undone l.line.ending ≡ true) ⊎ (not (is_nil l.line.owes) ≡ true) → ⊥
        cases l i (inl h) = undone l i l.line.ending refl h
        cases l i (inr h) = owing l i l.line.owes refl h

    by : (b : Bool) → is_marked o ≡ b → is_marked o ≡ false
    by false e = e
    by true e =
        absurd (which (one_of (not (is_nil o.cycles)) (list_any is_troubled o.lines) e)) where
          which : (not (is_nil o.cycles) ≡ true) ⊎ (list_any is_troubled o.lines ≡ true) → ⊥
          which (inl h) = no_cycles o.cycles none h
          which (inr h) = troubled h

  -- the law
  pub nothing_is_found : (findings_of lines o.cycles ≡ []) ↔ (is_marked o ≡ false)
  nothing_is_found = (fine_from, fine_to)
