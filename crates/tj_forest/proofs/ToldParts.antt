-- What the parts of a list of findings tell: the waits, the failures and the debts, line by line.
use Rattle.std.proofs.Common.{◌≡◌, Bool, true, false, cond, List, [], ◌∷◌, ◌++◌, map, Some}
use Rattle.std.proofs.Common.{refl, ap, ◌∙◌, inl, inr, append-nil}
use Rattle.std.specs.List.{flat_map}
use Rattle.std.proofs.lemmas.Grind.{flat_map-append}
use Rattle.tj_base.specs.ForkOrder.{Name}
use Rattle.tj_base.specs.declared.cause.Cause.{Cause}
use Rattle.tj_base.specs.declared.cause.Cause.TheVariants as cause
use Rattle.tj_body.specs.Points.{IsIn}
use Rattle.tj_body.proofs.Lists.{in_left, in_right}
use Rattle.tj_mean.specs.declared.outcome.Ending.{Ending}
use Rattle.tj_mean.specs.declared.outcome.Ending.TheVariants as ending
use Rattle.tj_mean.specs.declared.outcome.Link.{Link}
use Rattle.tj_trace.specs.declared.line.TraceLine.{TraceLine}
use Rattle.tj_forest.specs.Explanations.{debts_in, failures_in, link_told, waits_in}
use Rattle.tj_findings.specs.Findings.{behind, behind_with, echo, echo_with, failed, failed_with, findings_of, is_member}
use Rattle.tj_findings.specs.Findings.{is_owing, link_wait, owed, told_cycle, told_debt, wait_by}
use Rattle.tj_findings.specs.Searches.{line_of}
use Rattle.tj_findings.specs.declared.finding.Finding.{Finding}

-- what lists made of lists tell
of_parts : {A B C : Type 0} (h : B → List C) (g : A → List B) (xs : List A)
    → flat_map h (flat_map g xs) ≡ flat_map (λ x. flat_map h (g x)) xs
of_parts h g [] = refl
of_parts h g (x ∷ xs) = flat_map-append h (g x) (flat_map g xs) ∙ ap (λ z. flat_map h (g x) ++ z) (of_parts h g xs)

-- parts that tell nothing
pub none_of : {A B C : Type 0} (h : B → List C) (g : A → List B) → ((x : A) → flat_map h (g x) ≡ []) → (xs : List A)
    → flat_map h (flat_map g xs) ≡ []
none_of h g none [] = refl
none_of h g none (x ∷ xs) = flat_map-append h (g x) (flat_map g xs)
    ∙ (ap (λ z. z ++ flat_map h (flat_map g xs)) (none x) ∙ none_of h g none xs)

module _ (lines : List TraceLine) (cycles : List (List Link)) where
  -- the six parts
  pub six : {C : Type 0} (h : Finding → List C) (c b f d e x : List C) → flat_map h (map (told_cycle lines) cycles) ≡ c
      → flat_map h (flat_map (behind lines cycles) lines) ≡ b → flat_map h (flat_map (failed lines) lines) ≡ f
      → flat_map h (flat_map (owed lines true) lines) ≡ d → flat_map h (flat_map (owed lines false) lines) ≡ e
      → flat_map h (flat_map (echo lines) lines) ≡ x
      → flat_map h (findings_of lines cycles) ≡ c ++ b ++ f ++ d ++ e ++ x
  six h c b f d e x pc pb pf pd pe px =
      flat_map-append h _ (flat_map (echo lines) lines)
      ∙ both (flat_map-append h _ (flat_map (owed lines false) lines)
      ∙ both (flat_map-append h _ (flat_map (owed lines true) lines)
      ∙ both (flat_map-append h _ (flat_map (failed lines) lines)
      ∙ both (flat_map-append h (map (told_cycle lines) cycles) (flat_map (behind lines cycles) lines)
      ∙ both pc pb) pf) pd) pe) px
    where
      both : {A : Type 0} {p q r s : List A} → p ≡ q → r ≡ s → p ++ r ≡ q ++ s
      both {q = q} {r = r} u v = ap (λ z. z ++ r) u ∙ ap (λ z. q ++ z) v

  -- the waits behind cycles, of one line
  abbrev pub waits_behind : TraceLine → List Link
  waits_behind l = flat_map waits_in (behind lines cycles l)

  no_wait_failed : (l : TraceLine) (e : Ending) → flat_map waits_in (failed_with lines l e) ≡ []
  no_wait_failed l (ending.Done v) = refl
  no_wait_failed l (ending.Failed cause.Arith) = refl
  no_wait_failed l (ending.Failed cause.Kind) = refl
  no_wait_failed l (ending.Failed cause.Steps) = refl
  no_wait_failed l (ending.Failed (cause.Owner q)) = refl
  no_wait_failed l (ending.Failed (cause.Broken q)) = refl
  no_wait_failed l (ending.Failed (cause.Order q)) = refl
  no_wait_failed l (ending.Waits q) = refl

  no_wait_echo : (l : TraceLine) (e : Ending) → flat_map waits_in (echo_with lines l e) ≡ []
  no_wait_echo l (ending.Done v) = refl
  no_wait_echo l (ending.Failed cause.Arith) = refl
  no_wait_echo l (ending.Failed cause.Kind) = refl
  no_wait_echo l (ending.Failed cause.Steps) = refl
  no_wait_echo l (ending.Failed (cause.Owner q)) = refl
  no_wait_echo l (ending.Failed (cause.Broken q)) = refl
  no_wait_echo l (ending.Failed (cause.Order q)) = refl
  no_wait_echo l (ending.Waits q) = refl

  -- promises that a task owed
  module _ {C : Type 0} (h : Finding → List C) where
    pub no_debt : (l : TraceLine) → ((q : Name) → h (told_debt lines l q) ≡ []) → (b : Bool) (qs : List Name)
        → flat_map h (cond b (map (told_debt lines l) qs) []) ≡ []
    no_debt l none false qs = refl
    no_debt l none true [] = refl
    no_debt l none true (q ∷ qs) =
        ap (λ z. z ++ flat_map h (map (told_debt lines l) qs)) (none q) ∙ no_debt l none true qs

  -- what the cycles tell is their links, where each task has a line
  abbrev pub LinksThere : Type 0
  LinksThere = (k : Link) → IsIn k (flat_map (λ c. c) cycles)
      → (l : TraceLine) × (line_of lines k.task ≡ Some l) × (l.line.name ≡ k.task)

  -- the waits that all findings tell
  pub waits_told : LinksThere
      → flat_map waits_in (findings_of lines cycles) ≡ flat_map (λ c. c) cycles ++ flat_map waits_behind lines
  waits_told there =
      six waits_in (flat_map (λ c. c) cycles) (flat_map waits_behind lines) [] [] [] [] (each cycles there)
      (of_parts waits_in (behind lines cycles) lines)
      (none_of waits_in (failed lines) (λ l. no_wait_failed l l.line.ending) lines)
      (none_of waits_in (owed lines true)
      (λ l. no_debt waits_in l (λ q. refl) (is_owing true l.line.ending) l.line.owes) lines)
      (none_of waits_in (owed lines false)
      (λ l. no_debt waits_in l (λ q. refl) (is_owing false l.line.ending) l.line.owes) lines)
      (none_of waits_in (echo lines) (λ l. no_wait_echo l l.line.ending) lines)
      ∙ bare (flat_map (λ c. c) cycles ++ flat_map waits_behind lines)
    where
      bare : (ks : List Link) → ks ++ [] ++ [] ++ [] ++ [] ≡ ks
      bare ks = append-nil (ks ++ [] ++ [] ++ []) ∙ append-nil (ks ++ [] ++ []) ∙ append-nil (ks ++ []) ∙ append-nil ks

      one : (k : Link) (l : TraceLine) → line_of lines k.task ≡ Some l → l.line.name ≡ k.task → (ks : List Link)
          → map link_told (flat_map (link_wait lines) ks) ≡ ks
          → map link_told (flat_map (link_wait lines) (k ∷ ks)) ≡ k ∷ ks
      one k l found named ks rest =
          ap (λ o. map link_told (wait_by lines k.cell o ++ flat_map (link_wait lines) ks)) found
          ∙ (ap (λ x. (record { task = x; cell = k.cell }) ∷ map link_told (flat_map (link_wait lines) ks)) named
          ∙ ap (λ z. k ∷ z) rest)

      links : (ks : List Link)
          → ((k : Link) → IsIn k ks → (l : TraceLine) × (line_of lines k.task ≡ Some l) × (l.line.name ≡ k.task))
          → map link_told (flat_map (link_wait lines) ks) ≡ ks
      links [] there = refl
      links (k ∷ ks) there =
          let l = there k (inl refl) in one k l.0 l.1 l.2 ks (links ks (λ m i. there m (inr i)))

      each : (cs : List (List Link)) → ((k : Link) → IsIn k (flat_map (λ c. c) cs)
          → (l : TraceLine) × (line_of lines k.task ≡ Some l) × (l.line.name ≡ k.task))
          → flat_map waits_in (map (told_cycle lines) cs) ≡ flat_map (λ c. c) cs
      each [] there = refl
      each (c ∷ cs) there =
          ap (λ z. z ++ flat_map waits_in (map (told_cycle lines) cs))
          (links c (λ k i. there k (in_left k c (flat_map (λ c. c) cs) i)))
          ∙ ap (λ z. c ++ z) (each cs (λ k i. there k (in_right k c (flat_map (λ c. c) cs) i)))

  -- the failures of one line that are no echo, and those that are
  abbrev pub failures_failed : TraceLine → List (Name × Cause)
  failures_failed l = flat_map failures_in (failed lines l)

  abbrev pub failures_echo : TraceLine → List (Name × Cause)
  failures_echo l = flat_map failures_in (echo lines l)

  no_failure_behind : (l : TraceLine) (b : Bool) (e : Ending) → flat_map failures_in (behind_with lines b l e) ≡ []
  no_failure_behind l b (ending.Done v) = refl
  no_failure_behind l b (ending.Failed c) = refl
  no_failure_behind l true (ending.Waits q) = refl
  no_failure_behind l false (ending.Waits q) = refl

  -- cycles tell waits alone
  pub none_cycles : {C : Type 0} (h : Finding → List C) → ((c : List Link) → h (told_cycle lines c) ≡ [])
      → (cs : List (List Link)) → flat_map h (map (told_cycle lines) cs) ≡ []
  none_cycles h none [] = refl
  none_cycles h none (c ∷ cs) =
      ap (λ z. z ++ flat_map h (map (told_cycle lines) cs)) (none c) ∙ none_cycles h none cs

  -- the failures that all findings tell
  pub failures_told : flat_map failures_in (findings_of lines cycles)
      ≡ flat_map failures_failed lines ++ flat_map failures_echo lines
  failures_told = six failures_in [] [] (flat_map failures_failed lines) [] [] (flat_map failures_echo lines)
      (none_cycles failures_in (λ c. refl) cycles)
      (none_of failures_in (behind lines cycles)
      (λ l. no_failure_behind l (is_member cycles l.line.name) l.line.ending) lines)
      (of_parts failures_in (failed lines) lines)
      (none_of failures_in (owed lines true)
      (λ l. no_debt failures_in l (λ q. refl) (is_owing true l.line.ending) l.line.owes) lines)
      (none_of failures_in (owed lines false)
      (λ l. no_debt failures_in l (λ q. refl) (is_owing false l.line.ending) l.line.owes) lines)
      (of_parts failures_in (echo lines) lines)
      ∙ ap (λ z. z ++ flat_map failures_echo lines)
      (append-nil (flat_map failures_failed lines ++ []) ∙ append-nil (flat_map failures_failed lines))

  -- the debts of one line, where those of such a task are asked for
  abbrev pub debts_by : Bool → TraceLine → List (Name × Name)
  debts_by ended l = flat_map debts_in (owed lines ended l)

  no_debt_behind : (l : TraceLine) (b : Bool) (e : Ending) → flat_map debts_in (behind_with lines b l e) ≡ []
  no_debt_behind l b (ending.Done v) = refl
  no_debt_behind l b (ending.Failed c) = refl
  no_debt_behind l true (ending.Waits q) = refl
  no_debt_behind l false (ending.Waits q) = refl

  no_debt_failed : (l : TraceLine) (e : Ending) → flat_map debts_in (failed_with lines l e) ≡ []
  no_debt_failed l (ending.Done v) = refl
  no_debt_failed l (ending.Failed cause.Arith) = refl
  no_debt_failed l (ending.Failed cause.Kind) = refl
  no_debt_failed l (ending.Failed cause.Steps) = refl
  no_debt_failed l (ending.Failed (cause.Owner q)) = refl
  no_debt_failed l (ending.Failed (cause.Broken q)) = refl
  no_debt_failed l (ending.Failed (cause.Order q)) = refl
  no_debt_failed l (ending.Waits q) = refl

  no_debt_echo : (l : TraceLine) (e : Ending) → flat_map debts_in (echo_with lines l e) ≡ []
  no_debt_echo l (ending.Done v) = refl
  no_debt_echo l (ending.Failed cause.Arith) = refl
  no_debt_echo l (ending.Failed cause.Kind) = refl
  no_debt_echo l (ending.Failed cause.Steps) = refl
  no_debt_echo l (ending.Failed (cause.Owner q)) = refl
  no_debt_echo l (ending.Failed (cause.Broken q)) = refl
  no_debt_echo l (ending.Failed (cause.Order q)) = refl
  no_debt_echo l (ending.Waits q) = refl

  -- the debts that all findings tell
  pub debts_told : flat_map debts_in (findings_of lines cycles)
      ≡ flat_map (debts_by true) lines ++ flat_map (debts_by false) lines
  debts_told = six debts_in [] [] [] (flat_map (debts_by true) lines) (flat_map (debts_by false) lines) []
      (none_cycles debts_in (λ c. refl) cycles)
      (none_of debts_in (behind lines cycles)
      (λ l. no_debt_behind l (is_member cycles l.line.name) l.line.ending) lines)
      (none_of debts_in (failed lines) (λ l. no_debt_failed l l.line.ending) lines)
      (of_parts debts_in (owed lines true) lines)
      (of_parts debts_in (owed lines false) lines)
      (none_of debts_in (echo lines) (λ l. no_debt_echo l l.line.ending) lines)
      ∙ append-nil (flat_map (debts_by true) lines ++ flat_map (debts_by false) lines)
