-- Causes are told in this order: what was owed last, and a set that was refused before the cycles that wait for it.
use Rattle.std.proofs.Common.{◌≡◌, ℕ, suc, ◌+◌, ◌<◌, ◌≤◌, Bool, true, false, cond, List, [], ◌∷◌, ◌++◌, length}
use Rattle.std.proofs.Common.{map, Option, Some, None, refl, sym, ap, subst, ◌∙◌, ◌⊎◌, inl, inr, arith}
use Rattle.std.specs.Prelude.{option_and_then, slice_get, unwrap_or}
use Rattle.std.specs.List.{flat_map, position_from}
use Rattle.std.specs.Option.{is_some}
use Rattle.tj_base.specs.ForkOrder.{Name}
use Rattle.tj_base.specs.declared.cause.Cause.{Cause}
use Rattle.tj_base.specs.declared.cause.Cause.TheVariants as cause
use Rattle.tj_body.specs.Names.{has}
use Rattle.tj_body.specs.Points.{IsIn}
use Rattle.tj_body.proofs.Counts.{has_of_times, times_of_in}
use Rattle.tj_body.proofs.Lists.{from_flat_map, in_either, in_map}
use Rattle.tj_mean.specs.declared.outcome.Ending.{Ending}
use Rattle.tj_mean.specs.declared.outcome.Ending.TheVariants as ending
use Rattle.tj_mean.specs.declared.outcome.Link.{Link}
use Rattle.tj_syntax.specs.PlacesOf.{PlacesOfTask}
use Rattle.tj_trace.specs.Lookups.{ask_spot_of}
use Rattle.tj_trace.specs.declared.line.Maker.{Maker}
use Rattle.tj_trace.specs.declared.line.TraceLine.{TraceLine}
use Rattle.tj_forest.proofs.CausesSorted.{below_in}
use Rattle.tj_forest.proofs.Forests.{all_below}
use Rattle.tj_forest.proofs.RanksBefore.{AreRanked, alike, before_either, first_in, lower, ranked_before, second_in}
use Rattle.tj_forest.specs.CauseOrder.{IsDebt, StandsBefore, StoppedAtNoAsk, cells_of}
use Rattle.tj_findings.specs.Findings.{failed, failed_with, is_owing, link_wait, owed, told_cycle, told_debt}
use Rattle.tj_findings.specs.Findings.{told_failure, told_task, wait_by}
use Rattle.tj_findings.specs.Forests.{awaited_from, causes, not_owned, rank, ranked_causes, ranked_from}
use Rattle.tj_findings.specs.Searches.{line_of}
use Rattle.tj_findings.specs.declared.finding.Finding.{Finding}
use Rattle.tj_findings.specs.declared.finding.Finding.TheVariants as finding
use Rattle.tj_findings.specs.declared.finding.ToldTask.{ToldTask}
use Rattle.tj_findings.specs.declared.finding.Wait.{Wait}

module _ (lines : List TraceLine) where
  -- what is told as a failure of a task
  failed_of : (l : TraceLine) (e : Ending) (f : Finding) → IsIn f (failed_with lines l e)
      → (c : Cause) × (e ≡ ending.Failed c) × (f ≡ told_failure lines l c)
  failed_of l (ending.Done v) f i = absurd i
  failed_of l (ending.Failed cause.Arith) f (inl e) = (cause.Arith, refl, e)
  failed_of l (ending.Failed cause.Kind) f (inl e) = (cause.Kind, refl, e)
  failed_of l (ending.Failed cause.Steps) f (inl e) = (cause.Steps, refl, e)
  failed_of l (ending.Failed (cause.Owner q)) f (inl e) = (cause.Owner q, refl, e)
  failed_of l (ending.Failed (cause.Order q)) f (inl e) = (cause.Order q, refl, e)
  failed_of l (ending.Failed cause.Arith) f (inr i) = absurd i
  failed_of l (ending.Failed cause.Kind) f (inr i) = absurd i
  failed_of l (ending.Failed cause.Steps) f (inr i) = absurd i
  failed_of l (ending.Failed (cause.Owner q)) f (inr i) = absurd i
  failed_of l (ending.Failed (cause.Order q)) f (inr i) = absurd i
  failed_of l (ending.Failed (cause.Broken q)) f i = absurd i
  failed_of l (ending.Waits q) f i = absurd i

  -- what is told as owed is a debt
  owed_of : (l : TraceLine) (b : Bool) (f : Finding) → IsIn f (cond b (map (told_debt lines l) l.line.owes) [])
      → IsDebt f
  owed_of l true f i = let q = in_map (told_debt lines l) f l.line.owes i in subst IsDebt (sym q.2) tt
  owed_of l false f i = absurd i

  -- a told cycle tells cells of its links
  cells_in : (ks : List Link) (q : Name) → IsIn q (cells_of (flat_map (link_wait lines) ks))
      → IsIn q (map (λ (k : Link). k.cell) ks)
  cells_in [] q i = absurd i
  cells_in (k ∷ ks) q i = by (cells_in ks q) (line_of lines k.task) i where
    by : (IsIn q (cells_of (flat_map (link_wait lines) ks)) → IsIn q (map (λ (k : Link). k.cell) ks))
        → (o : Option TraceLine) → IsIn q (cells_of (wait_by lines k.cell o ++ flat_map (link_wait lines) ks))
        → IsIn q (map (λ (k : Link). k.cell) (k ∷ ks))
    by rest None j = inr (rest j)
    by rest (Some l) (inl e) = inl e
    by rest (Some l) (inr j) = inr (rest j)

  -- a cycle with its rank: the first cycle in which a task waits for one of its cells has no greater one
  pub cycle_of : (n : ℕ) (cs : List (List Link)) (r : ℕ) (f : Finding)
      → IsIn (r, f) (ranked_from n (map (told_cycle lines) cs))
      → (c : List Link) × (f ≡ told_cycle lines c) × (n ≤ r)
      × ((q : Name) → has q (map (λ (k : Link). k.cell) c) ≡ true
      → (k : ℕ) × (awaited_from n cs q ≡ Some k) × (k ≤ r))
  cycle_of n [] r f i = absurd i
  cycle_of n (c ∷ cs) r f (inl e) =
      let same : r ≡ n = ap (λ (z : ℕ × Finding). z.0) e in
      let least : n ≤ r = omega (arith, same) in (
        c,
        ap (λ (z : ℕ × Finding). z.1) e,
        least,
        (λ q h. (
          n,
          ap (λ b. cond b (Some n) (position_from (λ links. has q (map (λ (k : Link). k.cell) links)) (n + 1) cs)) h,
          least,
        )),
      )
  cycle_of n (c ∷ cs) r f (inr i) =
      let rest = cycle_of (suc n) cs r f i in
      let more = rest.2 in
      let step : suc n ≡ n + 1 = omega arith in (
        rest.0,
        rest.1,
        omega (arith, more),
        (λ q h. by q (omega (arith, more))
            (subst (λ z. (k : ℕ) × (awaited_from z cs q ≡ Some k) × (k ≤ r)) step (rest.3 q h))
            (has q (map (λ (k : Link). k.cell) c))),
      ) where
        by : (q : Name) → n ≤ r → ((k : ℕ) × (awaited_from (n + 1) cs q ≡ Some k) × (k ≤ r)) → (b : Bool)
            → (k : ℕ) × (cond b (Some n) (awaited_from (n + 1) cs q) ≡ Some k) × (k ≤ r)
        by q least m true = (n, refl, least)
        by q least m false = m

module _ (places : List PlacesOfTask) (lines : List TraceLine) (cycles : List (List Link)) where
  abbrev pub failures : List (ℕ × Finding)
  failures = flat_map (λ l. map (λ f. (rank places cycles l, f)) (failed lines l)) lines

  abbrev pub told_cycles : List (ℕ × Finding)
  told_cycles = ranked_from 0 (map (told_cycle lines) cycles)

  abbrev pub debts : List (ℕ × Finding)
  debts = map (λ f. (length cycles, f)) (flat_map (owed lines true) lines)

  abbrev pub all : List (ℕ × Finding)
  all = ranked_causes places lines cycles

  pub of_failure : (r : ℕ) (f : Finding) → IsIn (r, f) failures
      → (l : TraceLine) × (r ≡ rank places cycles l)
      × ((c : Cause) × (l.line.ending ≡ ending.Failed c) × (f ≡ told_failure lines l c))
  of_failure r f i =
      let l = from_flat_map (λ l. map (λ f. (rank places cycles l, f)) (failed lines l)) (r, f) lines i in
      let g = in_map (λ (f : Finding). (rank places cycles l.0, f)) (r, f) (failed lines l.0) l.2 in
      let c = failed_of lines l.0 l.0.line.ending g.0 g.1 in
      (l.0, ap (λ (z : ℕ × Finding). z.0) g.2, (c.0, c.1, ap (λ (z : ℕ × Finding). z.1) g.2 ∙ c.2))

  pub of_debt : (r : ℕ) (f : Finding) → IsIn (r, f) debts → (r ≡ length cycles) × IsDebt f
  of_debt r f i =
      let g = in_map (λ (f : Finding). (length cycles, f)) (r, f) (flat_map (owed lines true) lines) i in
      let l = from_flat_map (owed lines true) g.0 lines g.1 in (
        ap (λ (z : ℕ × Finding). z.0) g.2,
        subst IsDebt (sym (ap (λ (z : ℕ × Finding). z.1) g.2))
            (owed_of lines l.0 (is_owing true l.0.line.ending) g.0 l.2),
      )

  -- neither a failure nor a cycle is a debt
  no_debt : (r : ℕ) (f : Finding) → IsIn (r, f) (failures ++ told_cycles) → IsDebt f → ⊥
  no_debt r f i d = by (in_either (r, f) failures told_cycles i) where
    by : IsIn (r, f) failures ⊎ IsIn (r, f) told_cycles → ⊥
    by (inl j) = let l = of_failure r f j in subst IsDebt l.2.2 d
    by (inr j) = let c = cycle_of lines 0 cycles r f j in subst IsDebt c.1 d

  pub debt_last : (x y : Finding) → StandsBefore x y (causes places lines cycles) → IsDebt x → IsDebt y
  debt_last x y p d = by (ranked_before all x y (suc (length cycles)) p) where
    last : (r s : ℕ) → r < s → IsIn (s, y) all
        → IsIn (r, x) (failures ++ told_cycles) ⊎ IsIn (r, x) debts → IsDebt y
    last r s less j (inl i) = absurd (no_debt r x i d)
    last r s less j (inr i) =
        let same = (of_debt r x i).0 in
        let most = below_in (suc (length cycles)) all (all_below places lines cycles) (s, y) j in
        absurd (omega (arith, same, most))

    along : (r : ℕ) → StandsBefore (r, x) (r, y) (failures ++ told_cycles)
        ⊎ ((IsIn (r, x) (failures ++ told_cycles) × IsIn (r, y) debts) ⊎ StandsBefore (r, x) (r, y) debts)
        → IsDebt y
    along r (inl q) = absurd (no_debt r x (first_in (r, x) (r, y) (failures ++ told_cycles) q) d)
    along r (inr (inl q)) = (of_debt r y q.1).1
    along r (inr (inr q)) = (of_debt r y (second_in (r, x) (r, y) debts q)).1

    by : AreRanked all x y → IsDebt y
    by (lower r s less i j) = last r s less j (in_either (r, x) (failures ++ told_cycles) debts i)
    by (alike r q) = along r (before_either (r, x) (r, y) (failures ++ told_cycles) debts q)

  -- a set that was refused has the rank of the first cycle in which a task waits for the cell
  rank_is : (l : TraceLine) (q : Name) (k : ℕ) → ask_spot_of (slice_get places l.decl) l.at ≡ None
      → l.line.ending ≡ ending.Failed (cause.Owner q) → awaited_from 0 cycles q ≡ Some k → rank places cycles l ≡ k
  rank_is l q k none is first =
      ap (λ o. unwrap_or (option_and_then (awaited_from 0 cycles) (cond (is_some o) None (not_owned l.line.ending)))
      (length cycles)) none
      ∙ ap (λ e. unwrap_or (option_and_then (awaited_from 0 cycles) (not_owned e)) (length cycles)) is
      ∙ ap (λ o. unwrap_or o (length cycles)) first

  module _ (waits : List Wait) (t : ToldTask) (q : Name) (m : Option Maker) where
    abbrev cycle : Finding
    cycle = finding.Cycle waits

    abbrev failure : Finding
    failure = finding.Failed t (cause.Owner q) m

    no_failure : (r : ℕ) → IsIn (r, cycle) failures → ⊥
    no_failure r i =
        let l = of_failure r cycle i in
        let e : cycle ≡ finding.Failed _ _ _ = l.2.2 in cc

    no_cycle : (r : ℕ) → IsIn (r, failure) told_cycles → ⊥
    no_cycle r i =
        let c = cycle_of lines 0 cycles r failure i in
        let e : failure ≡ finding.Cycle _ = c.1 in cc

    pub cycle_there : (r : ℕ) → IsIn (r, cycle) all → IsIn (r, cycle) told_cycles
    cycle_there r i = by (in_either (r, cycle) (failures ++ told_cycles) debts i) where
      first : IsIn (r, cycle) failures ⊎ IsIn (r, cycle) told_cycles → IsIn (r, cycle) told_cycles
      first (inl j) = absurd (no_failure r j)
      first (inr j) = j

      by : IsIn (r, cycle) (failures ++ told_cycles) ⊎ IsIn (r, cycle) debts → IsIn (r, cycle) told_cycles
      by (inl j) = first (in_either (r, cycle) failures told_cycles j)
      by (inr j) = absurd ((of_debt r cycle j).1)

    failure_there : (r : ℕ) → IsIn (r, failure) all → IsIn (r, failure) failures
    failure_there r i = by (in_either (r, failure) (failures ++ told_cycles) debts i) where
      first : IsIn (r, failure) failures ⊎ IsIn (r, failure) told_cycles → IsIn (r, failure) failures
      first (inl j) = j
      first (inr j) = absurd (no_cycle r j)

      by : IsIn (r, failure) (failures ++ told_cycles) ⊎ IsIn (r, failure) debts → IsIn (r, failure) failures
      by (inl j) = first (in_either (r, failure) failures told_cycles j)
      by (inr j) = absurd ((of_debt r failure j).1)

    module _ (none : StoppedAtNoAsk places t) (awaited : IsIn q (cells_of waits)) where
      -- the failure has no greater rank than the cycle
      not_lower : (r s : ℕ) → r < s → IsIn (r, cycle) told_cycles → IsIn (s, failure) failures → ⊥
      not_lower r s less i j =
          let c = cycle_of lines 0 cycles r cycle i in
          let told : waits ≡ flat_map (link_wait lines) c.0 = same_waits waits (flat_map (link_wait lines) c.0) c.1 in
          let there = cells_in lines c.0 q (subst (λ z. IsIn q (cells_of z)) told awaited) in
          let cells = map (λ (k : Link). k.cell) c.0 in
          let first = c.3 q (has_of_times q cells (times_of_in q cells there)) in
          let l = of_failure s failure j in
          let parts = same_parts t (told_task lines l.0) (cause.Owner q) l.2.0 m _ l.2.2 in
          let at = subst (StoppedAtNoAsk places) parts.0 none in
          let is = rank_is l.0 q first.0 at (l.2.1 ∙ ap ending.Failed (sym parts.1)) first.1 in
          let low = first.2 in
          let rank = l.1 in
          omega (arith, is, low, rank)
        where
          same_waits : (a b : List Wait) → finding.Cycle a ≡ finding.Cycle b → a ≡ b
          same_waits a b e = cc

          same_parts : (a b : ToldTask) (c d : Cause) (x y : Option Maker)
              → finding.Failed a c x ≡ finding.Failed b d y → (a ≡ b) × (c ≡ d)
          same_parts a b c d x y e = (cc, cc)

      pub refused_before : StandsBefore cycle failure (causes places lines cycles) → ⊥
      refused_before p = by (ranked_before all cycle failure (suc (length cycles)) p) where
        first : (r : ℕ) → StandsBefore (r, cycle) (r, failure) failures
            ⊎ ((IsIn (r, cycle) failures × IsIn (r, failure) told_cycles)
            ⊎ StandsBefore (r, cycle) (r, failure) told_cycles) → ⊥
        first r (inl z) = no_failure r (first_in (r, cycle) (r, failure) failures z)
        first r (inr (inl z)) = no_failure r z.0
        first r (inr (inr z)) = no_cycle r (second_in (r, cycle) (r, failure) told_cycles z)

        along : (r : ℕ) → StandsBefore (r, cycle) (r, failure) (failures ++ told_cycles)
            ⊎ ((IsIn (r, cycle) (failures ++ told_cycles) × IsIn (r, failure) debts)
            ⊎ StandsBefore (r, cycle) (r, failure) debts) → ⊥
        along r (inl z) = first r (before_either (r, cycle) (r, failure) failures told_cycles z)
        along r (inr (inl z)) = (of_debt r failure z.1).1
        along r (inr (inr z)) = (of_debt r failure (second_in (r, cycle) (r, failure) debts z)).1

        by : AreRanked all cycle failure → ⊥
        by (lower r s less i j) = not_lower r s less (cycle_there r i) (failure_there s j)
        by (alike r z) = along r (before_either (r, cycle) (r, failure) (failures ++ told_cycles) debts z)
