-- A failure is told before a cycle only if its set was refused for a cell for which a task waits: of this cycle, or of
-- one told before it.
use Rattle.std.proofs.Common.{◌≡◌, ℕ, zero, suc, ◌+◌, ◌<◌, ◌≤◌, Bool, true, false, cond, List, [], ◌∷◌, ◌++◌, length}
use Rattle.std.proofs.Common.{map, nat_eq, eq-eqb, Option, Some, None, refl, sym, ap, subst, ◌∙◌, ◌⊎◌, inl, inr, arith}
use native.Mathlib.Decide.{dec_le}
use mathlib.Core.Logic.{dite}
use Rattle.std.specs.Prelude.{option_and_then, slice_get, unwrap_or}
use Rattle.std.specs.List.{filter, flat_map, range_with_len}
use Rattle.std.specs.Option.{is_some}
use Rattle.std.proofs.lemmas.List.{length-map}
use Rattle.tj_base.specs.ForkOrder.{Name}
use Rattle.tj_base.specs.declared.cause.Cause.{Cause}
use Rattle.tj_base.specs.declared.cause.Cause.TheVariants as cause
use Rattle.tj_body.specs.Names.{has}
use Rattle.tj_body.specs.Points.{IsIn}
use Rattle.tj_body.proofs.Lists.{in_either, in_flat_map, in_left, in_right}
use Rattle.tj_lex.specs.declared.place.Place.{Place}
use Rattle.tj_mean.specs.declared.outcome.Ending.{Ending}
use Rattle.tj_mean.specs.declared.outcome.Ending.TheVariants as ending
use Rattle.tj_mean.specs.declared.outcome.Link.{Link}
use Rattle.tj_mean.proofs.Lists.Elements.{in_of_has}
use Rattle.tj_syntax.specs.PlacesOf.{PlacesOfTask}
use Rattle.tj_trace.specs.Lookups.{ask_spot_of}
use Rattle.tj_trace.specs.declared.line.Maker.{Maker}
use Rattle.tj_trace.specs.declared.line.TraceLine.{TraceLine}
use Rattle.tj_forest.proofs.InTurn.{all, cycle_of, cycle_there, debt_last, debts, failures, of_debt, of_failure}
use Rattle.tj_forest.proofs.InTurn.{refused_before, told_cycles}
use Rattle.tj_forest.proofs.Permuted.{of_rank}
use Rattle.tj_forest.proofs.RanksBefore.{AreRanked, alike, first_in, lower, ranked_before, second_in}
use Rattle.tj_forest.specs.CauseOrder.{AreInTurn, StandsBefore, StoppedAtNoAsk, cells_of}
use Rattle.tj_findings.specs.Findings.{link_wait, told_cycle, told_task, wait_by}
use Rattle.tj_findings.specs.Forests.{awaited_from, causes, not_owned, rank, ranked_from}
use Rattle.tj_findings.specs.Searches.{line_of}
use Rattle.tj_findings.specs.declared.finding.Finding.{Finding}
use Rattle.tj_findings.specs.declared.finding.Finding.TheVariants as finding
use Rattle.tj_findings.specs.declared.finding.ToldTask.{ToldTask}
use Rattle.tj_findings.specs.declared.finding.Wait.{Wait}

-- a number is in a range
in_range : (i a n : ℕ) → a ≤ i → i < a + n → IsIn i (range_with_len a n)
in_range i a zero least less = absurd (omega (arith, least, less))
in_range i a (suc n) least less =
    dite (dec_le (a + 1) i) (λ more. inr (in_range i (a + 1) n more (omega (arith, less))))
    (λ no. let same : i ≡ a = omega (arith, least, no) in inl same)

module _ {A : Type 0} where
  -- an element of the first list stands before one of the second
  apart : (x y : A) (xs ys : List A) → IsIn x xs → IsIn y ys → StandsBefore x y (xs ++ ys)
  apart x y [] ys i j = absurd i
  apart x y (z ∷ zs) ys (inl e) j = inl (e, behind zs) where
    behind : (zs : List A) → IsIn y (zs ++ ys)
    behind [] = j
    behind (z ∷ zs) = inr (behind zs)
  apart x y (z ∷ zs) ys (inr i) j = inr (apart x y zs ys i j)

  -- what stands before another stands there with more in front
  with_front : (x y : A) (xs ys : List A) → StandsBefore x y ys → StandsBefore x y (xs ++ ys)
  with_front x y [] ys p = p
  with_front x y (z ∷ zs) ys p = inr (with_front x y zs ys p)

  -- what has a rank is among what has it
  of_its_rank : (i : ℕ) (fs : List (ℕ × A)) (x : A) → IsIn (i, x) fs → IsIn x (of_rank i fs)
  of_its_rank i [] x j = absurd j
  of_its_rank i ((r, z) ∷ fs) x (inl e) =
      let same : r ≡ i = sym (ap (λ (k : ℕ × A). k.0) e) in
      subst (λ b. IsIn x (map (λ (y : ℕ × A). y.1) (cond b ((r, z) ∷ filter (λ y. nat_eq y.0 i) fs)
      (filter (λ y. nat_eq y.0 i) fs)))) (sym (eq-eqb r i same)) (inl (ap (λ (k : ℕ × A). k.1) e))
  of_its_rank i ((r, z) ∷ fs) x (inr j) = by (nat_eq r i) (of_its_rank i fs x j) where
    by : (b : Bool) → IsIn x (of_rank i fs)
        → IsIn x (map (λ (y : ℕ × A). y.1) (cond b ((r, z) ∷ filter (λ y. nat_eq y.0 i) fs)
        (filter (λ y. nat_eq y.0 i) fs)))
    by true k = inr k
    by false k = k

  -- what has a lower rank stands before what has a higher one
  ranks_apart : (fs : List (ℕ × A)) (x y : A) (r s a n : ℕ) → a ≤ r → r < s → s < a + n → IsIn (r, x) fs
      → IsIn (s, y) fs → StandsBefore x y (flat_map (λ i. of_rank i fs) (range_with_len a n))
  ranks_apart fs x y r s a zero least less most i j = absurd (omega (arith, least, less, most))
  ranks_apart fs x y r s a (suc n) least less most i j =
      dite (dec_le (a + 1) r)
      (λ more. with_front x y (of_rank a fs) later
      (ranks_apart fs x y r s (a + 1) n more less (omega (arith, most)) i j))
      (λ no. let same : r ≡ a = omega (arith, least, no) in
      let further : a + 1 ≤ s = omega (arith, same, less) in
      apart x y (of_rank a fs) later (of_its_rank a fs x (subst (λ k. IsIn (k, x) fs) same i))
      (in_flat_map (λ i. of_rank i fs) s y (range_with_len (a + 1) n)
      (in_range s (a + 1) n further (omega (arith, most))) (of_its_rank s fs y j)))
    where
      later : List A
      later = flat_map (λ i. of_rank i fs) (range_with_len (a + 1) n)

module _ (lines : List TraceLine) where
  -- each link has a line
  abbrev AreFound : List Link → Type 0
  AreFound ks = (k : Link) → IsIn k ks → (l : TraceLine) × (line_of lines k.task ≡ Some l) × (l.line.name ≡ k.task)

  -- then a told cycle tells the cells of all links
  cell_told : (ks : List Link) → AreFound ks → (q : Name) → IsIn q (map (λ (k : Link). k.cell) ks)
      → IsIn q (cells_of (flat_map (link_wait lines) ks))
  cell_told [] there q i = absurd i
  cell_told (k ∷ ks) there q i =
      let l = there k (inl refl) in
      subst (λ o. IsIn q (cells_of (wait_by lines k.cell o ++ flat_map (link_wait lines) ks))) (sym l.1)
      (by (cell_told ks (λ m n. there m (inr n)) q) i)
    where
      by : (IsIn q (map (λ (k : Link). k.cell) ks) → IsIn q (cells_of (flat_map (link_wait lines) ks)))
          → (q ≡ k.cell) ⊎ IsIn q (map (λ (k : Link). k.cell) ks)
          → (q ≡ k.cell) ⊎ IsIn q (cells_of (flat_map (link_wait lines) ks))
      by rest (inl e) = inl e
      by rest (inr j) = inr (rest j)

  -- the first cycle in which a task waits for the cell, with its rank
  awaited_cycle : (n : ℕ) (cs : List (List Link)) (q : Name) (k : ℕ) → awaited_from n cs q ≡ Some k
      → (c : List Link) × IsIn c cs × IsIn q (map (λ (k : Link). k.cell) c)
      × IsIn (k, told_cycle lines c) (ranked_from n (map (told_cycle lines) cs))
  awaited_cycle n [] q k e = absurd (cc)
  awaited_cycle n (c ∷ cs) q k e = by (has q cells) refl (awaited_cycle (suc n) cs q k) e where
    cells : List Name
    cells = map (λ (k : Link). k.cell) c

    Found : Type 0
    Found = (d : List Link) × IsIn d (c ∷ cs) × IsIn q (map (λ (k : Link). k.cell) d)
        × IsIn (k, told_cycle lines d) (ranked_from n (map (told_cycle lines) (c ∷ cs)))

    some_number : (n k : ℕ) → Some n ≡ Some k → k ≡ n
    some_number n k e = cc

    by : (b : Bool) → has q cells ≡ b
        → (awaited_from (suc n) cs q ≡ Some k → (d : List Link) × IsIn d cs
        × IsIn q (map (λ (k : Link). k.cell) d)
        × IsIn (k, told_cycle lines d) (ranked_from (suc n) (map (told_cycle lines) cs)))
        → cond b (Some n) (awaited_from (n + 1) cs q) ≡ Some k → Found
    by true is rest e =
        let same : k ≡ n = some_number n k e in
        (c, inl refl, in_of_has q cells is, inl (ap (λ i. (i, told_cycle lines c)) same))
    by false is rest e =
        let next : n + 1 ≡ suc n = omega arith in
        let r = rest (ap (λ i. awaited_from i cs q) (sym next) ∙ e) in
        (r.0, inr r.1, r.2, inr r.3)

-- cycles have ranks below their number
few : (n : ℕ) (fs : List Finding) (r : ℕ) (f : Finding) → IsIn (r, f) (ranked_from n fs) → r < n + length fs
few n [] r f i = absurd i
few n (g ∷ gs) r f (inl e) = let same : r ≡ n = ap (λ (z : ℕ × Finding). z.0) e in omega (arith, same)
few n (g ∷ gs) r f (inr i) = let h = few (suc n) gs r f i in omega (arith, h)

-- each has another one
least_rank : (n : ℕ) (fs : List Finding) (r : ℕ) (f : Finding) → IsIn (r, f) (ranked_from n fs) → n ≤ r
least_rank n [] r f i = absurd i
least_rank n (g ∷ gs) r f (inl e) = let same : r ≡ n = ap (λ (z : ℕ × Finding). z.0) e in omega (arith, same)
least_rank n (g ∷ gs) r f (inr i) = let h = least_rank (suc n) gs r f i in omega (arith, h)

one_ranked : (n : ℕ) (fs : List Finding) (r : ℕ) (f g : Finding) → IsIn (r, f) (ranked_from n fs)
    → IsIn (r, g) (ranked_from n fs) → f ≡ g
one_ranked n [] r f g i j = absurd i
one_ranked n (h ∷ hs) r f g (inl d) (inl e) =
    ap (λ (z : ℕ × Finding). z.1) d ∙ sym (ap (λ (z : ℕ × Finding). z.1) e)
one_ranked n (h ∷ hs) r f g (inl d) (inr j) =
    let same : r ≡ n = ap (λ (z : ℕ × Finding). z.0) d in
    let more = least_rank (suc n) hs r g j in absurd (omega (arith, same, more))
one_ranked n (h ∷ hs) r f g (inr i) (inl e) =
    let same : r ≡ n = ap (λ (z : ℕ × Finding). z.0) e in
    let more = least_rank (suc n) hs r f i in absurd (omega (arith, same, more))
one_ranked n (h ∷ hs) r f g (inr i) (inr j) = one_ranked (suc n) hs r f g i j

module _ (places : List PlacesOfTask) (lines : List TraceLine) (cycles : List (List Link)) where
  -- a failure with the rank of a cycle is of a set that was refused
  refused_low : (l : TraceLine) (c : Cause) → l.line.ending ≡ ending.Failed c → rank places cycles l < length cycles
      → (ask_spot_of (slice_get places l.decl) l.at ≡ None)
      × ((q : Name) × (c ≡ cause.Owner q) × (awaited_from 0 cycles q ≡ Some (rank places cycles l)))
  refused_low l c is less = by (ask_spot_of (slice_get places l.decl) l.at) refl where
    of_number : Option ℕ → ℕ
    of_number o = unwrap_or o (length cycles)

    ranked : Option Place → Ending → ℕ
    ranked o e = of_number (option_and_then (awaited_from 0 cycles) (cond (is_some o) None (not_owned e)))

    there : (q : Name) (n : ℕ) (o : Option ℕ) → awaited_from 0 cycles q ≡ o → of_number o ≡ n → n < length cycles
        → awaited_from 0 cycles q ≡ Some n
    there q n None e same less = absurd (omega (arith, same, less))
    there q n (Some k) e same less = e ∙ ap (λ i. Some i) same

    owned : (c : Cause) (n : ℕ) → ranked None (ending.Failed c) ≡ n → n < length cycles
        → (q : Name) × (c ≡ cause.Owner q) × (awaited_from 0 cycles q ≡ Some n)
    owned cause.Arith n same less = absurd (omega (arith, same, less))
    owned cause.Kind n same less = absurd (omega (arith, same, less))
    owned cause.Steps n same less = absurd (omega (arith, same, less))
    owned (cause.Owner q) n same less = (q, refl, there q n (awaited_from 0 cycles q) refl same less)
    owned (cause.Broken q) n same less = absurd (omega (arith, same, less))
    owned (cause.Order q) n same less = absurd (omega (arith, same, less))

    by : (o : Option Place) → ask_spot_of (slice_get places l.decl) l.at ≡ o
        → (ask_spot_of (slice_get places l.decl) l.at ≡ None)
        × ((q : Name) × (c ≡ cause.Owner q) × (awaited_from 0 cycles q ≡ Some (rank places cycles l)))
    by None e =
        let own : rank places cycles l ≡ ranked None (ending.Failed c)
        = ap (λ o. ranked o l.line.ending) e ∙ ap (λ z. ranked None z) is in
        (e, owned c (rank places cycles l) (sym own) less)
    by (Some p) e =
        let own : rank places cycles l ≡ length cycles = ap (λ o. ranked o l.line.ending) e in
        absurd (omega (arith, own, less))

  module _ (found : (c : List Link) → IsIn c cycles → AreFound lines c) (t : ToldTask) (c : Cause) (m : Option Maker)
      (waits : List Wait) where
    abbrev failure : Finding
    failure = finding.Failed t c m

    abbrev cycle : Finding
    cycle = finding.Cycle waits

    abbrev told : List Finding
    told = causes places lines cycles

    abbrev IsRefusedFirst : Type 0
    IsRefusedFirst = StoppedAtNoAsk places t × ((q : Name) × (c ≡ cause.Owner q) × ((vs : List Wait)
        × IsIn q (cells_of vs)
        × ((finding.Cycle vs ≡ finding.Cycle waits) ⊎ StandsBefore (finding.Cycle vs) (finding.Cycle waits) told)))

    failure_in : (r : ℕ) → IsIn (r, failure) (all places lines cycles)
        → IsIn (r, failure) (failures places lines cycles)
    failure_in r i = by (in_either (r, failure) (failures places lines cycles ++ told_cycles places lines cycles)
        (debts places lines cycles) i) where
          first : IsIn (r, failure) (failures places lines cycles) ⊎ IsIn (r, failure) (told_cycles places lines cycles)
              → IsIn (r, failure) (failures places lines cycles)
          first (inl j) = j
          first (inr j) =
              let d = cycle_of lines 0 cycles r failure j in
              let e : failure ≡ finding.Cycle _ = d.1 in absurd (cc)

          by : IsIn (r, failure) (failures places lines cycles ++ told_cycles places lines cycles)
              ⊎ IsIn (r, failure) (debts places lines cycles) → IsIn (r, failure) (failures places lines cycles)
          by (inl j) = first (in_either (r, failure) (failures places lines cycles)
              (told_cycles places lines cycles) j)
          by (inr j) = absurd ((of_debt places lines cycles r failure j).1)

    -- what the ranks of both say
    of_ranks : (r s : ℕ) → r ≤ s → IsIn (r, failure) (all places lines cycles)
        → IsIn (s, cycle) (all places lines cycles) → IsRefusedFirst
    of_ranks r s less i j =
        let there = cycle_there places lines cycles waits t [] m s j in
        let most = few 0 (map (told_cycle lines) cycles) s cycle there in
        let l = of_failure places lines cycles r failure (failure_in r i) in
        let parts = same_parts t (told_task lines l.0) c l.2.0 m _ l.2.2 in
        let low : rank places cycles l.0 < length cycles
        = omega (arith, less, most, l.1, length-map cycles (told_cycle lines)) in
        let set = refused_low l.0 l.2.0 l.2.1 low in
        let d = awaited_cycle lines 0 cycles set.1.0 (rank places cycles l.0) set.1.2 in
        let at : IsIn (r, told_cycle lines d.0) (told_cycles places lines cycles)
        = subst (λ k. IsIn (k, told_cycle lines d.0) (told_cycles places lines cycles)) (sym l.1) d.3 in (
          subst (StoppedAtNoAsk places) (sym parts.0) set.0,
          (
            set.1.0,
            parts.1 ∙ set.1.1,
            (
              flat_map (link_wait lines) d.0,
              cell_told lines d.0 (found d.0 d.1) set.1.0 d.2,
              which r s less (told_cycle lines d.0) at there (omega (arith, most, length-map cycles (told_cycle lines))),
            ),
          ),
        )
      where
        same_parts : (a b : ToldTask) (c d : Cause) (x y : Option Maker)
            → finding.Failed a c x ≡ finding.Failed b d y → (a ≡ b) × (c ≡ d)
        same_parts a b c d x y e = (cc, cc)

        in_all : (r : ℕ) (f : Finding) → IsIn (r, f) (told_cycles places lines cycles)
            → IsIn (r, f) (all places lines cycles)
        in_all r f i = in_left (r, f) (failures places lines cycles ++ told_cycles places lines cycles)
            (debts places lines cycles)
            (in_right (r, f) (failures places lines cycles) (told_cycles places lines cycles) i)

        which : (r s : ℕ) → r ≤ s → (f : Finding) → IsIn (r, f) (told_cycles places lines cycles)
            → IsIn (s, cycle) (told_cycles places lines cycles) → s < suc (length cycles)
            → (f ≡ cycle) ⊎ StandsBefore f cycle told
        which r s less f at there most =
            dite (dec_le (r + 1) s)
            (λ more. inr (ranks_apart (all places lines cycles) f cycle r s 0 (suc (length cycles)) (omega arith)
            (omega (arith, more)) (omega (arith, most)) (in_all r f at) (in_all s cycle there)))
            (λ no. let same : s ≡ r = omega (arith, less, no) in
            inl (one_ranked 0 (map (told_cycle lines) cycles) r f cycle at
            (subst (λ k. IsIn (k, cycle) (told_cycles places lines cycles)) same there)))

    cycle_first : StandsBefore failure cycle told → IsRefusedFirst
    cycle_first p =
        by (ranked_before (all places lines cycles) failure cycle (suc (length cycles)) p) where
          by : AreRanked (all places lines cycles) failure cycle → IsRefusedFirst
          by (lower r s less i j) = of_ranks r s (omega (arith, less)) i j
          by (alike r z) = of_ranks r r (omega arith) (first_in (r, failure) (r, cycle) (all places lines cycles) z)
              (second_in (r, failure) (r, cycle) (all places lines cycles) z)

  -- the causes are in turn
  pub in_turn : ((c : List Link) → IsIn c cycles → AreFound lines c) → AreInTurn places (causes places lines cycles)
  in_turn found = record {
    debts_last = debt_last places lines cycles;
    refused_first = λ waits t q m p none awaited. refused_before places lines cycles waits t q m none awaited p;
    cycles_first = cycle_first found;
  }
