-- The forest holds the findings of the list, each as often as that does.
use Rattle.std.proofs.Common.{◌≡◌, ℕ, zero, suc, ◌+◌, ◌<◌, ◌≤◌, Bool, true, false, cond, List, [], ◌∷◌, ◌++◌, map}
use Rattle.std.proofs.Common.{length, Option, Some, None, refl, sym, ap, subst, ◌∙◌, arith}
use Rattle.std.specs.Prelude.{option_and_then, unwrap_or}
use Rattle.std.specs.List.{flat_map, fold, position_from, range_with_len}
use Rattle.std.specs.List.Sorted.{IsPermutation}
use Rattle.std.specs.Option.{is_some}
use Rattle.std.proofs.lemmas.List.{append_assoc, append-nil, length-map}
use Rattle.std.proofs.lemmas.List.Sorted.{IsPermutation-append, IsPermutation-append_comm, IsPermutation-cons}
use Rattle.std.proofs.lemmas.List.Sorted.{IsPermutation-refl, IsPermutation-sym, IsPermutation-trans}
use Rattle.tj_base.specs.ForkOrder.{Name}
use Rattle.tj_base.specs.declared.cause.Cause.TheVariants as cause
use Rattle.tj_body.specs.Names.{has}
use Rattle.tj_mean.specs.declared.outcome.Ending.{Ending}
use Rattle.tj_mean.specs.declared.outcome.Ending.TheVariants as ending
use Rattle.tj_mean.specs.declared.outcome.Link.{Link}
use Rattle.tj_syntax.specs.PlacesOf.{PlacesOfTask}
use Rattle.tj_trace.specs.declared.line.TraceLine.{TraceLine}
use Rattle.tj_forest.proofs.Permuted.{AreBelow, map_append, map_parts, permuted_each, permuted_ends, permuted_last, permuted_parts}
use Rattle.tj_forest.proofs.Permuted.{permuted_ranks, permuted_same}
use Rattle.tj_findings.specs.Echoes.{echoed_by}
use Rattle.tj_findings.specs.Findings.{behind, echo, echo_with, failed, findings_of, owed, told_cycle}
use Rattle.tj_findings.specs.Forests.{Forest, Tree, after_chain, after_cycle, after_failure, awaited_from, bare, begun_by}
use Rattle.tj_findings.specs.Forests.{cause_from, causes, consequences, findings_in, findings_of_tree, follow, forest_of}
use Rattle.tj_findings.specs.Forests.{led_to, names_of_cause, put, put_all, put_below, put_named, rank, ranked_causes}
use Rattle.tj_findings.specs.Forests.{ranked_from, refused}
use Rattle.tj_findings.specs.declared.finding.Finding.{Finding}

-- ---- putting a finding

-- the list has as many trees
put_length : (n : ℕ) (f : Finding) (ts : List Tree) → length (put_below n f ts) ≡ length ts
put_length n f [] = refl
put_length zero f (t ∷ ts) = refl
put_length (suc n) f (t ∷ ts) = ap suc (put_length n f ts)

-- below a tree that is there, the finding is one more
put_permuted : (n : ℕ) (f : Finding) (ts : List Tree) → n < length ts
    → IsPermutation (flat_map findings_of_tree (put_below n f ts)) (flat_map findings_of_tree ts ++ f ∷ [])
put_permuted n f [] less = absurd (omega arith)
put_permuted zero f (t ∷ ts) less = permuted_last (t.root ∷ t.below) (flat_map findings_of_tree ts) f
put_permuted (suc n) f (t ∷ ts) less =
    let own = findings_of_tree t in
    let rest = flat_map findings_of_tree ts in
    IsPermutation-trans (own ++ flat_map findings_of_tree (put_below n f ts)) (own ++ (rest ++ f ∷ []))
    ((own ++ rest) ++ f ∷ [])
    (IsPermutation-append own own (flat_map findings_of_tree (put_below n f ts)) (rest ++ f ∷ [])
    (IsPermutation-refl own) (put_permuted n f ts (omega arith)))
    (permuted_same (own ++ (rest ++ f ∷ [])) ((own ++ rest) ++ f ∷ []) (sym (append_assoc own rest (f ∷ []))))

-- the number of a cause is that of one that is there
position_below : {A : Type 0} (p : A → Bool) (n : ℕ) (xs : List A) (i : ℕ) → position_from p n xs ≡ Some i
    → i < n + length xs
position_below p n [] i is = absurd (let z : ◌≡◌ {A = Option ℕ} None (Some i) = is in cc)
position_below p n (x ∷ xs) i is = by (p x) is (position_below p (n + 1) xs i) where
  by : (b : Bool) → cond b (Some n) (position_from p (n + 1) xs) ≡ Some i
      → (position_from p (n + 1) xs ≡ Some i → i < (n + 1) + length xs) → i < n + length (x ∷ xs)
  by true e rest = let same : n ≡ i = some_is n i e in omega arith where
    some_is : (a b : ℕ) → ◌≡◌ {A = Option ℕ} (Some a) (Some b) → a ≡ b
    some_is a b e = cc
  by false e rest = let less = rest e in omega arith

module _ (fs : List Finding) where
  -- the number that is looked up is that of a cause that is there
  number_below : (x : Option Name) (i : ℕ) → option_and_then (cause_from 0 fs) x ≡ Some i → i < length fs
  number_below None i is = absurd (let z : ◌≡◌ {A = Option ℕ} None (Some i) = is in cc)
  number_below (Some x) i is = let less = position_below (λ f. has x (names_of_cause f)) 0 fs i is in omega arith

  -- one finding more
  one_put : (forest : Forest) (k : Option Name × Finding) → length forest.trees ≡ length fs
      → IsPermutation (findings_in (put_named fs forest k)) (findings_in forest ++ k.1 ∷ [])
  one_put forest k long = by (option_and_then (cause_from 0 fs) k.0) (number_below k.0) where
    own : List Finding
    own = flat_map findings_of_tree forest.trees

    by : (n : Option ℕ) → ((i : ℕ) → n ≡ Some i → i < length fs)
        → IsPermutation (findings_in (put n k.1 forest)) (findings_in forest ++ k.1 ∷ [])
    by None below = permuted_same (own ++ (forest.strays ++ k.1 ∷ [])) ((own ++ forest.strays) ++ k.1 ∷ [])
        (sym (append_assoc own forest.strays (k.1 ∷ [])))
    by (Some i) below =
        let less = below i refl in
        let more = flat_map findings_of_tree (put_below i k.1 forest.trees) in
        IsPermutation-trans (more ++ forest.strays) ((own ++ k.1 ∷ []) ++ forest.strays)
        ((own ++ forest.strays) ++ k.1 ∷ [])
        (IsPermutation-append more (own ++ k.1 ∷ []) forest.strays forest.strays
        (put_permuted i k.1 forest.trees (omega arith)) (IsPermutation-refl forest.strays))
        (permuted_last own forest.strays k.1)

  -- there are as many trees
  one_put_length : (forest : Forest) (k : Option Name × Finding) → length forest.trees ≡ length fs
      → length (put_named fs forest k).trees ≡ length fs
  one_put_length forest k long = by (option_and_then (cause_from 0 fs) k.0) where
    by : (n : Option ℕ) → length (put n k.1 forest).trees ≡ length fs
    by None = long
    by (Some i) = put_length i k.1 forest.trees ∙ long

  -- these findings more
  all_put : (ks : List (Option Name × Finding)) (forest : Forest) → length forest.trees ≡ length fs
      → IsPermutation (findings_in (put_all fs forest ks)) (findings_in forest ++ map (λ k. k.1) ks)
  all_put [] forest long = permuted_same (findings_in forest) (findings_in forest ++ [])
      (sym (append-nil (findings_in forest)))
  all_put (k ∷ ks) forest long =
      let next = put_named fs forest k in
      let rest = map (λ (k : Option Name × Finding). k.1) ks in
      IsPermutation-trans (findings_in (put_all fs next ks)) (findings_in next ++ rest)
      (findings_in forest ++ k.1 ∷ rest)
      (all_put ks next (one_put_length forest k long))
      (IsPermutation-trans (findings_in next ++ rest) ((findings_in forest ++ k.1 ∷ []) ++ rest)
      (findings_in forest ++ k.1 ∷ rest)
      (IsPermutation-append (findings_in next) (findings_in forest ++ k.1 ∷ []) rest rest (one_put forest k long)
      (IsPermutation-refl rest))
      (permuted_same ((findings_in forest ++ k.1 ∷ []) ++ rest) (findings_in forest ++ k.1 ∷ rest)
      (append_assoc (findings_in forest) (k.1 ∷ []) rest)))

-- causes alone
bare_findings : (gs : List Finding) → flat_map findings_of_tree (map bare gs) ≡ gs
bare_findings [] = refl
bare_findings (g ∷ gs) = ap (λ z. g ∷ z) (bare_findings gs)

-- ---- ranks

-- the findings of what has ranks
ranked_findings : (n : ℕ) (fs : List Finding) → map (λ (f : ℕ × Finding). f.1) (ranked_from n fs) ≡ fs
ranked_findings n [] = refl
ranked_findings n (f ∷ fs) = ap (λ z. f ∷ z) (ranked_findings (suc n) fs)

-- the findings of what has one rank
one_ranked : (r : ℕ) (fs : List Finding) → map (λ (f : ℕ × Finding). f.1) (map (λ f. (r, f)) fs) ≡ fs
one_ranked r [] = refl
one_ranked r (f ∷ fs) = ap (λ z. f ∷ z) (one_ranked r fs)

below_append : (n : ℕ) (xs ys : List (ℕ × Finding)) → AreBelow n xs → AreBelow n ys → AreBelow n (xs ++ ys)
below_append n [] ys a b = b
below_append n (x ∷ xs) ys a b = (a.0, below_append n xs ys a.1 b)

below_one : (n r : ℕ) (fs : List Finding) → r < n → AreBelow n (map (λ f. (r, f)) fs)
below_one n r [] less = tt
below_one n r (f ∷ fs) less = (less, below_one n r fs less)

below_from : (n i : ℕ) (fs : List Finding) → i + length fs ≤ n → AreBelow (suc n) (ranked_from i fs)
below_from n i [] few = tt
below_from n i (f ∷ fs) few = (omega arith, below_from n (suc i) fs (omega arith))

module _ (places : List PlacesOfTask) (lines : List TraceLine) (cycles : List (List Link)) where
  -- a failure stands before a cycle, or behind the last
  rank_below : (l : TraceLine) → rank places cycles l < suc (length cycles)
  rank_below l = by (refused places l) where
    some : (o : Option ℕ) → ((i : ℕ) → o ≡ Some i → i < length cycles)
        → unwrap_or o (length cycles) < suc (length cycles)
    some None h = omega arith
    some (Some i) h = let less = h i refl in omega arith

    by : (o : Option Name)
        → unwrap_or (option_and_then (awaited_from 0 cycles) o) (length cycles) < suc (length cycles)
    by None = omega arith
    by (Some q) = some (awaited_from 0 cycles q)
        (λ i is. let less = position_below (λ links. has q (map (λ (k : Link). k.cell) links)) 0 cycles i is in
        omega arith)

  below_failures : (ls : List TraceLine)
      → AreBelow (suc (length cycles)) (flat_map (λ l. map (λ f. (rank places cycles l, f)) (failed lines l)) ls)
  below_failures [] = tt
  below_failures (l ∷ ls) = below_append (suc (length cycles))
      (map (λ f. (rank places cycles l, f)) (failed lines l))
      (flat_map (λ l. map (λ f. (rank places cycles l, f)) (failed lines l)) ls)
      (below_one (suc (length cycles)) (rank places cycles l) (failed lines l) (rank_below l)) (below_failures ls)

  pub all_below : AreBelow (suc (length cycles)) (ranked_causes places lines cycles)
  all_below =
      let first : List (ℕ × Finding) = flat_map (λ l. map (λ f. (rank places cycles l, f)) (failed lines l)) lines in
      let second = ranked_from 0 (map (told_cycle lines) cycles) in
      let third : List (ℕ × Finding) = map (λ f. (length cycles, f)) (flat_map (owed lines true) lines) in
      let long = length-map cycles (told_cycle lines) in
      below_append (suc (length cycles)) (first ++ second) third
      (below_append (suc (length cycles)) first second (below_failures lines)
      (below_from (length cycles) 0 (map (told_cycle lines) cycles) (omega arith)))
      (below_one (suc (length cycles)) (length cycles) (flat_map (owed lines true) lines) (omega arith))

  -- ---- the parts of the list

  abbrev pub told_cycles : List Finding
  told_cycles = map (told_cycle lines) cycles

  abbrev waits : List Finding
  waits = flat_map (behind lines cycles) lines

  abbrev pub failures : List Finding
  failures = flat_map (failed lines) lines

  abbrev pub ended_debts : List Finding
  ended_debts = flat_map (owed lines true) lines

  abbrev failed_debts : List Finding
  failed_debts = flat_map (owed lines false) lines

  abbrev echoes : List Finding
  echoes = flat_map (echo lines) lines

  -- the causes are failures, cycles, and what was owed by tasks that ended
  causes_are : map (λ (f : ℕ × Finding). f.1) (ranked_causes places lines cycles)
      ≡ (failures ++ told_cycles) ++ ended_debts
  causes_are =
      let h : ℕ × Finding → Finding = λ f. f.1 in
      let one : TraceLine → List (ℕ × Finding) = λ l. map (λ f. (rank places cycles l, f)) (failed lines l) in
      let first = flat_map one lines in
      let second = ranked_from 0 told_cycles in
      let third = map (λ (f : Finding). (length cycles, f)) ended_debts in
      map_append h (first ++ second) third
      ∙ ap (λ z. z ++ map h third) (map_append h first second)
      ∙ ap (λ z. (map h first ++ map h second) ++ z) (one_ranked (length cycles) ended_debts)
      ∙ ap (λ z. (map h first ++ z) ++ ended_debts) (ranked_findings 0 told_cycles)
      ∙ ap (λ z. (z ++ told_cycles) ++ ended_debts) (map_parts h one lines
      ∙ ap (λ (f : TraceLine → List Finding). flat_map f lines)
      (λ i l. one_ranked (rank places cycles l) (failed lines l) i))

  pub causes_permuted : IsPermutation ((failures ++ told_cycles) ++ ended_debts) (causes places lines cycles)
  causes_permuted = subst (λ z. IsPermutation z (causes places lines cycles)) causes_are
      (permuted_ranks (suc (length cycles)) (ranked_causes places lines cycles) all_below)

  -- ---- consequences

  followed : (x : Option Name) (fs : List Finding) → map (λ (k : Option Name × Finding). k.1) (follow x fs) ≡ fs
  followed x [] = refl
  followed x (f ∷ fs) = ap (λ z. f ∷ z) (followed x fs)

  -- what a task owed that is no echo
  abbrev own_debts : TraceLine → List Finding
  own_debts l = cond (is_some (echoed_by l.line.ending)) [] (owed lines false l)

  -- an echo, and what its task owed
  abbrev chain : TraceLine → List Finding
  chain l = cond (is_some (echoed_by l.line.ending)) (echo lines l ++ owed lines false l) []

  after_failure_is : (l : TraceLine) → map (λ (k : Option Name × Finding). k.1) (after_failure lines l) ≡ own_debts l
  after_failure_is l = by (is_some (echoed_by l.line.ending)) where
    by : (b : Bool) → map (λ (k : Option Name × Finding). k.1)
        (cond b [] (follow (Some l.line.name) (owed lines false l))) ≡ cond b [] (owed lines false l)
    by true = refl
    by false = followed (Some l.line.name) (owed lines false l)

  after_chain_is : (l : TraceLine) → map (λ (k : Option Name × Finding). k.1) (after_chain lines l) ≡ chain l
  after_chain_is l = by (is_some (echoed_by l.line.ending)) where
    by : (b : Bool) → map (λ (k : Option Name × Finding). k.1)
        (cond b (follow (begun_by lines l) (echo lines l ++ owed lines false l)) [])
        ≡ cond b (echo lines l ++ owed lines false l) []
    by true = followed (begun_by lines l) (echo lines l ++ owed lines false l)
    by false = refl

  after_cycle_is : (l : TraceLine)
      → map (λ (k : Option Name × Finding). k.1) (after_cycle lines cycles l) ≡ behind lines cycles l
  after_cycle_is l = followed (Some (led_to lines l).line.name) (behind lines cycles l)

  -- a task that echoes nothing has no echo
  no_echo : (l : TraceLine) (e : Ending) → is_some (echoed_by e) ≡ false → echo_with lines l e ≡ []
  no_echo l (ending.Done v) is = refl
  no_echo l (ending.Failed cause.Arith) is = refl
  no_echo l (ending.Failed cause.Kind) is = refl
  no_echo l (ending.Failed cause.Steps) is = refl
  no_echo l (ending.Failed (cause.Owner q)) is = refl
  no_echo l (ending.Failed (cause.Broken q)) is = absurd (let z : true ≡ false = is in cc)
  no_echo l (ending.Failed (cause.Order q)) is = refl
  no_echo l (ending.Waits q) is = refl

  -- both parts of a task: what it owed as it failed, and its echo
  both_parts : (l : TraceLine) → IsPermutation (own_debts l ++ chain l) (owed lines false l ++ echo lines l)
  both_parts l = by (is_some (echoed_by l.line.ending)) refl where
    debts : List Finding
    debts = owed lines false l

    by : (b : Bool) → is_some (echoed_by l.line.ending) ≡ b
        → IsPermutation (cond b [] debts ++ cond b (echo lines l ++ debts) []) (debts ++ echo lines l)
    by true is = IsPermutation-append_comm (echo lines l) debts
    by false is = permuted_same (debts ++ []) (debts ++ echo lines l)
        (ap (λ z. debts ++ z) (sym (no_echo l l.line.ending is)))

  -- what follows is waits, what failed tasks owed, and echoes
  consequences_permuted :
      IsPermutation (map (λ (k : Option Name × Finding). k.1) (consequences lines cycles))
      (waits ++ (failed_debts ++ echoes))
  consequences_permuted =
      let h : Option Name × Finding → Finding = λ k. k.1 in
      let both : TraceLine → List (Option Name × Finding) =
      λ l. after_cycle lines cycles l ++ after_chain lines l in
      let own = flat_map own_debts lines in
      let chains = flat_map chain lines in
      let told : map h (consequences lines cycles)
      ≡ own ++ flat_map (λ l. behind lines cycles l ++ chain l) lines =
      map_append h (flat_map (after_failure lines) lines) (flat_map both lines)
      ∙ ap (λ z. z ++ map h (flat_map both lines)) (map_parts h (after_failure lines) lines
      ∙ ap (λ (f : TraceLine → List Finding). flat_map f lines) (λ i l. after_failure_is l i))
      ∙ ap (λ z. own ++ z) (map_parts h both lines
      ∙ ap (λ (f : TraceLine → List Finding). flat_map f lines) (λ i l. (map_append h (after_cycle lines cycles l)
      (after_chain lines l) ∙ ap (λ z. z ++ map h (after_chain lines l)) (after_cycle_is l)
      ∙ ap (λ z. behind lines cycles l ++ z) (after_chain_is l)) i)) in
      IsPermutation-trans (map h (consequences lines cycles))
      (own ++ flat_map (λ l. behind lines cycles l ++ chain l) lines) (waits ++ (failed_debts ++ echoes))
      (permuted_same (map h (consequences lines cycles))
      (own ++ flat_map (λ l. behind lines cycles l ++ chain l) lines) told)
      (IsPermutation-trans (own ++ flat_map (λ l. behind lines cycles l ++ chain l) lines)
      (own ++ (waits ++ chains)) (waits ++ (failed_debts ++ echoes))
      (IsPermutation-append own own (flat_map (λ l. behind lines cycles l ++ chain l) lines) (waits ++ chains)
      (IsPermutation-refl own) (permuted_parts (behind lines cycles) chain lines))
      (IsPermutation-trans (own ++ (waits ++ chains)) (waits ++ (own ++ chains)) (waits ++ (failed_debts ++ echoes))
      (moved own chains)
      (IsPermutation-append waits waits (own ++ chains) (failed_debts ++ echoes) (IsPermutation-refl waits) sums)))
    where
      sums : IsPermutation (flat_map own_debts lines ++ flat_map chain lines) (failed_debts ++ echoes)
      sums =
          let own = flat_map own_debts lines in
          let chains = flat_map chain lines in
          let each = flat_map (λ l. own_debts l ++ chain l) lines in
          let debts = flat_map (λ l. owed lines false l ++ echo lines l) lines in
          IsPermutation-trans (own ++ chains) each (failed_debts ++ echoes)
          (IsPermutation-sym each (own ++ chains) (permuted_parts own_debts chain lines))
          (IsPermutation-trans each debts (failed_debts ++ echoes)
          (permuted_each (λ l. own_debts l ++ chain l) (λ l. owed lines false l ++ echo lines l) both_parts lines)
          (permuted_parts (owed lines false) (echo lines) lines))

      moved : (own chains : List Finding) → IsPermutation (own ++ (waits ++ chains)) (waits ++ (own ++ chains))
      moved own chains =
          IsPermutation-trans (own ++ (waits ++ chains)) ((own ++ waits) ++ chains) (waits ++ (own ++ chains))
          (permuted_same (own ++ (waits ++ chains)) ((own ++ waits) ++ chains) (sym (append_assoc own waits chains)))
          (IsPermutation-trans ((own ++ waits) ++ chains) ((waits ++ own) ++ chains) (waits ++ (own ++ chains))
          (IsPermutation-append (own ++ waits) (waits ++ own) chains chains (IsPermutation-append_comm own waits)
          (IsPermutation-refl chains))
          (permuted_same ((waits ++ own) ++ chains) (waits ++ (own ++ chains)) (append_assoc waits own chains)))

  -- the law
  pub holds_each : IsPermutation (findings_of lines cycles) (findings_in (forest_of places lines cycles))
  holds_each =
      let cs = causes places lines cycles in
      let start : Forest = record { trees = map bare cs; strays = [] } in
      let ks = consequences lines cycles in
      let below = map (λ (k : Option Name × Finding). k.1) ks in
      let rest = waits ++ (failed_debts ++ echoes) in
      let abc = ((told_cycles ++ waits) ++ failures) ++ ended_debts in
      let list : findings_of lines cycles ≡ abc ++ (failed_debts ++ echoes) =
      append_assoc abc failed_debts echoes in
      let swapped : IsPermutation abc (((failures ++ told_cycles) ++ ended_debts) ++ waits) =
      IsPermutation-trans abc (((told_cycles ++ failures) ++ waits) ++ ended_debts)
      (((failures ++ told_cycles) ++ ended_debts) ++ waits)
      (IsPermutation-append ((told_cycles ++ waits) ++ failures) ((told_cycles ++ failures) ++ waits) ended_debts
      ended_debts (permuted_ends told_cycles waits failures) (IsPermutation-refl ended_debts))
      (IsPermutation-trans (((told_cycles ++ failures) ++ waits) ++ ended_debts)
      (((told_cycles ++ failures) ++ ended_debts) ++ waits) (((failures ++ told_cycles) ++ ended_debts) ++ waits)
      (permuted_ends (told_cycles ++ failures) waits ended_debts)
      (IsPermutation-append ((told_cycles ++ failures) ++ ended_debts) ((failures ++ told_cycles) ++ ended_debts)
      waits waits (IsPermutation-append (told_cycles ++ failures) (failures ++ told_cycles) ended_debts ended_debts
      (IsPermutation-append_comm told_cycles failures) (IsPermutation-refl ended_debts))
      (IsPermutation-refl waits))) in
      let roots = (failures ++ told_cycles) ++ ended_debts in
      let there : IsPermutation (roots ++ rest) (cs ++ below) =
      IsPermutation-append roots cs rest below causes_permuted
      (IsPermutation-sym below rest consequences_permuted) in
      let planted : IsPermutation (findings_in (forest_of places lines cycles)) (cs ++ below) =
      IsPermutation-trans (findings_in (forest_of places lines cycles)) (findings_in start ++ below) (cs ++ below)
      (all_put cs ks start (length-map cs bare))
      (permuted_same (findings_in start ++ below) (cs ++ below)
      (ap (λ z. z ++ below) (append-nil (flat_map findings_of_tree (map bare cs)) ∙ bare_findings cs))) in
      IsPermutation-trans (findings_of lines cycles) (roots ++ rest) (findings_in (forest_of places lines cycles))
      (IsPermutation-trans (findings_of lines cycles) ((roots ++ waits) ++ (failed_debts ++ echoes)) (roots ++ rest)
      (IsPermutation-trans (findings_of lines cycles) (abc ++ (failed_debts ++ echoes))
      ((roots ++ waits) ++ (failed_debts ++ echoes))
      (permuted_same (findings_of lines cycles) (abc ++ (failed_debts ++ echoes)) list)
      (IsPermutation-append abc (roots ++ waits) (failed_debts ++ echoes) (failed_debts ++ echoes) swapped
      (IsPermutation-refl (failed_debts ++ echoes))))
      (permuted_same ((roots ++ waits) ++ (failed_debts ++ echoes)) (roots ++ rest)
      (append_assoc roots waits (failed_debts ++ echoes))))
      (IsPermutation-trans (roots ++ rest) (cs ++ below) (findings_in (forest_of places lines cycles)) there
      (IsPermutation-sym (findings_in (forest_of places lines cycles)) (cs ++ below) planted))
