-- Statements counted in a map.
use Rattle.std.proofs.Common.{◌≡◌, ℕ, zero, suc, ◌+◌, ◌<◌, ◌≤◌, Bool, true, false, ◌&&◌, nat_eq, cond, List, [], ◌∷◌}
use Rattle.std.proofs.Common.{Option, Some, None, refl, sym, ap, ◌∙◌, subst, arith, get_or, length, take, eqb-true}
use Rattle.std.proofs.lemmas.List.Sums.{count_by-le-length, count_by_more_no, count_by_more_yes}
use Rattle.std.specs.Prelude.{count_by}
use Rattle.std.specs.BTreeMap.{BTreeMap, get, is_at}
use Rattle.std.specs.Cmp.{unsigned_ties}
use Rattle.std.specs.Option.{unwrap_or}
use Rattle.std.specs.Ordering.{is_eq, nat_cmp, ordering_then}
use Rattle.std.specs.declared.cmp.Ordering.{Ordering}
use Rattle.std.specs.declared.cmp.Ordering.TheVariants as ordering
use Rattle.tj_trace.specs.Inner.StatementCounts.{AreCounts, count_in, statement_cmp}
use Rattle.tj_trace.specs.MostOf.{made_count, same_statement}
use Rattle.tj_trace.specs.declared.line.Maker.{Maker}

equal_both : (a b : Ordering) → is_eq (ordering_then a b) ≡ is_eq a && is_eq b
equal_both ordering.Less b = refl
equal_both ordering.Equal b = refl
equal_both ordering.Greater b = refl

nat_eq_sym : (a b : ℕ) → nat_eq a b ≡ nat_eq b a
nat_eq_sym a b = grind arith

-- the map's test of a statement is that they are one
same_key : (x m : Maker) → is_at (statement_cmp (x.decl, x.at)) (m.decl, m.at) ≡ same_statement m x
same_key x m =
    equal_both (nat_cmp x.decl m.decl) (nat_cmp x.at m.at)
    ∙ ap (λ b. b && is_eq (nat_cmp x.at m.at)) (sym (unsigned_ties x.decl m.decl))
    ∙ ap (λ b. nat_eq x.decl m.decl && b) (sym (unsigned_ties x.at m.at))
    ∙ ap (λ b. b && nat_eq x.at m.at) (nat_eq_sym x.decl m.decl)
    ∙ ap (λ b. nat_eq m.decl x.decl && b) (nat_eq_sym x.at m.at)

-- one statement is made as often as itself
same_count : (x m : Maker) → same_statement m x ≡ true → (ks : List Maker) → made_count x ks ≡ made_count m ks
same_count x m e ks = by (nat_eq m.decl x.decl) (nat_eq m.at x.at) refl refl e where
  by : (a b : Bool) → nat_eq m.decl x.decl ≡ a → nat_eq m.at x.at ≡ b → (a && b) ≡ true
      → made_count x ks ≡ made_count m ks
  by true true p q r = ap (λ d. count_by (λ z. nat_eq d z.decl && nat_eq x.at z.at) ks) (sym (eqb-true m.decl x.decl p))
      ∙ ap (λ a. count_by (λ z. nat_eq m.decl z.decl && nat_eq a z.at) ks) (sym (eqb-true m.at x.at q))
  by true false p q r = cc
  by false b p q r = cc

module _ (makers : List Maker) (n : ℕ) (within : n < length makers) (old new : BTreeMap (ℕ × ℕ) ℕ)
    (so_far : AreCounts (take n makers) old) (x : Maker) (is : x ≡ get_or makers n x) (before : ℕ)
    (before_is : before ≡ count_in old x)
    (updates : (q : ℕ × ℕ) → get statement_cmp new q
    ≡ cond (is_at (statement_cmp (x.decl, x.at)) q) (Some (before + 1)) (get statement_cmp old q)) where
  counts_one : (m : Maker) (b : Bool) → same_statement m x ≡ b
      → unwrap_or (cond b (Some (before + 1)) (get statement_cmp old (m.decl, m.at))) 0
      ≡ made_count m (take (n + 1) makers)
  counts_one m true e =
      let a = count_by_more_yes (same_statement m) makers n x within (ap (same_statement m) (sym is) ∙ e) in
      let b = before_is ∙ so_far x in
      let c = same_count x m e (take n makers) in
      omega arith
  counts_one m false e = so_far m
      ∙ sym (count_by_more_no (same_statement m) makers n x within (ap (same_statement m) (sym is) ∙ e))

  -- one more is counted
  pub counts_more : AreCounts (take (n + 1) makers) new
  counts_more m = ap (λ o. unwrap_or o 0) (updates (m.decl, m.at))
      ∙ ap (λ b. unwrap_or (cond b (Some (before + 1)) (get statement_cmp old (m.decl, m.at))) 0) (same_key x m)
      ∙ counts_one m (same_statement m x) refl
