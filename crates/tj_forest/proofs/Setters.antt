-- The lines of the tasks that set promises, entered one by one.
use Rattle.std.proofs.Common.{◌≡◌, ℕ, List, [], ◌∷◌, Option, Some, None, length, Bool, true, false, cond}
use Rattle.std.proofs.Common.{refl, sym, ap, subst, arith}
use Rattle.std.specs.Prelude.{drop, slice_get}
use Rattle.std.proofs.lemmas.List.{drop_all}
use Rattle.tj_base.specs.ForkOrder.{Name}
use Rattle.tj_body.specs.Names.{has}
use Rattle.tj_mean.specs.declared.name_map.NameMap.{NameMap}
use Rattle.tj_trace.specs.declared.line.TraceLine.{TraceLine}
use Rattle.tj_forest.specs.Inner.Numbers.{AreSettersFrom, IsNumberOf, number_in}
use Rattle.tj_findings.specs.Went.{setter_of, sets_by}

-- no line has been entered
pub setters_none : (lines : List TraceLine) (n : ℕ) (m : NameMap ℕ) → n ≡ length lines
    → ((q : Name) → number_in m q ≡ None) → AreSettersFrom lines n m
setters_none lines n m end none q =
    let rest : drop n lines ≡ [] = drop_all n lines (omega arith) in
    subst (λ x. IsNumberOf lines x (setter_of (drop n lines) q)) (sym (none q)) (ap (λ ls. setter_of ls q) rest)

-- one line more
pub setters_more : (lines : List TraceLine) (n k : ℕ) (l : TraceLine) (m more : NameMap ℕ)
    → slice_get lines n ≡ Some l → drop n lines ≡ l ∷ drop k lines → AreSettersFrom lines k m
    → ((q : Name) → number_in more q ≡ cond (has q (sets_by l)) (Some n) (number_in m q))
    → AreSettersFrom lines n more
setters_more lines n k l m more at first old is q =
    subst (λ x. IsNumberOf lines x (setter_of (drop n lines) q)) (sym (is q))
    (subst (λ ls. IsNumberOf lines (cond (has q (sets_by l)) (Some n) (number_in m q)) (setter_of ls q)) (sym first)
    (one (has q (sets_by l)) (number_in m q) (setter_of (drop k lines) q) (old q)))
  where
    one : (b : Bool) (x : Option ℕ) (y : Option TraceLine) → IsNumberOf lines x y
        → IsNumberOf lines (cond b (Some n) x) (cond b (Some l) y)
    one true x y is = (l, at, refl)
    one false x y is = is
