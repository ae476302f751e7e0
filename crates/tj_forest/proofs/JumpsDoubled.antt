-- Steps by the numbers of lines: the first, and twice as many.
use Rattle.std.proofs.Common.{◌≡◌, ℕ, zero, suc, ◌<◌, ◌+◌, ◌-◌, List, [], ◌∷◌, ◌++◌, Option, Some, None, length, get_or}
use Rattle.std.proofs.Common.{Bool, true, false, cond}
use Rattle.std.proofs.Common.{map, refl, sym, ap, subst, ◌∙◌, arith, ◌≤◌, ◌⊎◌, inl, inr}
use Rattle.std.specs.Prelude.{slice_get, option_and_then, unwrap_or}
use Rattle.std.specs.Option.{is_some, option_map}
use Rattle.std.proofs.lemmas.List.{get_or-map, length-append, length-map}
use Rattle.std.proofs.lemmas.Option.{slice_get_cases, slice_get_past, slice_get_within, unwrap_or-slice_get}
use native.Mathlib.Decide.{dec_lt}
use mathlib.Core.Logic.{dite}
use Rattle.tj_base.specs.ForkOrder.{Name}
use Rattle.tj_trace.specs.declared.line.TraceLine.{TraceLine}
use Rattle.tj_findings.specs.Echoes.{back, back_by, breaker, echoed_by, most_doublings}
use Rattle.tj_findings.specs.Forests.{IsEchoOnly, echo_before}
use Rattle.tj_findings.specs.Onward.{onward}
use Rattle.tj_forest.proofs.LineNumbers.{at_number}
use Rattle.tj_forest.specs.Inner.Jumps.{AreEach, AreJumps, jump}
use Rattle.tj_forest.specs.Inner.Numbers.{AreSteps, IsNumberOf}

-- what stands before an element that was added
before_last : {A : Type 0} (xs : List A) (x : A) (n : ℕ) (d : A) → n < length xs
    → get_or (xs ++ x ∷ []) n d ≡ get_or xs n d
before_last [] x n d less = absurd (omega arith)
before_last (y ∷ xs) x zero d less = refl
before_last (y ∷ xs) x (suc n) d less = before_last xs x n d (omega arith)

-- that element
at_last : {A : Type 0} (xs : List A) (x : A) (n : ℕ) (d : A) → n ≡ length xs → get_or (xs ++ x ∷ []) n d ≡ x
at_last [] x zero d is = refl
at_last [] x (suc n) d is = absurd (omega arith)
at_last (y ∷ xs) x zero d is = absurd (omega arith)
at_last (y ∷ xs) x (suc n) d is = at_last xs x n d (omega arith)

-- one element more
pub each_more : {A : Type 0} (P : ℕ → A → Type 0) (d : ℕ → A) (i : ℕ) (x : A) (xs more : List A) → P i x
    → more ≡ xs ++ x ∷ [] → AreEach P d i xs → AreEach P d (i + 1) more
each_more P d i x xs more here is old =
    subst (AreEach P d (i + 1)) (sym is) (record {
      each = length-append xs (x ∷ []) ∙ ap (λ k. k + 1) old.each;
      holds = λ n up. dite (dec_lt n (length xs)) (λ less. before n less) (λ not. last n not up);
    })
  where
    before : (n : ℕ) → n < length xs → P n (get_or (xs ++ x ∷ []) n (d n))
    before n less =
        let e = old.each in subst (P n) (sym (before_last xs x n (d n) less)) (old.holds n (omega arith))

    last : (n : ℕ) → ¬ (n < length xs) → n < i + 1 → P n (get_or (xs ++ x ∷ []) n (d n))
    last n not up =
        let e = old.each in
        let end : n ≡ length xs = omega (arith, not) in
        let there : i ≡ n = omega arith in
        subst (P n) (sym (at_last xs x n (d n) end)) (subst (λ k. P k x) there here)

-- the number of a line to which a step leads, where the line itself was looked up
pub step_from : (lines : List TraceLine) (f : TraceLine → Option TraceLine) (i : ℕ) (l : TraceLine) (r : Option ℕ)
    → slice_get lines i ≡ Some l → IsNumberOf lines r (f l) → IsNumberOf lines r (option_and_then f (slice_get lines i))
step_from lines f i l r at is = subst (λ o. IsNumberOf lines r (option_and_then f o)) (sym at) is

-- a step back that comes to an echo
pub echo_step : (lines : List TraceLine) (o : Option TraceLine) (s r : Option ℕ)
    → IsNumberOf lines s (option_and_then (back lines) o) → IsEchoOnly lines s r
    → IsNumberOf lines r (option_and_then (echo_before lines) o)
echo_step lines None s r is only = none_left s is only where
  none_left : (s : Option ℕ) → IsNumberOf lines s None → IsEchoOnly lines s r → IsNumberOf lines r None
  none_left None is only = subst (λ z. IsNumberOf lines z None) (sym only) refl
  none_left (Some n) is only = let e = is.2 in absurd (cc)
echo_step lines (Some l) s r is only = by s (back lines l) is only where
  echoing : TraceLine → Option TraceLine
  echoing m = cond (is_some (echoed_by m.line.ending)) (Some m) None

  kept : (n : ℕ) (m : TraceLine) (b : Bool) → slice_get lines n ≡ Some m
      → IsNumberOf lines (cond b (Some n) None) (cond b (Some m) None)
  kept n m true at = (m, at, refl)
  kept n m false at = refl

  by : (s : Option ℕ) (o : Option TraceLine) → IsNumberOf lines s o → IsEchoOnly lines s r
      → IsNumberOf lines r (option_and_then echoing o)
  by None o is only =
      subst (λ z. IsNumberOf lines r (option_and_then echoing z)) (sym is)
      (subst (λ z. IsNumberOf lines z None) (sym only) refl)
  by (Some n) o is only =
      subst (λ z. IsNumberOf lines r (option_and_then echoing z)) (sym is.2)
      (subst (λ z. IsNumberOf lines z (echoing is.0)) (sym (only is.0 is.1))
      (kept n is.0 (is_some (echoed_by is.0.line.ending)) is.1))

-- the number to which a step leads from any number
pub step_found : (lines : List TraceLine) (f : TraceLine → Option TraceLine) (steps : List (Option ℕ)) (n : ℕ)
    → AreSteps lines f steps → IsNumberOf lines (get_or steps n None) (option_and_then f (slice_get lines n))
step_found lines f steps n are = by (slice_get_cases lines n).1 where
  by : ((x : TraceLine) × (n < length lines) × (slice_get lines n ≡ Some x) × (get_or lines n x ≡ x))
      ⊎ ((length lines ≤ n) × (slice_get lines n ≡ None))
      → IsNumberOf lines (get_or steps n None) (option_and_then f (slice_get lines n))
  by (inl (x, less, at, same)) = are.holds n less
  by (inr (past, none)) =
      let long = are.each in
      let beyond : length steps ≤ n = omega arith in
      let gone : get_or steps n None ≡ None =
      sym (unwrap_or-slice_get steps n None) ∙ ap (λ o. unwrap_or o None) (slice_get_past steps n beyond) in
      subst (λ o. IsNumberOf lines (get_or steps n None) (option_and_then f o)) (sym none)
      (subst (λ r. IsNumberOf lines r None) (sym gone) refl)

-- where one step leads
pub one_step : (lines : List TraceLine) (f : TraceLine → Option TraceLine) (i : ℕ) (l : TraceLine) (r : Option ℕ)
    → slice_get lines i ≡ Some l → IsNumberOf lines r (f l) → slice_get lines (unwrap_or r i) ≡ Some (onward f 0 l)
one_step lines f i l None at is = at ∙ ap (λ o. Some (unwrap_or o l)) (sym is)
one_step lines f i l (Some n) at is = is.1 ∙ ap (λ o. Some (unwrap_or o l)) (sym is.2)

-- the jumps of one step
pub jumps_are : (lines : List TraceLine) (f : TraceLine → Option TraceLine) (steps : List (Option ℕ)) (js : List ℕ)
    → AreEach (λ n to. to ≡ unwrap_or (get_or steps n None) n) (λ n. n) (length steps) js → AreSteps lines f steps
    → AreJumps lines f 0 js
jumps_are lines f steps js made are = record {
  each = made.each ∙ are.each;
  leads = λ n l at.
      let less = slice_get_within lines n l at in
      let long = are.each in
      let found = subst (λ o. IsNumberOf lines (get_or steps n None) (option_and_then f o)) at (are.holds n less) in
      ap (slice_get lines) (made.holds n (omega arith)) ∙ one_step lines f n l (get_or steps n None) at found;
}

-- the line to which a step leads from the one with this number
pub stepped : (lines : List TraceLine) (f : TraceLine → Option TraceLine) (steps : List (Option ℕ)) (n i : ℕ)
    (r : Option ℕ) (o : Option TraceLine) → AreSteps lines f steps → r ≡ get_or steps i None → i ≡ n
    → o ≡ option_and_then (slice_get lines) r → o ≡ option_and_then f (slice_get lines n)
stepped lines f steps n i r o are is same found =
    found
    ∙ at_number lines r (option_and_then f (slice_get lines n))
    (subst (λ z. IsNumberOf lines z (option_and_then f (slice_get lines n)))
    (sym (is ∙ ap (λ k. get_or steps k None) same)) (step_found lines f steps n are))

-- twice as many steps
pub doubled_more : (lines : List TraceLine) (f : TraceLine → Option TraceLine) (k m : ℕ) (js more : List ℕ)
    → more ≡ map (jump js) js → m ≡ suc k → AreJumps lines f k js → AreJumps lines f m more
doubled_more lines f k m js more is next old =
    subst (λ n. AreJumps lines f n more) (sym next) (subst (AreJumps lines f (suc k)) (sym is) (record {
      each = length-map js (jump js) ∙ old.each;
      leads = λ n l at.
          let less = slice_get_within lines n l at in
          let long = old.each in
          let first = old.leads n l at in
          let second = old.leads (jump js n) (onward f k l) first in
          ap (slice_get lines) (get_or-map (jump js) js n n n (omega arith)) ∙ second;
    }))

-- as often as there can be rounds
pub often : (left : ℕ) → left ≡ 0 → 21 - left ≡ most_doublings
unfolding most_doublings
often left none = omega arith

-- jumps that lead no further when they are doubled are those of more steps
settled : (lines : List TraceLine) (f : TraceLine → Option TraceLine) (d k m : ℕ) (js : List ℕ) → m ≡ d + k
    → map (jump js) js ≡ js → AreJumps lines f k js → AreJumps lines f m js
settled lines f zero k m js is same are =
    let there : k ≡ m = omega arith in subst (λ n. AreJumps lines f n js) there are
settled lines f (suc d) k m js is same are =
    let next : m ≡ suc (d + k) = omega arith in
    doubled_more lines f (d + k) m js js (sym same) next (settled lines f d k (d + k) js refl same are)

-- the same as often as there can be rounds
pub settled_often : (lines : List TraceLine) (f : TraceLine → Option TraceLine) (left : ℕ) (js more : List ℕ)
    → left ≤ 21 → more ≡ map (jump js) js → more ≡ js → AreJumps lines f (21 - left) js
    → AreJumps lines f most_doublings js
unfolding most_doublings
settled_often lines f left js more few grown same are =
    settled lines f left (21 - left) 21 js (omega arith) (sym grown ∙ same) are

-- the line to which a jump leads from the one that was looked up
pub onward_is : (lines : List TraceLine) (f : TraceLine → Option TraceLine) (k : ℕ) (js : List ℕ) (n : Option ℕ)
    (found : Option TraceLine) → AreJumps lines f k js → IsNumberOf lines n found
    → option_and_then (λ i. slice_get lines (jump js i)) n ≡ option_map (onward f k) found
onward_is lines f k js None found are is = ap (option_map (onward f k)) (sym is)
onward_is lines f k js (Some i) found are is = are.leads i is.0 is.1 ∙ ap (option_map (onward f k)) (sym is.2)

-- the line from which the breaking of a cell came at first
pub origin_is : (lines : List TraceLine) (k : ℕ) (js : List ℕ) (q : Name) (n : Option ℕ)
    → AreJumps lines (back lines) k js → IsNumberOf lines n (breaker lines q)
    → option_and_then (λ i. slice_get lines (jump js i)) n ≡ option_map (back_by lines k) (breaker lines q)
origin_is lines k js q n are is = onward_is lines (back lines) k js n (breaker lines q) are is

-- the line to which a jump from a number leads
pub jumped : (lines : List TraceLine) (f : TraceLine → Option TraceLine) (k : ℕ) (js : List ℕ) (n : ℕ)
    → AreJumps lines f k js → slice_get lines (jump js n) ≡ option_map (onward f k) (slice_get lines n)
jumped lines f k js n are = by (slice_get_cases lines n).1 where
  by : ((x : TraceLine) × (n < length lines) × (slice_get lines n ≡ Some x) × (get_or lines n x ≡ x))
      ⊎ ((length lines ≤ n) × (slice_get lines n ≡ None))
      → slice_get lines (jump js n) ≡ option_map (onward f k) (slice_get lines n)
  by (inl (x, less, at, same)) = are.leads n x at ∙ ap (option_map (onward f k)) (sym at)
  by (inr (past, none)) =
      let long = are.each in
      let beyond : length js ≤ n = omega arith in
      ap (slice_get lines)
      (sym (unwrap_or-slice_get js n n) ∙ ap (λ o. unwrap_or o n) (slice_get_past js n beyond))
      ∙ none ∙ ap (option_map (onward f k)) (sym none)
