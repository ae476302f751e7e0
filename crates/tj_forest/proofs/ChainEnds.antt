-- Steps back from an echo end at one task, by whichever steps they go there: the origin that the echo tells is the task
-- by whose end its chain began.
use Rattle.std.proofs.Common.{◌≡◌, ℕ, zero, suc, Bool, true, false, cond, List, Option, Some, None, refl, sym, ap, subst}
use Rattle.std.proofs.Common.{◌∙◌}
use Rattle.std.specs.Prelude.{option_and_then, unwrap_or}
use Rattle.std.specs.Option.{is_some, option_map}
use Rattle.tj_base.specs.ForkOrder.{Name}
use Rattle.tj_base.specs.declared.cause.Cause.TheVariants as cause
use Rattle.tj_mean.specs.declared.outcome.Ending.TheVariants as ending
use Rattle.tj_trace.specs.declared.line.TraceLine.{TraceLine}
use Rattle.tj_findings.specs.Echoes.{back, back_by, breaker, echoed_by, most_doublings, origin}
use Rattle.tj_findings.specs.Forests.{echo_before, first_echo}
use Rattle.tj_findings.specs.Onward.{onward}

some_line : (a b : TraceLine) → Some a ≡ Some b → a ≡ b
some_line a b e = cc

not_there : {A : Type 0} (o : Option TraceLine) (m : TraceLine) → o ≡ None → o ≡ Some m → A
not_there o m none some = absurd (let z : ◌≡◌ {A = Option TraceLine} None (Some m) = sym none ∙ some in cc)

module _ (f : TraceLine → Option TraceLine) where
  -- so many steps lead from the first line to the second, and none leads on
  abbrev EndsIn : ℕ → TraceLine → TraceLine → Type 0
  EndsIn zero l r = (f l ≡ None) × (l ≡ r)
  EndsIn (suc n) l r = (m : TraceLine) × (f l ≡ Some m) × EndsIn n m r

  -- steps lead from the first line to the second, and none leads on
  abbrev pub EndsAt : TraceLine → TraceLine → Type 0
  EndsAt l r = (n : ℕ) × EndsIn n l r

  one_end : (n k : ℕ) (l r s : TraceLine) → EndsIn n l r → EndsIn k l s → r ≡ s
  one_end zero zero l r s a b = sym a.1 ∙ b.1
  one_end zero (suc k) l r s a b = not_there (f l) b.0 a.0 b.1
  one_end (suc n) zero l r s a b = not_there (f l) a.0 b.0 a.1
  one_end (suc n) (suc k) l r s a b =
      one_end n k a.0 r s a.2 (subst (λ m. EndsIn k m s) (some_line b.0 a.0 (sym b.1 ∙ a.1)) b.2)

  -- where a step leads, the steps behind it end there, too
  after_one : (l r m : TraceLine) → EndsAt l r → f l ≡ Some m → EndsAt m r
  after_one l r m (zero, (none, e)) is = not_there (f l) m none is
  after_one l r m (suc n, (k, some, ends)) is =
      (n, subst (λ z. EndsIn n z r) (some_line k m (sym some ∙ is)) ends)

  -- so do they on from any of the lines
  ends_onward : (k : ℕ) (l r : TraceLine) → EndsAt l r → EndsAt (onward f k l) r
  ends_onward zero l r ends = by (f l) refl where
    by : (o : Option TraceLine) → f l ≡ o → EndsAt (unwrap_or o l) r
    by None e = ends
    by (Some m) e = after_one l r m ends e
  ends_onward (suc k) l r ends = ends_onward k (onward f k l) r (ends_onward k l r ends)

  module _ (g : TraceLine → Option TraceLine) (among : (l m : TraceLine) → g l ≡ Some m → f l ≡ Some m) where
    -- steps that are among these lead on to where these end
    ends_before : (k : ℕ) (l r : TraceLine) → EndsAt (onward g k l) r → EndsAt l r
    ends_before zero l r ends = by (g l) refl ends where
      by : (o : Option TraceLine) → g l ≡ o → EndsAt (unwrap_or o l) r → EndsAt l r
      by None e ends = ends
      by (Some m) e ends = (suc ends.0, (m, among l m e, ends.1))
    ends_before (suc k) l r ends = ends_before k l r (ends_before k (onward g k l) r ends)

-- a step back to an echo is one back
back_to_echo : (lines : List TraceLine) (l m : TraceLine) → echo_before lines l ≡ Some m → back lines l ≡ Some m
back_to_echo lines l m e = by (back lines l) e where
  by : (o : Option TraceLine)
      → option_and_then (λ (k : TraceLine). cond (is_some (echoed_by k.line.ending)) (Some k) None) o ≡ Some m
      → o ≡ Some m
  by None e = absurd (cc)
  by (Some k) e = which (is_some (echoed_by k.line.ending)) e where
    which : (b : Bool) → cond b (Some k) None ≡ Some m → Some k ≡ Some m
    which true e = e
    which false e = absurd (cc)

-- the origin of an echo is the task that broke the cell of the first echo of its chain, if that echoes nothing
pub origin_begins : (lines : List TraceLine) (l b r : TraceLine) (q : Name)
    → l.line.ending ≡ ending.Failed (cause.Broken q) → back lines (first_echo lines l) ≡ Some b
    → echoed_by b.line.ending ≡ None → origin lines q ≡ Some r → echoed_by r.line.ending ≡ None → b ≡ r
origin_begins lines l b r q is began none found last = by (breaker lines q) refl found where
  no_step : (z : TraceLine) → echoed_by z.line.ending ≡ None → back lines z ≡ None
  no_step z e = ap (option_and_then (breaker lines)) e

  from_l : EndsAt (back lines) l b
  from_l = ends_before (back lines) (echo_before lines) (back_to_echo lines) most_doublings l b
      (1, (b, began, (no_step b none, refl)))

  by : (o : Option TraceLine) → breaker lines q ≡ o → option_map (back_by lines most_doublings) o ≡ Some r → b ≡ r
  by None e found = absurd (cc)
  by (Some m) e found =
      let step : back lines l ≡ Some m = ap (λ z. option_and_then (breaker lines) (echoed_by z)) is ∙ e in
      let far = ends_onward (back lines) most_doublings m b (after_one (back lines) l b m from_l step) in
      let same = some_line (back_by lines most_doublings m) r found in
      let ends = subst (λ z. EndsAt (back lines) z b) same far in
      one_end (back lines) ends.0 0 r b r ends.1 (no_step r last, refl)
