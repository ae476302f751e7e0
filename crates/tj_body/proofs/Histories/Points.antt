-- Points of histories, one step at a time, and where a history stops.
use Rattle.std.proofs.Common.{◌≡◌, ℕ, zero, suc, ◌+◌, ◌*◌, ◌-◌, ◌<◌, ◌≤◌, Bool, true, false, ◌⊎◌, inl, inr}
use Rattle.std.proofs.Common.{⊎_elim}
use Rattle.std.proofs.Common.{Option, Some, None, refl, sym, ap, ◌∙◌, subst, arith}
use native.Mathlib.Decide.{dec_le}
use mathlib.Core.Logic.{dite}
use Rattle.tj_base.specs.ForkOrder.{Name}
use Rattle.tj_body.specs.Asks.{Ends}
use Rattle.tj_body.specs.Programs.{Rules, AreLawful}
use Rattle.tj_body.specs.History.{Assignment, after_read}
use Rattle.tj_body.specs.History.{after_look}
use Rattle.tj_body.specs.History.{after_ask, after_stage, after_step, point_after, history}
use Rattle.tj_body.specs.Points.{IsWithin, IsProper, IsGoodAt, HasStopped, IsPointOf, weight_at, weight}
use Rattle.tj_body.specs.Inner.AskSteps.{IsAskStep, fails, ends, makes, forks, sets, gets, joins, prints}
use Rattle.tj_body.specs.declared.ask.Answer.{Answer}
use Rattle.tj_body.specs.declared.ask.Ask.{Ask}
use Rattle.tj_body.specs.declared.point.Value.TheVariants as value
use Rattle.tj_body.specs.declared.point.Entry.{Entry}
use Rattle.tj_body.specs.declared.point.Entry.TheVariants as entry
use Rattle.tj_body.specs.declared.point.PointStage.{PointStage}
use Rattle.tj_body.specs.declared.point.PointStage.TheVariants as stage
use Rattle.tj_body.specs.declared.point.Task.{Task}
use Rattle.tj_body.specs.declared.point.Point.{Point}
use Rattle.tj_body.proofs.Histories.AskSteps.{is_ask_step}
use Rattle.tj_body.proofs.Histories.Grows.{GoesOn, goes_on_self, goes_on_trans, grows, still_point, waiting_stays}
use Rattle.tj_body.proofs.Histories.Good.{not_last, get_goes_on, join_goes_on, good}

module _ {B : Type 0} (rules : Rules B) where
  -- one ask more
  pub asks_on : (V : Assignment) (t : Task B) (p : Point B) (a : Answer) → IsPointOf rules V t p
      → p.stage ≡ stage.Answered a
      → IsPointOf rules V t (after_ask rules.strict (rules.asks p.body a) (record p { body = rules.then p.body a }))
  asks_on V t p a h e =
      (suc h.0, sym (ap (λ z. after_stage rules V z p) e) ∙ ap (after_step rules V) h.1)

  -- the answer of an entry of the same assignment
  pub reads_on : (V : Assignment) (t : Task B) (p : Point B) (q : Name) (spare : Bool) (e : Entry)
      → IsPointOf rules V t p → p.stage ≡ stage.Waits q spare → V q ≡ Some e
      → IsPointOf rules V t (after_read spare q e p)
  reads_on V t p q spare e h g v = (
    suc h.0,
    sym (ap (λ z. after_stage rules V z p) g ∙ ap (λ o. after_look spare q o p) v)
        ∙ ap (after_step rules V) h.1,
  )

  -- a point under an assignment is one under a larger one
  pub point_up : (V W : Assignment) → IsWithin V W → (t : Task B) (p : Point B) → IsPointOf rules V t p
      → IsPointOf rules W t p
  point_up V W h t p x = let r = still_point rules V W h t x.0 in (r.0, x.1 ∙ sym r.1)

  -- a history is that of each assignment that has the same for each cell
  pub same_history : (V W : Assignment) → ((q : Name) → V q ≡ W q) → (t : Task B)
      → history rules V t ≡ history rules W t
  same_history V W same t =
      let e : V ≡ W = (λ i q. same q i) in ap (λ U. history rules U t) e

  -- what has stopped goes no further
  pub stopped_stays : (V : Assignment) (p : Point B) → HasStopped V p → after_step rules V p ≡ p
  stopped_stays V p (inl c) = ap (λ z. after_stage rules V z p) c.1
  stopped_stays V p (inr w) = waiting_stays rules V p w

  module _ (V : Assignment) (t : Task B) where
    abbrev point_of : ℕ → Point B
    point_of k = point_after rules V k t

    -- a point that a step leaves as it is stays for good
    pub stays : (k : ℕ) → after_step rules V (point_of k) ≡ point_of k → (j : ℕ)
        → point_of (j + k) ≡ point_of k
    stays k s zero = ap point_of (let z : 0 + k ≡ k = omega arith in z)
    stays k s (suc j) =
        ap point_of (let z : suc j + k ≡ suc (j + k) = omega arith in z)
        ∙ (ap (after_step rules V) (stays k s j) ∙ s)

    later : (k j : ℕ) → GoesOn (point_of k) (point_of (j + k))
    later k zero =
        subst (λ m. GoesOn (point_of k) (point_of m)) (let z : k ≡ 0 + k = omega arith in z)
        (goes_on_self (point_of k))
    later k (suc j) =
        subst (λ m. GoesOn (point_of k) (point_of m)) (let z : suc (j + k) ≡ suc j + k = omega arith in z)
        (goes_on_trans (point_of k) (point_of (j + k)) (point_of (suc (j + k))) (later k j)
        (grows rules V (point_of (j + k))))

    -- a later point goes on from an earlier one
    pub later_point : (k m : ℕ) → k ≤ m → GoesOn (point_of k) (point_of m)
    later_point k m l =
        subst (λ z. GoesOn (point_of k) (point_of z)) (let z : (m - k) + k ≡ m = omega arith in z) (later k (m - k))

  module _ (obeys : AreLawful rules) where
    abbrev Falls : Point B → ℕ → Type 0
    Falls p n = weight rules.left p < n

    ask_steps : (p : Point B) (a : Ask B) (p' : Point B) (n : ℕ) → IsAskStep rules.strict p a p' → 0 < n
        → (Ends a ⊎ (2 * rules.left p.body + 3 < n)) → Falls p' n
    ask_steps p _ _ n (fails a c) z h = z
    ask_steps p _ _ n (ends v) z h = z
    ask_steps p _ _ n makes z h = let l = not_last h in omega arith
    ask_steps p _ _ n (forks b pass hand left e) z h = let l = not_last h in omega arith
    ask_steps p _ _ n (sets k v s o) z h = let l = not_last h in omega arith
    ask_steps p _ _ n (gets spare k s) z h = get_goes_on B spare k h
    ask_steps p _ _ n (joins spare k s o) z h = join_goes_on B spare k h
    ask_steps p _ _ n (prints i) z h = let l = not_last h in omega arith

    reads : (spare : Bool) (c : Name) (e : Entry) (p : Point B)
        → Falls (after_read spare c e p) (2 * rules.left p.body + 3)
    reads true c entry.Broken p = omega arith
    reads false c entry.Broken p = omega arith
    reads spare c (entry.Value (value.Num i)) p = omega arith
    reads spare c (entry.Value (value.Ref r)) p = omega arith

    stops_or_falls : (V : Assignment) (st : PointStage) (p : Point B) → p.stage ≡ st
        → IsGoodAt rules st p
        → HasStopped V p ⊎ Falls (after_stage rules V st p) (weight_at rules.left p.body st)
    stops_or_falls V (stage.Answered a) p e g =
        let f = (obeys p.body a g.fits).falls in
        let ask = rules.asks p.body a in
        let next : Point B = record p { body = rules.then p.body a } in
        inr (ask_steps next ask _ (2 * rules.left p.body + 2) (is_ask_step rules.strict next ask) (omega arith)
        (⊎_elim (λ x. inl x) (λ l. inr (omega arith)) f))
    stops_or_falls V (stage.Waits q spare) p e g = by_entry (V q) refl where
      by_entry : (o : Option Entry) → V q ≡ o
          → HasStopped V p ⊎ Falls (after_look spare q (V q) p) (2 * rules.left p.body + 3)
      by_entry None v = inl (inr (q, spare, e, v))
      by_entry (Some x) v =
          inr (subst (λ o. Falls (after_look spare q o p) (2 * rules.left p.body + 3)) (sym v) (reads spare q x p))
    stops_or_falls V (stage.Closed x) p e g = inl (inl (x, e))

    module _ (V : Assignment) (t : Task B) (proper : IsProper rules t) where
      abbrev point_at : ℕ → Point B
      point_at k = point_after rules V k t

      abbrev history_of_t : Point B
      history_of_t = history rules V t

      still_stopped : (k : ℕ) → HasStopped V (point_at k) → HasStopped V (point_at (suc k))
      still_stopped k s = subst (HasStopped V) (sym (stopped_stays V (point_at k) s)) s

      runs_down : (k : ℕ)
          → HasStopped V (point_at k) ⊎ (weight rules.left (point_at k) + k ≤ 2 * suc (rules.left t.body))
      runs_down zero = inr (omega arith)
      runs_down (suc k) =
          let p = point_at k in
          let g = good rules obeys V t proper k in
          ⊎_elim (λ s. inl (still_stopped k s))
          (λ l. ⊎_elim (λ s. inl (still_stopped k s)) (λ w. inr (omega arith))
          (stops_or_falls V p.stage p refl g.at_stage))
          (runs_down k)

      light : (p : Point B) (st : PointStage) → p.stage ≡ st → weight_at rules.left p.body st ≤ 0 → HasStopped V p
      light p (stage.Closed x) e h = inl (x, e)
      light p st e h = absurd (omega arith)

      -- a history has come to its stop
      pub stopped : HasStopped V history_of_t
      stopped =
          ⊎_elim (λ s. s) (λ l. light history_of_t history_of_t.stage refl (omega arith))
          (runs_down (2 * suc (rules.left t.body)))

      from_stop : (k : ℕ) → 2 * suc (rules.left t.body) ≤ k → point_at k ≡ history_of_t
      from_stop k l =
          let n = 2 * suc (rules.left t.body) in
          ap point_at (let z : k ≡ (k - n) + n = omega arith in z)
          ∙ stays V t n (stopped_stays V history_of_t stopped) (k - n)

      -- a point that doesn't go on is the history
      pub halt : (k : ℕ) → after_step rules V (point_at k) ≡ point_at k → point_at k ≡ history_of_t
      halt k s =
          let n = 2 * suc (rules.left t.body) in
          dite (dec_le k n)
          (λ l. sym (ap point_at (let z : n ≡ (n - k) + k = omega arith in z) ∙ stays V t k s (n - k)))
          (λ l. from_stop k (omega arith))

      -- and so is a point that has stopped
      pub whole : (p : Point B) → IsPointOf rules V t p → HasStopped V p → p ≡ history_of_t
      whole p h s =
          h.1 ∙ halt h.0 (subst (λ z. after_step rules V z ≡ z) h.1 (stopped_stays V p s))

      -- a point is a beginning of its history
      pub in_history : (p : Point B) → IsPointOf rules V t p → GoesOn p history_of_t
      in_history p h =
          let n = 2 * suc (rules.left t.body) in
          subst (λ z. GoesOn z history_of_t) (sym h.1)
          (dite (dec_le h.0 n) (λ l. later_point V t h.0 n l)
          (λ l. subst (GoesOn (point_at h.0)) (from_stop h.0 (omega arith)) (goes_on_self (point_at h.0))))
