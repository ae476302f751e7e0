-- The acts of a history under a smaller assignment are the first ones under a larger one.
use Rattle.std.proofs.Common.{◌≡◌, ℕ, zero, suc, ◌+◌, ◌*◌, ◌-◌, ◌⊎◌, inl, inr, List, [], ◌++◌}
use Rattle.std.proofs.Common.{refl, sym, ap, ◌∙◌, subst, arith, append_assoc, append-nil}
use native.Mathlib.Decide.{dec_le}
use mathlib.Core.Logic.{dite}
use Rattle.tj_base.specs.ForkOrder.{Name}
use Rattle.tj_body.specs.Programs.{Rules, AreLawful}
use Rattle.tj_body.specs.History.{Assignment, after_stage, after_step, history, point_after}
use Rattle.tj_body.specs.Points.{IsWithin, IsProper, HasStopped, Begins}
use Rattle.tj_body.specs.declared.point.Task.{Task}
use Rattle.tj_body.specs.declared.point.Point.{Point}
use Rattle.tj_body.proofs.Histories.Grows.{IsWaiting, from_start, same_or_waiting, waiting_stays}
use Rattle.tj_body.proofs.Histories.Points.{halt, stays, stopped, stopped_stays}
use Rattle.tj_mean.specs.Acts.{acts_by, acts_within, line_of, stage_acts, step_acts}
use Rattle.tj_mean.specs.declared.act.Act.{Act}
use Rattle.tj_mean.specs.declared.act.ActLine.{ActLine}

module _ {B : Type 0} (rules : Rules B) (W : Assignment) (t : Task B) where
  -- a point that has stopped does no act
  pub idle : (p : Point B) → HasStopped W p → step_acts rules W p ≡ []
  idle p (inl c) = ap (λ z. stage_acts rules W z p) c.1
  idle p (inr w) = ap (λ z. stage_acts rules W z p) w.2

  -- the acts of more steps go on from those of fewer
  pub more_acts : (k j : ℕ) → Begins (acts_within rules W k t) (acts_within rules W (j + k) t)
  more_acts k zero = (
    [],
    ap (λ n. acts_within rules W n t) (let z : 0 + k ≡ k = omega arith in z)
        ∙ sym (append-nil (acts_within rules W k t)),
  )
  more_acts k (suc j) =
      let r = more_acts k j in
      let more = step_acts rules W (point_after rules W (j + k) t) in (
        r.0 ++ more,
        ap (λ n. acts_within rules W n t) (let z : suc j + k ≡ suc (j + k) = omega arith in z)
            ∙ ap (λ l. l ++ more) r.1 ∙ append_assoc (acts_within rules W k t) r.0 more,
      )

  -- from where a task has stopped there are no more
  pub no_more_acts : (k : ℕ) → HasStopped W (point_after rules W k t) → (j : ℕ)
      → acts_within rules W (j + k) t ≡ acts_within rules W k t
  no_more_acts k s zero = ap (λ n. acts_within rules W n t) (let z : 0 + k ≡ k = omega arith in z)
  no_more_acts k s (suc j) =
      let same = stays rules W t k (stopped_stays rules W (point_after rules W k t) s) j in
      ap (λ n. acts_within rules W n t) (let z : suc j + k ≡ suc (j + k) = omega arith in z)
      ∙ ap (λ p. acts_within rules W (j + k) t ++ step_acts rules W p) same
      ∙ ap (λ l. acts_within rules W (j + k) t ++ l) (idle (point_after rules W k t) s)
      ∙ append-nil (acts_within rules W (j + k) t) ∙ no_more_acts k s j

  module _ (obeys : AreLawful rules) (proper : IsProper rules t) where
    -- the acts of any number of steps are the first of the history
    pub acts_begin : (k : ℕ) → Begins (acts_within rules W k t) (acts_by rules W t)
    acts_begin k =
        let n = 2 * suc (rules.left t.body) in
        dite (dec_le k n)
        (λ l. subst (λ m. Begins (acts_within rules W k t) (acts_within rules W m t))
        (let z : (n - k) + k ≡ n = omega arith in z) (more_acts k (n - k)))
        (λ l. (
          [],
          sym (ap (λ m. acts_within rules W m t) (let z : k ≡ (k - n) + n = omega arith in z)
              ∙ no_more_acts n (stopped rules obeys W t proper) (k - n))
              ∙ sym (append-nil (acts_within rules W k t)),
        ))

    -- where a task has stopped they are all
    pub all_acts : (k : ℕ) → HasStopped W (point_after rules W k t)
        → acts_within rules W k t ≡ acts_by rules W t
    all_acts k s =
        let n = 2 * suc (rules.left t.body) in
        dite (dec_le k n)
        (λ l. sym (ap (λ m. acts_within rules W m t) (let z : n ≡ (n - k) + k = omega arith in z)
        ∙ no_more_acts k s (n - k)))
        (λ l. ap (λ m. acts_within rules W m t) (let z : k ≡ (k - n) + n = omega arith in z)
        ∙ no_more_acts n (stopped rules obeys W t proper) (k - n))

    -- and so they are with a step that leaves the task as it is
    pub acts_halt : (k : ℕ) → after_step rules W (point_after rules W k t) ≡ point_after rules W k t
        → acts_within rules W (suc k) t ≡ acts_by rules W t
    acts_halt k s =
        let p = point_after rules W k t in
        let stops : HasStopped W p = subst (HasStopped W) (sym (halt rules obeys W t proper k s))
        (stopped rules obeys W t proper) in
        ap (λ l. acts_within rules W k t ++ l) (idle p stops) ∙ append-nil (acts_within rules W k t)
        ∙ all_acts k stops

    -- a name with acts
    abbrev line : Name → List Act → ActLine
    line x acts = record { name = x; acts = acts }

    -- where the last step left the task as it is, what stands is its line, with its children
    pub line_at_halt : (k : ℕ) (p p' : Point B) (so_far acts : List Act) → p ≡ point_after rules W k t
        → so_far ≡ acts_within rules W k t → p' ≡ after_step rules W p → acts ≡ so_far ++ step_acts rules W p
        → p' ≡ p → (line p'.name acts ≡ line_of rules W t) × (p'.children ≡ (history rules W t).children)
    line_at_halt k p p' so_far acts at seen stepped noted stays =
        let idles = subst (λ z. after_step rules W z ≡ z) at (sym stepped ∙ stays) in
        let named : p'.name ≡ t.name = ap (λ (z : Point B). z.name) (stays ∙ at) ∙ (from_start rules W k t).5 in
        let all : acts ≡ acts_by rules W t = noted ∙ ap (λ l. l ++ step_acts rules W p) seen
        ∙ ap (λ z. acts_within rules W k t ++ step_acts rules W z) at ∙ acts_halt k idles in
        let whole = stays ∙ at ∙ halt rules obeys W t proper k idles in
        (ap (λ x. line x acts) named ∙ ap (λ l. line t.name l) all, ap (λ (z : Point B). z.children) whole)

  module _ (V : Assignment) where
    -- the acts of the first k steps under V, each join answered as under W
    abbrev pub acts_seen : ℕ → List Act
    acts_seen zero = []
    acts_seen (suc k) = acts_seen k ++ step_acts rules W (point_after rules V k t)

    module _ (within : IsWithin V W) where
      -- a point under V with its acts is one under W
      pub record IsSeen (k : ℕ) : Type 0 where
        pub steps : ℕ
        pub point : point_after rules W steps t ≡ point_after rules V k t
        pub acts : acts_seen k ≡ acts_within rules W steps t

      -- and so is each
      pub seen : (k : ℕ) → IsSeen k
      seen zero = record { steps = 0; point = refl; acts = refl }
      seen (suc k) = by (seen k) (same_or_waiting rules V W within p.stage p refl) where
        p : Point B
        p = point_after rules V k t

        by : IsSeen k → (after_stage rules V p.stage p ≡ after_stage rules W p.stage p) ⊎ IsWaiting rules V p
            → IsSeen (suc k)
        by r (inl s) = record {
          steps = suc r.steps;
          point = ap (after_step rules W) r.point ∙ sym s;
          acts = ap (λ l. l ++ step_acts rules W p) r.acts
              ∙ ap (λ z. acts_within rules W r.steps t ++ step_acts rules W z) (sym r.point);
        }
        by r (inr w) = record {
          steps = r.steps;
          point = r.point ∙ sym (waiting_stays rules V p w);
          acts = ap (λ l. acts_seen k ++ l) (ap (λ z. stage_acts rules W z p) w.2)
              ∙ append-nil (acts_seen k) ∙ r.acts;
        }
