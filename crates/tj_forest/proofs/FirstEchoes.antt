-- Steps back from an echo to the first echo of its chain: the task that broke its cell echoes nothing.
use Rattle.std.proofs.Common.{◌≡◌, ℕ, zero, suc, ◌+◌, ◌*◌, ◌≤◌, Bool, true, false, cond, List, [], ◌∷◌}
use Rattle.std.proofs.Common.{Option, Some, None, refl, sym, ap, subst, ◌∙◌, inl, inr, ◌⊎◌, arith}
use Rattle.std.specs.Prelude.{option_and_then, unwrap_or}
use Rattle.std.specs.Option.{is_some}
use Rattle.tj_base.specs.ForkOrder.{Name}
use Rattle.tj_base.specs.declared.cause.Cause.TheVariants as cause
use Rattle.tj_base.specs.declared.cell.TheConstants.{MAX_CELLS}
use Rattle.tj_body.specs.History.{Assignment}
use Rattle.tj_body.specs.Points.{IsIn}
use Rattle.tj_body.specs.Rounds.{given, last_round, meaning}
use Rattle.tj_body.specs.declared.point.Entry.TheVariants as entry
use Rattle.tj_body.specs.declared.point.Point.{Point}
use Rattle.tj_eval.specs.Stands.{PlacedState}
use Rattle.tj_eval.specs.Statements.{TaskState}
use Rattle.tj_mean.specs.Outcomes.{IsOutcome}
use Rattle.tj_mean.specs.declared.outcome.Ending.TheVariants as ending
use Rattle.tj_mean.specs.declared.outcome.Outcome.{Outcome}
use Rattle.tj_trace.specs.Logs.{logged_program}
use Rattle.tj_trace.specs.TraceLaws.{script_program}
use Rattle.tj_trace.specs.Traces.{AreTraced}
use Rattle.tj_trace.specs.declared.line.TraceLine.{TraceLine}
use Rattle.tj_forest.proofs.Origins.{Broke, Ended, HasStopped, IsFirst, IsFrom, broke, by_debt, by_failure, came_from}
use Rattle.tj_forest.proofs.Origins.{ended_last, first, from_breaker, later, names_earlier, nothing_at_first, power, twice}
use Rattle.tj_forest.specs.Consequences.{CameAtFirstFrom}
use Rattle.tj_findings.specs.Echoes.{back, breaker, echoed_by, most_doublings}
use Rattle.tj_findings.specs.Forests.{echo_before, first_echo}
use Rattle.tj_findings.specs.Onward.{onward}

-- so many steps back lead to one of the first two rounds
near_first : (N d : ℕ) → N ≤ MAX_CELLS → d + power most_doublings ≤ last_round N → d ≤ 1
unfolding most_doublings
near_first N d few more = omega arith

-- what is first echoes nothing
pub echoes_none : (l : TraceLine) → IsFirst l → echoed_by l.line.ending ≡ None
echoes_none l (by_failure c e other) = ap echoed_by e ∙ other
echoes_none l (by_debt v q e i) = ap echoed_by e

-- from where no step leads on, none does
stays : (f : TraceLine → Option TraceLine) (k : ℕ) (l : TraceLine) → f l ≡ None → onward f k l ≡ l
stays f zero l e = ap (λ o. unwrap_or o l) e
stays f (suc k) l e = ap (onward f k) (stays f k l e) ∙ stays f k l e

-- the line back, if it is of an echo
abbrev echo_only : TraceLine → Option TraceLine
echo_only m = cond (is_some (echoed_by m.line.ending)) (Some m) None

module _ (strict : Bool) (root : PlacedState) (N : ℕ) (lines : List TraceLine)
    (traced : AreTraced (logged_program strict root) N lines) (o : Outcome)
    (out : IsOutcome (meaning (script_program strict root) N) o) where
  abbrev points : List (Point TaskState)
  points = meaning (script_program strict root) N

  abbrev V : ℕ → Assignment
  V m = given (logged_program strict root) m

  -- the task that broke this cell echoes nothing, so that the echo is the first of its chain
  pub record BeginsChain (l : TraceLine) (q : Name) : Type 0 where
    pub breaks : TraceLine
    pub there : IsIn breaks lines
    pub found : breaker lines q ≡ Some breaks
    pub broke : Broke strict root N lines traced breaks q
    pub is_first : IsFirst breaks
    pub last : echo_before lines l ≡ None

  -- an echo to which steps back lead, for a cell that is broken in this round
  pub record IsChained (x : Name) (l : TraceLine) (d : ℕ) : Type 0 where
    pub there : IsIn l lines
    pub reached : CameAtFirstFrom points x l.line.name
    pub cell : Name
    pub is : l.line.ending ≡ ending.Failed (cause.Broken cell)
    pub broken : V d cell ≡ Some entry.Broken
    pub few : d ≤ last_round N

  -- it is the first of its chain, or a step back leads to one for a cell that was broken a round earlier
  step : (x : Name) (l : TraceLine) (d : ℕ) (c : IsChained x l d) → BeginsChain l c.cell
      ⊎ ((m : TraceLine) × (echo_before lines l ≡ Some m) × ((e : ℕ) × (suc e ≡ d) × IsChained x m e))
  step x l zero c = absurd (nothing_at_first strict root N lines traced c.cell c.broken)
  step x l (suc m) c = by (from_breaker strict root N lines traced m b.0 c.cell b.2 b.3 b.4) where
    b : (l : TraceLine) × IsIn l lines × Ended strict root N lines traced m l
        × Broke strict root N lines traced l c.cell
        × HasStopped strict root N lines traced l × (breaker lines c.cell ≡ Some l)
    b = broke strict root N lines traced m c.few c.cell c.broken

    back_is : back lines l ≡ Some b.0
    back_is = ap (λ e. option_and_then (breaker lines) (echoed_by e)) c.is ∙ b.5

    before_is : echo_before lines l ≡ echo_only b.0
    before_is = ap (option_and_then echo_only) back_is

    by : IsFrom strict root N lines traced m b.0 → BeginsChain l c.cell
        ⊎ ((k : TraceLine) × (echo_before lines l ≡ Some k) × ((e : ℕ) × (suc e ≡ suc m) × IsChained x k e))
    by (first f) = inl (record {
      breaks = b.0;
      there = b.1;
      found = b.5;
      broke = b.3;
      is_first = f;
      last = before_is ∙ ap (λ z. cond (is_some z) (Some b.0) None) (echoes_none b.0 f);
    })
    by (later p s v) = inr (
      b.0,
      before_is ∙ ap (λ e. cond (is_some (echoed_by e)) (Some b.0) None) s,
      (
        m,
        refl,
        record {
          there = b.1;
          reached = (
            suc c.reached.0,
            (l.line.name, c.reached.1, came_from strict root N lines traced o out x l b.0 c.there b.1 c.cell c.is b.3),
          );
          cell = p;
          is = s;
          broken = v;
          few = let less = c.few in omega arith;
        },
      ),
    )

  -- where so many steps lead from an echo of a cell that is broken in this round
  record IsFar (x : Name) (k d : ℕ) (r : TraceLine) : Type 0 where
    pub round : ℕ
    pub chained : IsChained x r round
    pub far : BeginsChain r chained.cell ⊎ (round + power k ≤ d)

  far : (x : Name) (k d : ℕ) (l : TraceLine) → IsChained x l d → IsFar x k d (onward (echo_before lines) k l)
  far x zero d l c = by (step x l d c) where
    by : BeginsChain l c.cell
        ⊎ ((m : TraceLine) × (echo_before lines l ≡ Some m) × ((e : ℕ) × (suc e ≡ d) × IsChained x m e))
        → IsFar x zero d (onward (echo_before lines) zero l)
    by (inl b) = subst (IsFar x zero d) (sym (ap (λ z. unwrap_or z l) b.last))
        (record { round = d; chained = c; far = inl b })
    by (inr (m, e, (j, s, n))) = subst (IsFar x zero d) (sym (ap (λ z. unwrap_or z l) e))
        (record { round = j; chained = n; far = inr (omega arith) })
  far x (suc k) d l c = by (far x k d l c) (far x k) where
    f : TraceLine → Option TraceLine
    f = echo_before lines

    by : IsFar x k d (onward f k l)
        → ((e : ℕ) (m : TraceLine) → IsChained x m e → IsFar x k e (onward f k m))
        → IsFar x (suc k) d (onward f k (onward f k l))
    by h on = which h.far where
      which : BeginsChain (onward f k l) h.chained.cell ⊎ (h.round + power k ≤ d)
          → IsFar x (suc k) d (onward f k (onward f k l))
      which (inl b) = subst (IsFar x (suc k) d) (sym (stays f k (onward f k l) b.last))
          (record { round = h.round; chained = h.chained; far = inl b })
      which (inr less) = then (on h.round (onward f k l) h.chained) where
        then : IsFar x k h.round (onward f k (onward f k l)) → IsFar x (suc k) d (onward f k (onward f k l))
        then g = record { round = g.round; chained = g.chained; far = ends g.far } where
          ends : BeginsChain (onward f k (onward f k l)) g.chained.cell ⊎ (g.round + power k ≤ h.round)
              → BeginsChain (onward f k (onward f k l)) g.chained.cell ⊎ (g.round + power (suc k) ≤ d)
          ends (inl b) = inl b
          ends (inr fewer) = inr (twice k g.round h.round d fewer less)

  -- the first echo of the chain on which a failure stands
  pub record HasChain (l : TraceLine) : Type 0 where
    pub round : ℕ
    pub chained : IsChained l.line.name (first_echo lines l) round
    pub begins : BeginsChain (first_echo lines l) chained.cell

  pub has_chain : N ≤ MAX_CELLS → (l : TraceLine) → IsIn l lines → (q : Name)
      → l.line.ending ≡ ending.Failed (cause.Broken q) → HasChain l
  has_chain small l i q is = by (far l.line.name most_doublings (last_round N) l at_first) where
    at_first : IsChained l.line.name l (last_round N)
    at_first = record {
      there = i;
      reached = (zero, refl);
      cell = q;
      is = is;
      broken = names_earlier strict root N lines traced (last_round N) l q
          (ended_last strict root N lines traced l i) is;
      few = omega arith;
    }

    by : IsFar l.line.name most_doublings (last_round N) (first_echo lines l) → HasChain l
    by h = which h.far where
      which : BeginsChain (first_echo lines l) h.chained.cell ⊎ (h.round + power most_doublings ≤ last_round N)
          → HasChain l
      which (inl b) = record { round = h.round; chained = h.chained; begins = b }
      which (inr less) = then (step l.line.name (first_echo lines l) h.round h.chained) where
        then : BeginsChain (first_echo lines l) h.chained.cell
            ⊎ ((m : TraceLine) × (echo_before lines (first_echo lines l) ≡ Some m)
            × ((e : ℕ) × (suc e ≡ h.round) × IsChained l.line.name m e)) → HasChain l
        then (inl b) = record { round = h.round; chained = h.chained; begins = b }
        then (inr (m, e, (j, s, n))) =
            let near = near_first N h.round small less in
            let none : j ≡ 0 = omega arith in
            absurd (nothing_at_first strict root N lines traced n.cell
            (subst (λ k. V k n.cell ≡ Some entry.Broken) none n.broken))
