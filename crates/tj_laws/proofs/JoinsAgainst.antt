-- A join against the fork order closes the history, and a root that joins itself is such a join.
use Rattle.std.proofs.Common.{◌≡◌, ℕ, suc, Bool, true, false, cond, not, ◌&&◌, [], refl, sym, ap, ◌∙◌, inl, ⊎_elim}
use Rattle.tj_base.specs.ForkOrder.{IsBefore, Name, before}
use Rattle.tj_base.specs.declared.cause.Cause.TheVariants as cause
use Rattle.tj_base.proofs.Orders.{before_tells}
use Rattle.tj_body.specs.Asks.{begin, nothing}
use Rattle.tj_body.specs.History.{Assignment, after_ask, after_failure, after_join, after_stage, point_after}
use Rattle.tj_body.specs.History.{reference, with_wait}
use Rattle.tj_body.specs.Points.{IsProper}
use Rattle.tj_body.specs.Programs.{AreLawful, Rules, root_task}
use Rattle.tj_body.specs.declared.ask.Answer.TheVariants as answer
use Rattle.tj_body.specs.declared.ask.Ask.TheVariants as ask
use Rattle.tj_body.specs.declared.point.Close.TheVariants as close
use Rattle.tj_body.specs.declared.point.Point.{Point}
use Rattle.tj_body.specs.declared.point.PointStage.TheVariants as stage
use Rattle.tj_body.specs.declared.point.Reference.{Reference}
use Rattle.tj_body.specs.declared.point.Task.{Task}
use Rattle.tj_body.proofs.Histories.Grows.{from_start}
use Rattle.tj_body.proofs.Histories.Points.{whole}
use Rattle.tj_laws.specs.StrictJoins.{FailsAgainstOrder, JoinsAgainst}

-- names that aren't in the order aren't told to be
not_before : (a b : Name) → ¬ IsBefore a b → before a b ≡ false
not_before a b h = by (before a b) refl where
  by : (r : Bool) → before a b ≡ r → before a b ≡ false
  by true e = absurd (h ((before_tells a b (before a b) refl).0 e))
  by false e = e

module _ {B : Type 0} (rules : Rules B) (obeys : AreLawful rules) (t : Task B) (proper : IsProper rules t) where
  abbrev pt : Assignment → ℕ → Point B
  pt V k = point_after rules V k t

  fails_there : rules.strict ≡ true → (V : Assignment) (q : Name) (j : JoinsAgainst rules t V q)
      → (pt V (suc j.steps)).stage ≡ stage.Closed (close.Failed (cause.Order q))
  fails_there strict V q j =
      ap (λ z. (after_stage rules V z p).stage) j.is_answered
      ∙ ⊎_elim
      (λ a. ap (λ x. (after_ask rules.strict x r).stage) a ∙ joined false)
      (λ a. ap (λ x. (after_ask rules.strict x r).stage) a ∙ joined true)
      j.joins where
        p : Point B
        p = pt V j.steps

        r : Point B
        r = record p { body = rules.then p.body j.given }

        out : before p.name q ≡ false
        out = ap (λ x. before x q) (from_start rules V j.steps t).5 ∙ not_before t.name q j.against

        joined : (spare : Bool)
            → (after_join rules.strict spare (reference r j.place).sort (reference r j.place).name r).stage
            ≡ stage.Closed (close.Failed (cause.Order q))
        joined spare =
            ap (λ (x : Reference). (after_join rules.strict spare x.sort x.name r).stage) j.of_task
            ∙ ap (λ b. (cond b (after_failure (cause.Order q) r) (with_wait spare q r)).stage)
            (λ i. strict i && not (out i))

  pub fails_against : FailsAgainstOrder rules t
  fails_against strict V q j =
      let f = fails_there strict V q j in record {
        failed = f;
        history_ends = sym (whole rules obeys V t proper (pt V (suc j.steps)) (suc j.steps, refl) (inl (_, f)));
      }

-- the rules of bodies that join the task at place 0, which is their own
abbrev joins_itself : Rules Bool
joins_itself = record {
  strict = true;
  places = λ b. 1;
  awaits = λ b. cond b begin nothing;
  left = λ b. 0;
  asks = λ b a. ask.Join 0;
  then = λ b a. false;
}

-- the root that does so joins against the order, under every assignment
pub root_joins_itself : (V : Assignment) → JoinsAgainst joins_itself (root_task true) V []
root_joins_itself V = record {
  steps = 0;
  given = answer.Start;
  place = 0;
  is_answered = refl;
  joins = inl refl;
  of_task = refl;
  against = λ h. let e : false ≡ true = (before_tells [] [] false refl).1 h in absurd (cc);
}
