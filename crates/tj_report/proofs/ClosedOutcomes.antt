-- The outcome of what closed records tell is that of the meaning, and each of its cycles has a member that has alarmed.
use Rattle.tj_report.proofs.Prelude.{AreToldInSomeOrder, AreWordsOf, Err, IfOk, IsIn, IsPermutation-sym, Link, List}
use Rattle.tj_report.proofs.Prelude.{Name, Ok, Program, Reference, RestCell, Result, Stopped, Waits, any_order, in_map}
use Rattle.tj_report.proofs.Prelude.{map, meaning, subst, sym, told_name, ℕ, ◌∙◌}
use Rattle.tj_base.proofs.CyclesOn.{cycle_list_moves}
use Rattle.tj_body.specs.Names.{same}
use Rattle.tj_mean.specs.Outcomes.{AreApart, IsOutcome, IsOutcomeOf, Owns, Leads}
use Rattle.tj_mean.specs.declared.outcome.Outcome.{Outcome}
use Rattle.tj_mean.proofs.Lists.NameOrder.{in_permuted}
use Rattle.tj_mean.proofs.Outcomes.ToldOutcomes.{apart_in_order, told_in_order, meaning_apart, told_of, told_owned}
use Rattle.tj_mean.proofs.Outcomes.ToldOutcomes.{told_waits}
use Rattle.tj_words.specs.AtRest.RestMeaning.{AreCyclesOfMeaningAlarmed}
use Rattle.tj_report.specs.ClosedOutcomes.{AreCyclesOfOutcomeAlarmed}
use Rattle.tj_body.specs.WaitGraph as meant

-- what follows from what holds of an answer holds of it
pub if_ok : {A E : Type 0} {P Q : A → Type 0} (r : Result A E) → ((x : A) → P x → Q x) → IfOk r P → IfOk r Q
if_ok (Ok x) f h = f x h
if_ok (Err e) f h = tt

module _ {B : Type 0} (program : Program B) (N : ℕ) (ss : List Stopped)
    (t : AreToldInSomeOrder (meaning program N) ss) where
  -- what is told is apart
  pub told_apart : AreApart ss
  told_apart =
      let us = told_in_order t.0 (meaning program N) (IsPermutation-sym (meaning program N) t.0 t.1) ss t.2 in
      apart_in_order us.0 ss (IsPermutation-sym ss us.0 us.2) (meaning_apart program N us.0 us.1)

  module _ (o : Outcome) (k : IsOutcomeOf ss o) where
    -- its outcome is that of the meaning
    pub told_outcome : IsOutcome (meaning program N) o
    told_outcome =
        any_order t.0 (meaning program N) o (IsPermutation-sym (meaning program N) t.0 t.1) (ss, t.2, k)

    waits_meant : (x q : Name) → Waits ss x q → meant.Waits (meaning program N) x q
    waits_meant x q (s, i, n, e) =
        let h = told_of t.0 ss t.2 s i in
        let w = told_waits h.0 s q h.2 e in
        (h.0, w.0, in_permuted (meaning program N) t.0 t.1 h.0 h.1, sym (told_name h.0 s h.2) ∙ n, w.1)

    owns_meant : (y q : Name) → Owns ss y q → meant.Owns (meaning program N) y q
    owns_meant y q (s, i, n, j) =
        let h = told_of t.0 ss t.2 s i in (
          h.0,
          in_permuted (meaning program N) t.0 t.1 h.0 h.1,
          sym (told_name h.0 s h.2) ∙ n,
          subst (IsIn q) (told_owned h.0 s h.2) j,
        )

    -- each of its cycles has a member that has alarmed
    pub told_alarmed : (shown : List RestCell) (born : List Reference) → AreWordsOf program N born shown
        → AreCyclesOfMeaningAlarmed program N shown → AreCyclesOfOutcomeAlarmed shown o
    told_alarmed shown born w alarmed links i =
        let c = (k.cycles.0 links).0 i in
        let cycle = cycle_list_moves (Leads ss) (meant.WaitsFor (meaning program N))
        (λ x y z l m. (l.0, waits_meant x l.0 l.1, owns_meant y l.0 l.2)) same
        (map (λ (l : Link). l.task) links) c.tasks in
        let a = alarmed (map (λ (l : Link). l.task) links) cycle born w in
        let l = in_map (λ (l : Link). l.task) a.1.name links a.3 in
        (l.0, a.0, l.1, (born, a.1, w.named, a.2, l.2), a.4)
