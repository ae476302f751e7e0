-- What the laws of findings say of a list holds of it in another order.
use Rattle.std.proofs.Common.{◌≡◌, ◌↔◌, ℕ, ◌≤◌, Bool, List, [], ◌∷◌, map, length, refl, sym, ap, subst, ◌∙◌}
use Rattle.std.proofs.Common.{inl, inr, arith}
use Rattle.std.specs.List.{flat_map}
use Rattle.std.specs.List.Sorted.{IsPermutation}
use Rattle.std.proofs.lemmas.List.Sorted.{length_permutation}
use Rattle.tj_base.specs.ForkOrder.{Name}
use Rattle.tj_base.specs.declared.cause.Cause.{Cause}
use Rattle.tj_body.specs.Laws.{AreDistinct}
use Rattle.tj_body.specs.Points.{IsIn}
use Rattle.tj_body.specs.declared.point.Point.{Point}
use Rattle.tj_body.proofs.Counts.{distinct_of_times, is, times, times_map, times_of_distinct, total, total_flat_map}
use Rattle.tj_body.proofs.Lists.{from_flat_map, in_flat_map}
use Rattle.tj_eval.specs.Stands.{PlacedState}
use Rattle.tj_mean.specs.declared.outcome.Link.{Link}
use Rattle.tj_mean.proofs.Lists.NameOrder.{in_permuted, in_unpermuted}
use Rattle.tj_syntax.specs.PlacesOf.{PlacesOfTask}
use Rattle.tj_syntax.specs.Trees.{Task}
use Rattle.tj_forest.proofs.DebtsOnce.{total_permuted}
use Rattle.tj_forest.specs.CellsTold.{cells_in}
use Rattle.tj_forest.specs.Explanations.{TellsEachOnce, cycles_in, debts_in, failures_in, told_waits_in, waits_in}
use Rattle.tj_forest.specs.Origins.{BeginsEchoes}
use Rattle.tj_forest.specs.Positions.{tasks_in}
use Rattle.tj_explain.specs.ToldFindings.{Explains}
use Rattle.tj_findings.specs.declared.finding.Finding.{Finding}
use Rattle.tj_findings.specs.declared.finding.Finding.TheVariants as finding
use Rattle.tj_findings.specs.declared.finding.ToldTask.{ToldTask}

module _ (fs gs : List Finding) (p : IsPermutation fs gs) where
  module _ {A : Type 0} (part : Finding → List A) where
    -- a part of one of the findings is one in the other order, and the other way round
    part_there : (x : A) → IsIn x (flat_map part fs) → IsIn x (flat_map part gs)
    part_there x i =
        let f = from_flat_map part x fs i in in_flat_map part f.0 x gs (in_unpermuted fs gs p f.0 f.1) f.2

    part_here : (x : A) → IsIn x (flat_map part gs) → IsIn x (flat_map part fs)
    part_here x i =
        let f = from_flat_map part x gs i in in_flat_map part f.0 x fs (in_permuted fs gs p f.0 f.1) f.2

    -- names that are distinct stay so
    distinct_there : (key : A → Name) → AreDistinct (map key (flat_map part fs))
        → AreDistinct (map key (flat_map part gs))
    distinct_there key apart = distinct_of_times (map key (flat_map part gs)) (λ q.
        let each : Finding → ℕ = λ f. total (λ x. is q (key x)) (part f) in
        let here = times_map key q (flat_map part fs) in
        let there = times_map key q (flat_map part gs) in
        let sum = total_flat_map (λ x. is q (key x)) part fs in
        let other = total_flat_map (λ x. is q (key x)) part gs in
        let same = total_permuted each fs gs p in
        let once = times_of_distinct q (map key (flat_map part fs)) apart in
        omega arith)

  once_there : {B : Type 0} (ps : List (Point B)) → TellsEachOnce ps fs → TellsEachOnce ps gs
  once_there ps h = record {
    waits = λ k. ((λ i. (h.waits k).0 (part_here waits_in k i)), (λ so. part_there waits_in k ((h.waits k).1 so)));
    waits_once = distinct_there waits_in (λ (k : Link). k.task) h.waits_once;
    failures = λ x c. (
      (λ i. (h.failures x c).0 (part_here failures_in (x, c) i)),
      (λ so. part_there failures_in (x, c) ((h.failures x c).1 so)),
    );
    failures_once = distinct_there failures_in (λ (f : Name × Cause). f.0) h.failures_once;
    debts = λ x q. (
      (λ i. (h.debts x q).0 (part_here debts_in (x, q) i)),
      (λ so. part_there debts_in (x, q) ((h.debts x q).1 so)),
    );
    debts_once = distinct_there debts_in (λ (d : Name × Name). d.1) h.debts_once;
  }

  begins_there : (t : ToldTask) → BeginsEchoes fs t → BeginsEchoes gs t
  begins_there t (inl (c, m, i, other)) = inl (c, m, in_unpermuted fs gs p (finding.Failed t c m) i, other)
  begins_there t (inr (ended, (q, i))) = inr (ended, (q, in_unpermuted fs gs p (finding.Owed q t) i))

  -- an explanation in another order is one
  pub explains_there : (script : List Task) (places : List PlacesOfTask) (strict : Bool) (root : PlacedState) (N : ℕ)
      → Explains script places strict root N fs → Explains script places strict root N gs
  explains_there script places strict root N h = record {
    each_once = once_there _ h.each_once;
    owners = λ waits i. h.owners waits (part_here cycles_in waits i);
    leads = λ w i.
        let led = h.leads w (part_here told_waits_in w i) in
        let way = led.0 in
        let cycle = way.3 in
        ((way.0, way.1, way.2, (cycle.0, part_there cycles_in cycle.0 cycle.1, cycle.2)), led.1);
    origins = λ t q origin i.
        let o = h.origins t q origin (in_permuted fs gs p (finding.Echo t q origin) i) in
        (o.0, o.1, begins_there o.0 o.2, o.3);
    failures = λ t c m i. h.failures t c m (in_permuted fs gs p (finding.Failed t c m) i);
    makers = λ t c m i. h.makers t c m (in_permuted fs gs p (finding.Failed t c m) i);
    histories = λ t i. h.histories t (part_here tasks_in t i);
    tasks = λ t i. h.tasks t (part_here tasks_in t i);
    cells = λ q i. h.cells q (part_here cells_in q i);
    went = λ t i. h.went t (part_here tasks_in t i);
    reasons = λ t c m i. h.reasons t c m (in_permuted fs gs p (finding.Failed t c m) i);
  }

  -- one of the lists is empty where the other is
  pub empty_there : fs ≡ [] → gs ≡ []
  empty_there none = by gs (length_permutation fs gs p ∙ ap length none) where
    by : (l : List Finding) → length l ≡ 0 → l ≡ []
    by [] e = refl
    by (x ∷ xs) e = absurd (omega arith)
