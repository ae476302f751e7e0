-- The outcome of histories of which none waits.
use Rattle.std.proofs.Common.{◌≡◌, inl, List, [], ◌∷◌, map, refl, sym, ap, ◌∙◌}
use Rattle.tj_base.specs.ForkOrder.{Name}
use Rattle.tj_body.specs.Points.{IsIn}
use Rattle.tj_body.specs.NeverWaits.{NoneWaits}
use Rattle.tj_body.specs.declared.point.Point.{Point}
use Rattle.tj_body.proofs.Lists.{in_map}
use Rattle.tj_mean.specs.Outcomes.{AreTold, IsCycle, Waits, IsOutcome}
use Rattle.tj_mean.specs.OutcomeLaws.{HasNoWait}
use Rattle.tj_mean.specs.declared.outcome.Ending.TheVariants as ending
use Rattle.tj_mean.specs.declared.outcome.Link.{Link}
use Rattle.tj_mean.specs.declared.outcome.Outcome.{Outcome}
use Rattle.tj_mean.specs.declared.outcome.TaskLine.{TaskLine}
use Rattle.tj_mean.specs.declared.stopped.Stopped.{Stopped}
use Rattle.tj_mean.proofs.Lists.Elements.{in_of_all}
use Rattle.tj_mean.proofs.Lists.NameOrder.{in_permuted}
use Rattle.tj_mean.proofs.Outcomes.ToldOutcomes.{told_of, told_waits}

empty : {A : Type 0} (l : List A) → ((x : A) → IsIn x l → ⊥) → l ≡ []
empty [] h = refl
empty (x ∷ xs) h = absurd (h x (inl refl))

module _ {B : Type 0} (ps : List (Point B)) (none : NoneWaits ps) (ss : List Stopped) (told : AreTold ps ss) where
  no_wait : (s : Stopped) (q : Name) → IsIn s ss → s.line.ending ≡ ending.Waits q → ⊥
  no_wait s q i e =
      let p = told_of ps ss told s i in
      let w = told_waits p.0 s q p.2 e in none p.0 q w.0 p.1 w.1

  no_cycle : (c : List Link) → IsCycle ss c → ⊥
  no_cycle [] c = c.tasks
  no_cycle (l ∷ ls) c =
      let w = in_of_all (λ (m : Link). Waits ss m.task m.cell) (l ∷ ls) c.cells l (inl refl) in
      no_wait w.0 l.cell w.1 w.3

-- has no wait
pub has_no_wait : {B : Type 0} (ps : List (Point B)) → NoneWaits ps → (o : Outcome) → IsOutcome ps o → HasNoWait o
has_no_wait ps none o (ss, told, x) = record {
  no_cycle = empty o.cycles (λ c i. no_cycle ps none ss told c ((x.cycles.0 c).0 i));
  none_waits = λ l q i e.
      let lines = map (λ (s : Stopped). s.line) ss in
      let r = in_map (λ (s : Stopped). s.line) l ss (in_permuted lines o.lines x.lines l i) in
      no_wait ps none ss told r.0 q r.1 (sym (ap (λ (z : TaskLine). z.ending) r.2) ∙ e);
}
