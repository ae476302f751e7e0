-- Tasks that wait in the fork order for tasks of a meaning: none waits.
use Rattle.std.proofs.Common.{◌≡◌, ℕ, zero, suc, ◌+◌, ◌*◌, ◌<◌, ◌≤◌, Bool, true, false, inl, inr, ⊎_elim, List, []}
use Rattle.std.proofs.Common.{Some, None, refl, sym, ap, ◌∙◌, subst, arith}
use Rattle.tj_base.specs.ForkOrder.{Name, before}
use Rattle.tj_base.proofs.Orders.{before_tells, before-self, before-trans}
use Rattle.tj_body.specs.Names.{same}
use Rattle.tj_body.specs.Programs.{Program, AreLawful, root_task}
use Rattle.tj_body.specs.History.{Assignment, history}
use Rattle.tj_body.specs.Rounds.{given, tasks, last_round, meaning, IsFull}
use Rattle.tj_body.specs.Points.{IsIn, IsProper, HasStopped}
use Rattle.tj_body.specs.NeverWaits.{NoneWaits, WaitInOrder}
use Rattle.tj_body.specs.declared.point.Entry.{Entry}
use Rattle.tj_body.specs.declared.point.Close.{Close}
use Rattle.tj_body.specs.declared.point.PointStage.{PointStage}
use Rattle.tj_body.specs.declared.point.PointStage.TheVariants as stage
use Rattle.tj_body.specs.declared.point.Task.{Task}
use Rattle.tj_body.specs.declared.point.Point.{Point}
use Rattle.tj_body.proofs.Lists.{in_map}
use Rattle.tj_body.proofs.Counts.{one_if, is, is_one, same_is, total, total_le, total_add, total_in}
use Rattle.tj_body.proofs.Histories.EndedPoints.{HasClosedIn, closes_whole, result_of}
use Rattle.tj_body.proofs.Histories.Good.{task_proper}
use Rattle.tj_body.proofs.Histories.Points.{stopped}
use Rattle.tj_body.proofs.Rounds.Rises.{tasks_within}
use Rattle.tj_body.proofs.Rounds.Settles.{is_last}
use Rattle.tj_body.proofs.Rounds.Keeps.{written}

-- the name in a wait
abbrev pub cell_in : PointStage → Name
cell_in (stage.Answered a) = []
cell_in (stage.Waits q spare) = q
cell_in (stage.Closed e) = []

module _ {B : Type 0} where
  -- how many of the tasks come after this one in the fork order
  abbrev after : List (Point B) → Name → ℕ
  after ps x = total (λ (u : Point B). one_if (before x u.name)) ps

  -- fewer come after a later one
  fewer_after : (ps : List (Point B)) (x : Name) (u : Point B) → IsIn u ps → before x u.name ≡ true
      → after ps u.name < after ps x
  fewer_after ps x u i e =
      let a = total_le (λ (w : Point B). one_if (before u.name w.name) + is u.name w.name)
      (λ (w : Point B). one_if (before x w.name)) (λ w. one w.name) ps in
      let b = total_add (λ (w : Point B). one_if (before u.name w.name)) (λ (w : Point B). is u.name w.name) ps in
      let c = total_in (λ (w : Point B). is u.name w.name) u ps i in
      let d = is_one u.name u.name refl in
      omega arith where
        by : (z : Name) (b c d : Bool) → before u.name z ≡ b → same u.name z ≡ c → before x z ≡ d
            → one_if b + one_if c ≤ one_if d
        by z true true d p q r =
            let y : false ≡ true = sym (before-self u.name) ∙ ap (before u.name) (same_is u.name z q) ∙ p in absurd (cc)
        by z true false d p q r =
            let y : d ≡ true = sym r ∙ before-trans x u.name z e p in rw y (omega arith)
        by z false true d p q r =
            let y : d ≡ true = sym r ∙ ap (before x) (sym (same_is u.name z q)) ∙ e in rw y (omega arith)
        by z false false d p q r = omega arith

        one : (z : Name) → one_if (before u.name z) + is u.name z ≤ one_if (before x z)
        one z = by z (before u.name z) (same u.name z) (before x z) refl refl refl

module _ {B : Type 0} (program : Program B) (obeys : AreLawful program.rules)
    (proper : IsProper program.rules (root_task program.root)) (N : ℕ) where
  abbrev V : Assignment
  V = given program (last_round N)

  abbrev all : List (Task B)
  all = tasks program (last_round N)

  abbrev points : List (Point B)
  points = meaning program N

  abbrev history_of : Task B → Point B
  history_of t = history program.rules V t

  -- each history of the meaning has stopped
  pub stops : (p : Point B) → IsIn p points → HasStopped V p
  stops p i =
      let r = in_map history_of p all i in
      subst (HasStopped V) (sym r.2)
      (stopped program.rules obeys V r.0
      (task_proper program obeys proper (last_round N) r.0 r.1))

  module _ (fits : ¬ IsFull program N) where
    -- the cell that a task waits for has no entry
    pub no_entry : (p : Point B) (q : Name) (spare : Bool) → IsIn p points → p.stage ≡ stage.Waits q spare → V q ≡ None
    no_entry p q spare i e =
        ⊎_elim (λ c. let z : stage.Waits q spare ≡ stage.Closed c.0 = sym e ∙ c.1 in absurd (cc))
        (λ w. ap V (ap cell_in (sym e ∙ w.2)) ∙ w.3) (stops p i)

    -- the result of a task that has ended has an entry
    has_entry : (t : Task B) → IsIn t all → (e : Close) → (history_of t).stage ≡ stage.Closed e
        → (r : Entry) × (V (history_of t).name ≡ Some r)
    has_entry t i e c =
        let n = last_round N in
        let k = 2 * suc (program.rules.left t.body) in
        let own = subst (λ z. HasClosedIn z (history_of t).name (history_of t).writes (history_of t).holds) c
        (closes_whole program.rules V t k) in
        let there = tasks_within program n (suc n) (omega arith) t i in
        let w = written program obeys proper n t (history_of t) there (k, refl)
        (history_of t).name (result_of e) own.wrote in
        (result_of e, ((is_last program N fits).0 (suc n)).1 (history_of t).name (result_of e) w)

    -- a task whose result has no entry waits
    waits_too : (u : Point B) → IsIn u points → V u.name ≡ None
        → (q : Name) × (spare : Bool) × (u.stage ≡ stage.Waits q spare)
    waits_too u i e = by (in_map history_of u all i) (stops u i) where
      by : ((t : Task B) × IsIn t all × (u ≡ history_of t)) → HasStopped V u
          → (q : Name) × (spare : Bool) × (u.stage ≡ stage.Waits q spare)
      by r (inl c) =
          let h = has_entry r.0 r.1 c.0 (ap (λ (z : Point B). z.stage) (sym r.2) ∙ c.1) in
          let z : None ≡ Some h.0 = sym e ∙ ap (λ (z : Point B). V z.name) r.2 ∙ h.1 in absurd (cc)
      by r (inr w) = (w.0, w.1, w.2)

    -- none waits where those that wait do so in the fork order
    pub none_waits : WaitInOrder points → NoneWaits points
    none_waits order p q spare i e = down (suc (after points p.name)) p q spare i e (omega arith) where
      down : (n : ℕ) (p : Point B) (q : Name) (spare : Bool) → IsIn p points → p.stage ≡ stage.Waits q spare
          → after points p.name < n → ⊥
      down zero p q spare i e l = omega arith
      down (suc n) p q spare i e l =
          let u = order p q spare i e in
          let w = waits_too u.0 u.1 (ap V u.2 ∙ no_entry p q spare i e) in
          let b = (before_tells p.name u.0.name (before p.name u.0.name) refl).1 u.3 in
          let f = fewer_after points p.name u.0 u.1 b in
          down n u.0 w.0 w.1 u.1 w.2 (omega arith)
