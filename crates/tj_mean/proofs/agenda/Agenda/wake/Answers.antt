use Rattle.std.proofs.Common.{◌≡◌, ℕ, Some, None, Vec, ◌∷◌, ◌++◌, [], List, map, take, inr, refl, sym, ◌∙◌, subst}
use Rattle.std.specs.Global.{Global}
use Rattle.tj_base.specs.ForkOrder.{Name}
use Rattle.tj_body.specs.Points.{IsIn}
use Rattle.tj_body.specs.declared.point.Entry.{Entry}
use Rattle.tj_body.proofs.Lists.{in_left, in_right}
use Rattle.tj_mean.specs.declared.agenda.Agenda.{Agenda}
use Rattle.tj_mean.proofs.AgendaSteps.{IsWoken, names_more, woken_more}
use Rattle.tj_mean.proofs.Lists.Elements.{all_taken, some_is}
use Rattle.tj_mean.proofs.agenda.Agenda.wake.Goals as goal
use Rattle.tj_mean.proofs.agenda.Agenda.wake.Goals.{in-Some+in_ok-append, in_default}

pub loop-cell-init : goal.loop-cell-init
loop-cell-init c = ((λ q i h. inr h), (λ q i k h. absurd k), refl)

pub loop-cell-preserved : goal.loop-cell-preserved
loop-cell-preserved c =
    let ws = c.args.writes.now in
    let k = c.loop-cell.cell-index in
    let q = c.loop-cell-item.result.0 in
    let names = map (λ (w : Name × Entry). w.0) (take k ws) in
    let old = c.loop-cell.self in
    let woken = old.woken.items in
    subst (IsWoken c.args.self.now c.match-take.self)
    (sym (names_more ws k c.loop-cell-item.result c.loop-cell-test.true c.loop-cell-item.is))
    (elim c.match-take.branch [
      | in-Some+in_ok-append w ↦
          let new : Agenda = record { woken = w.append.new.self; waiting = c.take.new.self; fresh = old.fresh } in
          subst (λ a. IsWoken c.args.self.now a (names ++ q ∷ [])) (sym w.self-is)
          (woken_more c.args.self.now old new names q c.loop-cell.invariant c.take.ensures.stays refl
          (λ i j. subst (IsIn i) (sym w.in_ok-append.ensures.items) (in_left i woken w.in-Some.indexes.items j))
          (λ l e i j. subst (IsIn i) (sym w.in_ok-append.ensures.items)
          (in_right i woken w.in-Some.indexes.items
          (subst (λ (v : Vec ℕ Global). IsIn i v.items)
          (some_is l w.in-Some.indexes (sym e ∙ (sym c.take.ensures.value ∙ w.in-Some.is))) j))))
      | in_default w ↦
          let new : Agenda = record { woken = old.woken; waiting = c.take.new.self; fresh = old.fresh } in
          subst (λ a. IsWoken c.args.self.now a (names ++ q ∷ [])) (sym w.self-is)
          (woken_more c.args.self.now old new names q c.loop-cell.invariant c.take.ensures.stays refl
          (λ i j. j)
          (λ l e i j. let z : None ≡ Some l = sym w.in_default.is ∙ (c.take.ensures.value ∙ e) in absurd (cc)))
    ])

pub returns-clause-woken : goal.returns-clause-woken
returns-clause-woken c = c.loop-cell.invariant.0

pub returns-clause-gone : goal.returns-clause-gone
returns-clause-gone c = λ q i k.
    c.loop-cell.invariant.1 q i
    (subst (λ (l : List (Name × Entry)). IsIn q (map (λ (w : Name × Entry). w.0) l))
    (sym (all_taken c.args.writes.now c.loop-cell.cell-index c.loop-cell-test.false)) k)

pub returns-clause-fresh : goal.returns-clause-fresh
returns-clause-fresh c = c.loop-cell.invariant.2
