use Rattle.std.proofs.Common.{◌≡◌, ℕ, Some, None, Vec, cond, sym, ap, ◌∙◌, subst}
use Rattle.std.specs.Global.{Global}
use Rattle.tj_body.specs.Names.{same}
use Rattle.tj_mean.specs.Inner.Agendas.{IsNoted}
use Rattle.tj_mean.specs.Inner.NameMaps.{value_at}
use Rattle.tj_mean.proofs.AgendaSteps.{now_noted, noted_still}
use Rattle.tj_mean.proofs.Lists.Elements.{some_is}
use Rattle.tj_mean.proofs.agenda.Agenda.stop.Goals as goal
use Rattle.tj_mean.proofs.agenda.Agenda.stop.Goals.{in-Some, in-None}

pub returns-clause-noted : goal.returns-clause-noted
returns-clause-noted c =
    let old = c.args.self.now.waiting in
    let q = c.in-Waits.cell in
    let were : (l : Vec ℕ Global) → value_at old q ≡ Some l → c.match-take.indexes ≡ l =
    elim c.match-take.branch [
      | in-Some w ↦ λ l e. w.indexes-is
          ∙ some_is w.in-Some.indexes l (sym w.in-Some.is ∙ (c.take.ensures.value ∙ e))
      | in-None w ↦ λ l e.
          let z : None ≡ Some l = sym w.in-None.is ∙ (c.take.ensures.value ∙ e) in absurd (cc)
    ] in
    subst (IsNoted c.put.new.self c.args.at) (sym c.in-Waits.is)
    (now_noted old c.take.new.self q c.take.ensures.stays c.put.new.self c.match-take.indexes c.push.new.self c.args.at
    (λ x. c.in_ok-put.ensures x
    ∙ ap (λ z. cond (same x z) (Some c.push.new.self) (value_at c.take.new.self x)) c.in_ok-copy.ensures)
    c.in_ok-push.ensures.items were)

pub returns-clause-keeps : goal.returns-clause-keeps
returns-clause-keeps c =
    let old = c.args.self.now.waiting in
    let q = c.in-Waits.cell in
    let were : (l : Vec ℕ Global) → value_at old q ≡ Some l → c.match-take.indexes ≡ l =
    elim c.match-take.branch [
      | in-Some w ↦ λ l e. w.indexes-is
          ∙ some_is w.in-Some.indexes l (sym w.in-Some.is ∙ (c.take.ensures.value ∙ e))
      | in-None w ↦ λ l e.
          let z : None ≡ Some l = sym w.in-None.is ∙ (c.take.ensures.value ∙ e) in absurd (cc)
    ] in
    noted_still old c.take.new.self q c.take.ensures.stays c.put.new.self c.match-take.indexes c.push.new.self c.args.at
    (λ x. c.in_ok-put.ensures x
    ∙ ap (λ z. cond (same x z) (Some c.push.new.self) (value_at c.take.new.self x)) c.in_ok-copy.ensures)
    c.in_ok-push.ensures.items were
