use Rattle.std.proofs.Common.{◌≡◌, ℕ, ◌+◌, Option, Some, None, refl, sym, ap, ◌∙◌, true, false, is_some}
use Rattle.tj_events.specs.declared.event.Event.TheVariants.{Unwait}
use Rattle.tj_events.specs.CoreState.{waits, parked, stage}
use Rattle.tj_events.specs.Events.{raised_by}
use Rattle.tj_core.specs.Inner.Owners.{owner_in}
use Rattle.tj_core.specs.Inner.Machine.{state_of}
use Rattle.tj_core.proofs.Columns.ColumnLists.{refused}
use Rattle.tj_core.proofs.machine.Machine.unwait.Goals as goal

not_some : (o : Option ℕ) → is_some o ≡ false → o ≡ None
not_some None e = refl
not_some (Some u) e = absurd (cc)

pub returns-in_default-clause-err : goal.returns-in_default-clause-err
returns-in_default-clause-err c = refused c.args.self.now (Unwait c.args.t)
    (λ a. c.in_default.not-Some (a.0, a.1) ((c.parked_on.ensures.some a.0 a.1).1 a.2))

pub returns-then-is_some-clause-err : goal.returns-then-is_some-clause-err
returns-then-is_some-clause-err c =
    let m = c.args.self.now in let cell = c.in-Some.cell in let way = c.in-Some.way in
    refused m (Unwait c.args.t) (λ a.
    let st : waits cell way parked ≡ waits a.0 a.1 parked = sym ((c.in-Some.ensures.some cell way).0 refl) ∙ a.2 in
    let i : cell ≡ a.0 = cc in
    let o : c.of.result ≡ None = c.of.ensures ∙ (ap (owner_in m.owners.owners.items) i ∙ a.3) in
    let f : false ≡ true = sym (ap (λ (q : Option ℕ). is_some q) o) ∙ (sym c.is_some.ensures ∙ c.if-is_some.true) in
    absurd (cc))

pub returns-clause-ok : goal.returns-clause-ok
returns-clause-ok c =
    let s = state_of c.args.self.now in let cell = c.in-Some.cell in let way = c.in-Some.way in
    let st : stage s.cells c.args.t.0 ≡ waits cell way parked = (c.in-Some.ensures.some cell way).0 refl in
    let up : c.raised_by.result ≡ raised_by (stage s.cells c.args.t.0) = c.raised_by.ensures ∙ sym (ap raised_by st) in
    record {
      allowed = (cell, way, st, sym c.of.ensures ∙ not_some c.of.result (sym c.is_some.ensures ∙ c.if-is_some.false));
      state = λ i. record (c.set_idle.ensures.state i) { cleared = (c.set_idle.ensures.state i).cleared + up i };
      loads = c.set_idle.ensures.loads;
      limit = c.set_idle.ensures.same.limit;
    }
