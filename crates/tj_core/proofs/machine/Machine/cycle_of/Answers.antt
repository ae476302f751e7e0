use Rattle.std.proofs.Common.{◌≡◌, ℕ, ◌<◌, ◌≤◌, nat_eq, List, [], ◌∷◌, ◌++◌, map, Some, None, length, subst, sym, ap, ◌∙◌, arith, add-one}
use Rattle.std.proofs.Common.{⊎_elim}
use Rattle.std.proofs.lemmas.Bool.{cases_lt}
use Rattle.std.proofs.lemmas.List.{map-append}
use Rattle.tj_core.specs.declared.slot.Slot.{Slot}
use Rattle.tj_events.specs.CoreState.{wait_of, promise}
use Rattle.tj_core.specs.Inner.Columns.{stage_in}
use Rattle.tj_core.specs.Inner.Slots.{stage_of}
use Rattle.tj_core.specs.Inner.Machine.{state_of}
use Rattle.tj_base.specs.declared.cell.CellId.{CellId}
use Rattle.tj_events.specs.WaitGraph.{Leads}
use Rattle.tj_events.proofs.Graph.WaitSteps.{leads_one, same_numbers}
use Rattle.tj_core.proofs.Columns.ColumnLists.{column_beyond}
use Rattle.tj_base.proofs.CycleWays.{IsOnWay, way_starts, way_goes_on, way_closes, way_stops, way_ends}
use Rattle.tj_events.proofs.Graph.CycleLists.{cycle_fits_there}
use Rattle.tj_core.proofs.machine.Machine.cycle_of.Goals as goal

-- one task more
pushed : (tasks more : List CellId) (cell : CellId) → more ≡ tasks ++ cell ∷ []
    → map (λ c. c.0) more ≡ map (λ c. c.0) tasks ++ cell.0 ∷ []
pushed tasks more cell e = ap (map (λ (c : CellId). c.0)) e ∙ map-append (λ (c : CellId). c.0) tasks (cell ∷ [])

pub loop-step-init : goal.loop-step-init
loop-step-init c =
    let s = (state_of c.args.self.now).cells in let t = c.args.t in
    subst (λ (l : List CellId). IsOnWay (Leads s) t t 0 (map (λ c. c.0) l)) (sym c.new-tasks.ensures.items)
    (way_starts (Leads s) t)

pub loop-step-preserved : goal.loop-step-preserved
loop-step-preserved c =
    let s = (state_of c.args.self.now).cells in
    way_goes_on (Leads s) (leads_one s) c.args.t c.loop-step.at c.loop-step._step
    (map (λ c. c.0) c.loop-step.tasks.items)
    c.loop-step.invariant c.in-Some.next c.in-Some.ensures (map (λ c. c.0) c.push.new.self.items)
    (pushed c.loop-step.tasks.items c.push.new.self.items (record { 0 = c.loop-step.at }) c.in_ok-push.ensures.items)
    c.if-next-t.false _ (add-one c.loop-step._step)

pub returns-in_default : goal.returns-in_default
returns-in_default c =
    let s = (state_of c.args.self.now).cells in
    way_stops (Leads s) (leads_one s) c.args.t c.loop-step.at c.loop-step._step (map (λ c. c.0) c.loop-step.tasks.items)
    c.loop-step.invariant c.in_default.ensures

pub returns-then-next-t : goal.returns-then-next-t
returns-then-next-t c =
    let s = (state_of c.args.self.now).cells in
    way_closes (Leads s) (leads_one s) c.args.t c.loop-step.at c.loop-step._step
    (map (λ c. c.0) c.loop-step.tasks.items)
    c.loop-step.invariant c.in-Some.next c.in-Some.ensures (map (λ c. c.0) c.push.new.self.items)
    (pushed c.loop-step.tasks.items c.push.new.self.items (record { 0 = c.loop-step.at }) c.in_ok-push.ensures.items)
    nat_eq same_numbers c.if-next-t.true

-- a task that waits is there
waits_there : (slots : List Slot) (t c : ℕ) → wait_of (stage_in slots t) ≡ Some c → t < length slots
waits_there slots t c e = ⊎_elim
    (λ (h : t < length slots). h)
    (λ (h : length slots ≤ t). let f = ap wait_of (column_beyond stage_of slots t promise h) in let g : None ≡ Some
    c = sym f ∙ e in absurd (cc))
    (cases_lt t (length slots))

pub returns : goal.returns
returns c =
    let m = c.args.self.now in let s = state_of m in
    way_ends (Leads s.cells) (leads_one s.cells) c.args.t c.loop-step.at c.loop-step._step
    (map (λ c. c.0) c.loop-step.tasks.items) c.loop-step.invariant
    (λ n on. let few = cycle_fits_there s c.args.t n on
    (λ t k e. let h = waits_there m.slots.items t k e in let same = m.there in omega arith) in
    let all = c.count-step-end.ensures in let far = c.loop-step-test.false in omega arith)
