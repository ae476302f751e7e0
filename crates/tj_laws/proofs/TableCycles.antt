-- The wait graph by the words is that of the core state that the words and views show; so what the core knows of
-- cycles and alarms is so of the words.
use Rattle.std.proofs.Common.{◌≡◌, ◌≢◌, ◌<◌, ℕ, nat_eq, Bool, List, ◌∷◌, Option, Some, None}
use Rattle.std.proofs.Common.{refl, sym, ap, ◌∙◌, subst, inl, inr, ⊎_elim, arith}
use Rattle.tj_base.proofs.CyclesOn.{cycle_list_moves}
use Rattle.tj_base.specs.declared.cell.CellId.{CellId}
use Rattle.tj_base.specs.declared.cell.Sort.{Sort}
use Rattle.tj_body.specs.Programs.{Program}
use Rattle.tj_events.specs.CoreState.{CellState, CoreState, alarmed, owner, stage, wait, wait_of, waits}
use Rattle.tj_events.specs.Runs.{AreAllowed, after_all}
use Rattle.tj_events.specs.StateLaws as core
use Rattle.tj_events.specs.declared.event.Event.{Event}
use Rattle.tj_events.specs.WaitGraph as graph
use Rattle.tj_events.specs.declared.walk.Way.{Way}
use Rattle.tj_events.proofs.Graph.ForkOrders.{waiter_there}
use Rattle.tj_events.proofs.Graph.WatchedCycles.{alarms_on_cycles, cycles_watched}
use Rattle.tj_events.proofs.Events.EventEffects.{event_keeps_alarms}
use Rattle.tj_events.proofs.Events.LegalRuns.{kept_by_run}
use Rattle.tj_words.specs.declared.phase.Phase.{Phase}
use Rattle.tj_words.specs.declared.phase.Phase.TheVariants as phase
use Rattle.tj_words.specs.declared.phase.Walk.{Walk}
use Rattle.tj_words.specs.declared.phase.Walk.TheVariants as walk
use Rattle.tj_record.specs.declared.record.Rec.{Rec}
use Rattle.tj_words.specs.declared.table.Key.{Key}
use Rattle.tj_words.specs.declared.view.Custody.{Custody}
use Rattle.tj_words.specs.declared.view.Hand.{Hand}
use Rattle.tj_words.specs.Law.{Law}
use Rattle.tj_words.specs.CallLaws.CallRuns.{CallRunsAreRuns, joined}
use Rattle.tj_words.specs.CallLaws.RestedRuns.{Ruled, last_moment}
use Rattle.tj_words.specs.LawParts.Contents.{Contents, core_shown, drawn_in, hand_of, held_of, home_of}
use Rattle.tj_words.specs.LawParts.Hands.{IsThere}
use Rattle.tj_words.specs.LawParts.ShownState.{hand_stage, phase_sort, stage_shown, stage_there}
use Rattle.tj_words.specs.Steps.StepEvents.{IsBegun, wait_in}
use Rattle.tj_words.specs.Words.Lists.{cell}
use Rattle.tj_words.proofs.Lemmas.{begun_there, cell_there, owner_out, parts_of, stage_out, wait_shown}
use Rattle.tj_runs.specs.Moments.{shown_at}
use Rattle.tj_laws.specs.TableWaits.{AlarmsAreOnCycles, AlarmsStay, CyclesAreWatched, CyclesStay, EveryMoment}
use Rattle.tj_laws.specs.TableWaits.{HasAlarmed, IsCycle, Leads, NoOtherWaitNoCycle, NoneWhereNoOther, Waits}
use Rattle.tj_laws.proofs.CoreCycles.{StandsOn, none_stands, stands_on}

-- a phase that names a cell waits for it
waits_back : (p : Phase) (c : ℕ) → wait_in p ≡ Some c
    → (d : CellId) × (way : Way) × (w : Walk) × (p ≡ phase.Waiting d way w) × (d.0 ≡ c)
waits_back p c e = grind arith

-- a cell in hand waits for none
hand_waits : (o : Sort) (c : ℕ) → wait_of (hand_stage o) ≡ Some c → ⊥
hand_waits o c e = grind arith

module _ {B : Type 0} (t : ℕ) (held : Option (Custody B)) (home : Option (Rec B)) where
  -- a task that has alarmed shows it
  alarm_shown : (o : Option ℕ) (p : Phase) (c : CellId) (way : Way) → o ≢ None
      → p ≡ phase.Waiting c way walk.Alarmed → stage_there t (phase_sort p) o p held home ≡ waits c.0 way alarmed
  alarm_shown o p c way n e = grind arith

  -- and what waits and shows it has alarmed
  alarm_told : (o : Option ℕ) (p : Phase) (d : CellId) (to : Way) (w : Walk) (c : ℕ) (way : Way) → o ≢ None
      → p ≡ phase.Waiting d to w → stage_there t (phase_sort p) o p held home ≡ waits c way alarmed
      → w ≡ walk.Alarmed
  alarm_told o p d to w c way n e s = grind arith

module _ {B : Type 0} {P : Program B} {cells : ℕ} {x : Contents B} (r : Law P cells x) where
  abbrev K : CoreState
  K = core_shown cells r.born r.maker x

  -- a task that waits in the core is there
  waiting_there : (t c : ℕ) → wait K.cells t ≡ Some c → IsThere (drawn_in cells x) (hand_of x) t
  waiting_there t c e = by (hand_of x t) refl where
    drawn : t < drawn_in cells x
    drawn = waiter_there K r.facts t c e

    shown : stage K.cells t ≡ stage_shown t (hand_of x t) (x.words.own t) (x.words.phase t) (held_of x t) (home_of x t)
    shown = ap (λ (z : CellState). z.stage) (cell_there r.born r.maker (parts_of cells x) t drawn)

    by : (o : Option Hand) → hand_of x t ≡ o → IsThere (drawn_in cells x) (hand_of x) t
    by None q = (drawn, q)
    by (Some h) q = absurd (hand_waits h.sort c (sym (ap wait_of (shown
        ∙ ap (λ (o : Option Hand). stage_shown t o (x.words.own t) (x.words.phase t) (held_of x t) (home_of x t)) q))
        ∙ e))

  -- waits by the words are those of the core
  pub wait_to : (t : ℕ) (c : CellId) → Waits x t c → wait K.cells t ≡ Some c.0
  wait_to t c w =
      wait_shown r t (begun_there r t (subst IsBegun (sym w.2) tt)) ∙ ap wait_in w.2

  pub wait_from : (t c : ℕ) → wait K.cells t ≡ Some c → Waits x t (cell c)
  wait_from t c e =
      let p = waits_back (x.words.phase t) c (sym (wait_shown r t (waiting_there t c e)) ∙ e) in
      subst (λ (k : ℕ). Waits x t (cell k)) p.4 (p.1, p.2, p.3)

  -- and so are its owners, of cells for which somebody waits
  owner_there : (t : ℕ) (c : CellId) → Waits x t c → owner K.cells c.0 ≡ x.words.own c.0
  owner_there t c w = let there = r.names.waits t c w.0 w.1 w.2 in
      owner_out r.born r.maker (parts_of cells x) c.0 there.0 there.1

  leads_to : (t u : ℕ) → Leads x t u → graph.Leads K.cells t u
  leads_to t u l = (l.0.0, wait_to t l.0 l.1, owner_there t l.0 l.1 ∙ l.2)

  leads_from : (t u : ℕ) → graph.Leads K.cells t u → Leads x t u
  leads_from t u l = let w = wait_from t l.0 l.1 in (cell l.0, w, sym (owner_there t (cell l.0) w) ∙ l.2)

  pub cycle_to : (tasks : List ℕ) → IsCycle x tasks → graph.IsCycle K.cells tasks
  cycle_to tasks = cycle_list_moves (Leads x) (graph.Leads K.cells) (λ a b c l m. leads_to a b l) nat_eq tasks

  pub cycle_from : (tasks : List ℕ) → graph.IsCycle K.cells tasks → IsCycle x tasks
  cycle_from tasks = cycle_list_moves (graph.Leads K.cells) (Leads x) (λ a b c l m. leads_from a b l) nat_eq tasks

  -- alarms by the words are those of the core
  pub alarm_to : (t : ℕ) → HasAlarmed x t → core.HasAlarmed K t
  alarm_to t a = let there = begun_there r t (subst IsBegun (sym a.2) tt) in (
    a.0.0,
    a.1,
    stage_out r.born r.maker (parts_of cells x) t there.0 there.1
        ∙ alarm_shown t (held_of x t) (home_of x t) (x.words.own t) (x.words.phase t) a.0 a.1
        (r.waiters_own t a.0 a.1 walk.Alarmed a.2) a.2,
  )

  pub alarm_from : (t : ℕ) → core.HasAlarmed K t → HasAlarmed x t
  alarm_from t a =
      let e : wait K.cells t ≡ Some a.0 = ap wait_of a.2 in
      let there = waiting_there t a.0 e in
      let p = wait_from t a.0 e in
      let is = alarm_told t (held_of x t) (home_of x t) (x.words.own t) (x.words.phase t) (cell a.0) p.0 p.1 a.0 a.1
      (r.waiters_own t (cell a.0) p.0 p.1 p.2) p.2
      (sym (stage_out r.born r.maker (parts_of cells x) t there.0 there.1) ∙ a.2) in
      (cell a.0, p.0, p.2 ∙ ap (phase.Waiting (cell a.0) p.0) is)

  -- a task that has alarmed is on a cycle
  pub alarms_cycle : AlarmsAreOnCycles x
  alarms_cycle t a = let c = alarms_on_cycles K t r.facts (alarm_to t a) in (c.0, cycle_from (t ∷ c.0) c.1)

  -- where OTHERS is 0 none stands
  pub none_stands_here : NoneWhereNoOther x
  none_stands_here e tasks c = none_stands K r.facts e tasks (cycle_to tasks c)

-- what stands at one moment stands at a later one, where the core state is that after some events
module _ {B : Type 0} {P : Program B} {cells : ℕ} {x y : Contents B} (r : Law P cells x) (q : Law P cells y) where
  abbrev from : CoreState
  from = core_shown cells r.born r.maker x

  abbrev to : CoreState
  to = core_shown cells q.born q.maker y

  module _ (es : List Event) (a : AreAllowed cells from es) (same : to ≡ after_all from es) where
    pub cycles_stay : CyclesStay x y
    cycles_stay tasks c =
        let s = subst (StandsOn from tasks) (sym same)
        (stands_on from tasks cells es r.facts a (cycle_to r tasks c)) in (
          cycle_from q tasks s.0,
          λ t d has w. wait_from q t d.0 (s.1 t d.0 has (wait_to r t d w)),
        )

    pub alarms_stay : AlarmsStay x y
    alarms_stay t h = let c = alarm_to r t h in alarm_from q t (
      c.0,
      c.1,
      subst (λ (s : CoreState). stage s.cells t ≡ waits c.0 c.1 alarmed) (sym same)
          (kept_by_run cells (λ s. stage s.cells t ≡ waits c.0 c.1 alarmed)
          (λ s e f e_allowed. event_keeps_alarms cells s e t c.0 c.1 f e_allowed) from es r.facts a c.2),
    )

module _ {B : Type 0} (program : Bool → B → Program B) (key : Key B) (u : Ruled program key) where
  -- a cycle has a member that has alarmed, or whose walk isn't at its end
  pub cycles_watched_here : CyclesAreWatched program key u
  cycles_watched_here tasks c = let w = cycles_watched (shown_at program key u) tasks u.rule.law.facts
      (cycle_to u.rule.law tasks c) in (
        w.0,
        w.1,
        ⊎_elim (λ h. inl (alarm_from u.rule.law w.0 h)) (λ h. inr h) w.2,
      )

pub every_moment : (B : Type 0) → CallRunsAreRuns B → EveryMoment B
every_moment B runs program key u later a =
    let g = runs program key u later a in let es = joined g.0 in (
      alarms_cycle u.rule.law,
      cycles_watched_here program key u,
      alarms_stay u.rule.law (last_moment program key u later).rule.law es g.2.0 g.2.1,
      cycles_stay u.rule.law (last_moment program key u later).rule.law es g.2.0 g.2.1,
    )

pub no_other_no_cycle : (B : Type 0) → NoOtherWaitNoCycle B
no_other_no_cycle B program key u = none_stands_here u.rule.law
