-- The run of a table goes on from each of its moments to what stands, so the laws of later moments hold of that; and
-- closed words show what the words show at the end of their run.
use Rattle.std.proofs.Common.{◌<◌, ◌∙◌, ℕ, nat_eq, List, Option, sym, ap, subst, min}
use Rattle.atomic_table.specs.Table.{State}
use Rattle.tj_base.proofs.CyclesOn.{cycle_list_moves}
use Rattle.tj_body.specs.Programs.{Program}
use Rattle.tj_words.specs.AtRest.ClosedCells as closed
use Rattle.tj_words.specs.AtRest.ShownCells.{cell_of}
use Rattle.tj_words.specs.CallLaws.CallRuns.{CallRunsAreRuns}
use Rattle.tj_runs.specs.LastingWords.{CellsAreForGood}
use Rattle.tj_runs.specs.OwnRuns.{OwnRunsStand}
use Rattle.tj_words.specs.CallLaws.RestedRuns.{Ruled, last_moment}
use Rattle.tj_words.specs.Law.{Law}
use Rattle.tj_words.specs.LawParts.Contents.{Contents, contents_of, drawn_in}
use Rattle.tj_words.specs.Steps.StepEvents.{IsBegun}
use Rattle.tj_words.specs.Words.Offsets.{own_at, word}
use Rattle.tj_words.specs.declared.closed.RestCell.{RestCell}
use Rattle.tj_record.specs.declared.record.Rec.{Rec}
use Rattle.tj_words.specs.declared.view.View.{View}
use Rattle.tj_words.proofs.Lemmas.{begun_there}
use Rattle.tj_words.proofs.Meaning.RestingCells.{owner_forth}
use Rattle.tj_runs.specs.Moments.{contents_at}
use Rattle.tj_laws.specs.OwnMoments.{AlarmsAreClosed, KeepsTo, OwnMomentsStand}
use Rattle.tj_laws.specs.TableWaits.{HasAlarmed, IsCycle, Leads}
use Rattle.tj_runs.proofs.PhaseRows.{phases_for_good}
use Rattle.tj_laws.proofs.RestedWords.{rested_stay, stops_stay}
use Rattle.tj_laws.proofs.TableCycles.{every_moment}

pub own_moments_stand : (B : Type 0) → CallRunsAreRuns B → CellsAreForGood B → OwnRunsStand B → OwnMomentsStand B
own_moments_stand B runs lasting own program key s run w more last =
    let st = own program key s run w more last in
    let e = every_moment B runs program key w more st.moments in
    let x = contents_at program key w in (
      e.0,
      e.1,
      subst (λ (z : State (Option (Rec B)) (View B)). KeepsTo key.cells x (contents_of z)) st.last (record {
        alarms = e.2;
        cycles = e.3;
        phases = phases_for_good B program key w more st.moments;
        stop = stops_stay B program key w more st.moments;
        still = rested_stay B lasting program key w more st.moments;
      }),
    )

module _ {B : Type 0} {P : Program B} (s : State (Option (Rec B)) (View B)) (limit : ℕ)
    (r : Law P limit (contents_of s)) (shown : List RestCell)
    (each : (c : ℕ) → c < drawn_in limit (contents_of s) → closed.IsShown shown c (cell_of s.words c)) where
  abbrev x : Contents B
  x = contents_of s

  alarm_closed : (t : ℕ) → HasAlarmed x t → closed.HasAlarmed shown t
  alarm_closed t a = (
    cell_of s.words t,
    a.0,
    a.1,
    each t (begun_there r t (subst IsBegun (sym a.2) tt)).0,
    a.2,
  )

  leads_closed : (t u : ℕ) → Leads x t u → closed.Leads shown t u
  leads_closed t u l = let w = l.1 in (
    l.0,
    (cell_of s.words t, w.0, w.1, each t (begun_there r t (subst IsBegun (sym w.2) tt)).0, w.2),
    (
      cell_of s.words l.0.0,
      each l.0.0 (r.names.waits t l.0 w.0 w.1 w.2).0,
      owner_forth (word s.words (own_at l.0.0)) u l.2,
    ),
  )

  cycle_closed : (tasks : List ℕ) → IsCycle x tasks → closed.IsCycle shown tasks
  cycle_closed tasks = cycle_list_moves (Leads x) (closed.Leads shown) (λ a b c l m. leads_closed a b l) nat_eq tasks

pub alarms_closed : (B : Type 0) → OwnMomentsStand B → AlarmsAreClosed B
alarms_closed B stands program limit strict root seat cells records e w more last =
    let k = (stands program e.key e.last e.run w more last).2 in (
      (λ t h. alarm_closed e.last e.key.cells law cells each t (k.alarms t h)),
      (λ tasks c. cycle_closed e.last e.key.cells law cells each tasks (k.cycles tasks c).0),
    )
  where
    end : Ruled program e.key
    end = last_moment program e.key e.run.first e.run.later

    law : Law (program e.key.strict e.key.root.value) e.key.cells (contents_of e.last)
    law = subst (λ (z : State (Option (Rec B)) (View B)).
        Law (program e.key.strict e.key.root.value) e.key.cells (contents_of z)) e.run.end end.rule.law

    each : (c : ℕ) → c < drawn_in e.key.cells (contents_of e.last) → closed.IsShown cells c (cell_of e.last.words c)
    each c l = e.shown.each c (subst (λ n. c < n)
        (ap (min (contents_of e.last).words.count) e.key_cells ∙ sym e.shown.all) l)
