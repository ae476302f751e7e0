-- Where a walk has ended, no cycle through its task stood just after the task had published: the calls between are a
-- run of the core, at whose end the task may settle.
use Rattle.tj_words.proofs.Prelude.{Allowed, AreAskedMoments, Bool, CoreState, Event, List, Program, Ruled, [], ap}
use Rattle.tj_words.proofs.Prelude.{cell, events_by, get_elem?, joined, last_moment, phase_events, place_of, some}
use Rattle.tj_words.proofs.Prelude.{state_of, subst, under, word, ℕ, ◌∙◌, ◌∷◌, ◌≡◌}
use Rattle.tj_words.specs.declared.table.Key.{Key}
use Rattle.tj_words.specs.declared.view.View.{View}
use Rattle.tj_events.specs.WaitGraph.{IsOnCycle}
use Rattle.tj_events.proofs.Events.LegalRuns.{settles_off_cycles}
use Rattle.tj_runs.specs.Verdicts.{EndedWalksAreOffCycles, HasEndedWalk, PublishesAt, IsOnCycleAt}
use Rattle.tj_runs.proofs.CallRuns.{all_go, calls_are_steps}
use Rattle.tj_runs.proofs.TableRuns.{GoesTo, goes_on}
use Rattle.tj_words.proofs.Events.WalkersShown.{walker_shown}
use Rattle.tj_events.specs.declared.event.Event.TheVariants as event

module _ {B : Type 0} (program : Bool → B → Program B) (key : Key B) (u w : Ruled program key) (t p : ℕ)
    (e : PublishesAt program key u w t p) where
  abbrev P : Program B
  P = program key.strict key.root.value

  abbrev from : CoreState
  from = state_of P key.cells (under program key u)

  abbrev published : Event
  published = event.Publish (cell t) (cell p)

  -- the call is that event
  publish_step : GoesTo P key.cells (under program key u) (under program key w) (published ∷ [])
  publish_step = let h = calls_are_steps B program key u w.now e.publish in
      subst (GoesTo P key.cells (under program key u) (under program key w)) (its_events h.0 h.1)
      (h.2.0, h.2.1 w.rule.law)
    where
      its_events : (es : List Event)
          → events_by key.cells e.publish.made.call e.publish.made.operands
          (word u.now.words (place_of e.publish.made.call)) e.publish.made.seat.0 es
          → es ≡ published ∷ []
      its_events es h = subst (λ a. events_by key.cells a e.publish.made.operands (word u.now.words (place_of a))
          e.publish.made.seat.0 es) e.is h ∙ ap (phase_events t) e.waits

  module _ (later : List (Ruled program key)) (a : AreAskedMoments program key w later) (id : ℕ) (v : View B)
      (at : get_elem? (last_moment program key w later).now.views id ≡ some v) (h : HasEndedWalk t v) where
    abbrev last : Ruled program key
    last = last_moment program key w later

    may_settle : Allowed key.cells (state_of P key.cells (under program key last)) (event.Settle (cell t))
    may_settle = (
      h.wait,
      h.way,
      h.walker,
      walker_shown program key last.now last.rule id v at t h.task h.held
          h.wait h.way h.walker h.does,
      h.may,
    )

    off_cycle : ¬ IsOnCycleAt program key t w
    off_cycle on = let g = all_go program key w later a in let es = joined g.0 in
        let run = goes_on P key.cells (under program key u) (under program key w) (under program key last)
        (published ∷ []) es publish_step g.2 in
        settles_off_cycles key.cells from (cell t) (cell p) es u.rule.law.facts run.0
        (subst (λ s. Allowed key.cells s (event.Settle (cell t))) run.1 may_settle)
        (subst (λ s. IsOnCycle s.cells t) publish_step.1 on)

pub ended_walks_off_cycles : (B : Type 0) → EndedWalksAreOffCycles B
ended_walks_off_cycles B program key u w later t p id v e a at h =
    off_cycle program key u w t p e later a id v at h
