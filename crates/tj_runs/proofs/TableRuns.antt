-- The steps of a table, one after the other, are a run of the core: each is one event or none, and what it leaves is
-- what the next moment shows.
use Rattle.tj_words.proofs.Prelude.{Bool, Contents, CoreState, Event, Law, List, Program, [], after, ap, arith}
use Rattle.tj_words.proofs.Prelude.{contents_of, core_shown, draw_event, drawn_in, first_slots, first_view}
use Rattle.tj_words.proofs.Prelude.{first_words, inl, inr, map, min, opening, reference_of, refl, root_alone}
use Rattle.tj_words.proofs.Prelude.{seats_have, some, state_of, subst, sym, to_task, ℕ, ⊎_elim, ◌++◌, ◌<◌, ◌∙◌, ◌∷◌}
use Rattle.tj_words.proofs.Prelude.{◌≡◌, ◌⊎◌}
use Rattle.tj_words.specs.declared.view.Hand.{Hand}
use Rattle.tj_words.proofs.Lemmas.{DrawsCell, KeepsCells, Parts, ShowsEvent, ShowsNothing}
use Rattle.tj_words.specs.Steps.TableRuns.{Under}
use Rattle.tj_events.specs.Runs.{after_all, AreAllowed, IsLegalRun}
use Rattle.tj_words.proofs.Events.DrawEvents.{draw_shown}
use Rattle.tj_words.proofs.Seating.FirstWords.{first_words_say}
use Rattle.tj_runs.proofs.OneStates.{chained, drawn_chained, keeps_itself, root_name, shown_with}
use Rattle.tj_words.proofs.Seating.Opening.{first_contents, first_shown}

-- events after events
allowed_more : (n : ℕ) (s : CoreState) (es fs : List Event) → AreAllowed n s es → AreAllowed n (after_all s es) fs
    → AreAllowed n s (es ++ fs)
allowed_more n s [] fs a b = b
allowed_more n s (e ∷ es) fs a b = (a.0, allowed_more n (after s e) es fs a.1 b)

after_more : (s : CoreState) (es fs : List Event) → after_all s (es ++ fs) ≡ after_all (after_all s es) fs
after_more s [] fs = refl
after_more s (e ∷ es) fs = after_more (after s e) es fs

module _ {B : Type 0} (program : Program B) (cells : ℕ) where
  -- what a step shows: one event or none where it draws no cell, and else its Make or Fork
  abbrev Shows : Under program cells → List Event → Contents B → Type 0
  Shows u es y = ((drawn_in cells y ≡ drawn_in cells u.now)
      × (((es ≡ []) × ShowsNothing cells u.law.born u.law.maker u.now y)
      ⊎ ((e : Event) × (es ≡ e ∷ []) × ShowsEvent cells u.law.born u.law.maker u.now y e u.law.born u.law.maker)))
      ⊎ ((id : ℕ) × (t : ℕ) × (h : Hand) × (es ≡ draw_event h.sort t ∷ []) × DrawsCell cells u.now y id t h)

  -- and makers and numbers of the cells that were there stay
  pub record IsStep (u : Under program cells) (es : List Event) (y : Contents B) : Type 0 where
    pub keeps : KeepsCells cells u.now y
    pub shows : Shows u es y

  -- events that are allowed from what is shown of u on, after which that of w is shown
  abbrev pub GoesTo : Under program cells → Under program cells → List Event → Type 0
  GoesTo u w es = AreAllowed cells (state_of program cells u) es
      × (state_of program cells w ≡ after_all (state_of program cells u) es)

  -- events that are allowed from what is shown of u on, after which that of y is shown, if it is under the law
  abbrev pub GoesOver : Under program cells → Contents B → List Event → Type 0
  GoesOver u y es = AreAllowed cells (state_of program cells u) es
      × ((r : Law program cells y) → core_shown cells r.born r.maker y ≡ after_all (state_of program cells u) es)

  pub steps_by : (u : Under program cells) (y : Contents B) (es : List Event) → IsStep u es y → GoesOver u y es
  steps_by u y es step = by step.shows where
    by : Shows u es y → GoesOver u y es
    by (inl s) = let same = s.0 in
        let next = λ (r : Law program cells y). chained u.law r step.keeps (omega (arith, same)) same in
        ⊎_elim (λ q. subst (GoesOver u y) (sym q.0) (tt, λ r. next r ∙ q.1))
        (λ q. subst (GoesOver u y) (sym q.1) ((q.2.allowed, tt), λ r. next r ∙ q.2.shown)) s.1
    by (inr d) = let shows = draw_shown u.law y d.0 d.1 d.2 d.4 in let more = ap (λ (z : Parts B). z.drawn) d.4.parts in
        subst (GoesOver u y) (sym d.3) (
          (shows.allowed, tt),
          λ r. drawn_chained u.law r step.keeps (omega (arith, more)) d.0 d.1 d.2 d.4 ∙ shows.shown,
        )

  pub one_step : (u w : Under program cells) (es : List Event) → IsStep u es w.now → GoesTo u w es
  one_step u w es step = let g = steps_by u w.now es step in (g.0, g.1 w.law)

  -- events and more events
  pub goes_on : (u w v : Under program cells) (es fs : List Event) → GoesTo u w es → GoesTo w v fs
      → GoesTo u v (es ++ fs)
  goes_on u w v es fs first others = (
    allowed_more cells (state_of program cells u) es fs first.0
        (subst (λ z. AreAllowed cells z fs) first.1 others.0),
    others.1 ∙ (ap (λ z. after_all z fs) first.1 ∙ sym (after_more (state_of program cells u) es fs)),
  )

-- a new table shows the root alone, whatever law it is under
first_root : {B : Type 0} (program : Program B) (cells : ℕ) (some_cells : 0 < cells) (root : B) (strict : Bool)
    (u : Under program cells)
    → u.now ≡ contents_of (opening (first_words cells) (first_slots cells root) (first_view cells root strict))
    → state_of program cells u ≡ root_alone
first_root program cells some_cells root strict u e =
    shown_with u.law u.law (keeps_itself cells u.now) (omega arith) (to_task [] ∷ []) (λ _. 0)
    (λ c l. ap u.law.maker (at_root c l) ∙ u.law.births.root_maker)
    (λ c l. ap (λ k. (reference_of u.law.born k).name) (at_root c l) ∙ (root_name u.law
    ∙ sym (ap (λ k. (reference_of (to_task [] ∷ []) k).name) (at_root c l))))
    ∙ (ap (core_shown cells (to_task [] ∷ []) (λ _. 0)) first ∙ first_shown cells some_cells root strict)
  where
    first : u.now ≡ first_contents cells some_cells root strict
    first = e ∙ ap (λ w. record {
      words = w;
      slots = map some (first_slots cells root);
      seats = seats_have (first_view cells root strict ∷ []);
    }) (first_words_say cells some_cells)

    drawn : drawn_in cells u.now ≡ min 1 cells
    drawn = ap (drawn_in cells) first

    at_root : (c : ℕ) → c < drawn_in cells u.now → c ≡ 0
    at_root c l = let d = drawn in omega arith

-- so from a new table on, such events are a legal run of the core
pub runs_are_legal : {B : Type 0} (program : Program B) (cells : ℕ) → 0 < cells → (root : B) (strict : Bool)
    (u w : Under program cells) (es : List Event)
    → u.now ≡ contents_of (opening (first_words cells) (first_slots cells root) (first_view cells root strict))
    → GoesTo program cells u w es
    → IsLegalRun cells es × (state_of program cells w ≡ after_all root_alone es)
runs_are_legal program cells some_cells root strict u w es e goes =
    let r = first_root program cells some_cells root strict u e in
    (subst (λ s. AreAllowed cells s es) r goes.0, goes.1 ∙ ap (λ s. after_all s es) r)
