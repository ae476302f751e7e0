-- What stands after a run, by what closes its table; and that a run which was stopped as full has a full meaning.
use Rattle.tj_run.proofs.Prelude.{Bool, HasStopped, Laid, Leaves, Left, Program, SeatMe, Why, [], ap, first_view}
use Rattle.tj_run.proofs.Prelude.{Option, length, subst, ℕ, ◌∙◌, ◌≡◌, ◌≤◌}
use Rattle.tj_body.specs.Rounds.{IsFull}
use Rattle.tj_log.specs.Shown.{SeatShown}
use Rattle.tj_words.specs.AtRest.ClosedCells.{AreAtRest, AreCyclesAlarmed, AreAlarmsOnCycles}
use Rattle.tj_words.specs.AtRest.EndedRuns.{RestEndsRun}
use Rattle.tj_words.specs.AtRest.RestMeaning.{HaveMeaning, AreCyclesOfMeaningAlarmed}
use Rattle.tj_words.specs.AtRest.RestShown.{RestShown}
use Rattle.tj_words.specs.AtRest.RestValues.{AreValuesOfMeaning}
use Rattle.tj_words.specs.AtRest.ShownCells.{AreCellsOf}
use Rattle.tj_record.specs.declared.record.Rec.{Rec}
use Rattle.tj_words.specs.declared.view.View.{View}
use Rattle.tj_run.specs.Runs.{EndsItsRun, RestsAt}
use Rattle.tj_run.specs.declared.why.Left.TheVariants as left
use Rattle.tj_run.specs.declared.why.Why.TheVariants as why

module _ {B : Type 0} (program : Bool → B → Program B) (root : B) (cells : ℕ) (strict : Bool) (laid : Laid B)
    (of_cells : laid.cells ≡ cells) (of_strict : laid.strict ≡ strict) (of_root : laid.root.value ≡ root) where
  -- what holds of the table's own program holds of the program that was to run
  of_run : (F : ℕ → Program B → Type 0) → F laid.cells (program laid.strict laid.root.value)
      → F cells (program strict root)
  of_run F h = subst (λ n. F n (program strict root)) of_cells
      (subst (λ b. F laid.cells (program b root)) of_strict
      (subst (λ x. F laid.cells (program laid.strict x)) of_root h))

  ends_its_run : (seat : SeatShown (Option (Rec B)) (View B)) (r : RestShown B)
      → RestEndsRun program laid.cells laid.strict laid.root.value seat r → EndsItsRun program root cells strict r
  ends_its_run seat r rests = let e = rests.ends in (
    seat,
    record {
      ends = record {
        key = e.key;
        key_cells = e.key_cells ∙ of_cells;
        key_strict = e.key_strict ∙ of_strict;
        key_root = e.key_root ∙ of_root;
        last = e.last;
        run = e.run;
        seat_is = e.seat_is;
        log = e.log;
        took = e.took;
        befores = e.befores;
        took_befores = e.took_befores;
        shown = subst (λ n. AreCellsOf e.last.words n r.cells) of_cells e.shown;
        home = e.home;
      };
      words = rests.words;
    },
  )

  pub rests_at : (r : RestShown B) → r.limit ≡ laid.cells → r.root ≡ laid.root.value → r.strict ≡ laid.strict
      → length r.cells ≤ laid.cells
      → AreAtRest r.cells
      → HaveMeaning (program laid.strict laid.root.value) laid.cells r.cells r.records
      → AreCyclesAlarmed r.cells
      → AreAlarmsOnCycles r.cells
      → AreCyclesOfMeaningAlarmed (program laid.strict laid.root.value) laid.cells r.cells
      → AreValuesOfMeaning (program laid.strict laid.root.value) laid.cells r.cells r.words
      → (seat : SeatShown (Option (Rec B)) (View B))
      → RestEndsRun program laid.cells laid.strict laid.root.value seat r → RestsAt program root cells strict r
  rests_at r limit root_is strict_is drawn rest meaning cycles alarms meant values seat ends = record {
    names_limit = limit ∙ of_cells;
    names_root = root_is ∙ of_root;
    names_strict = strict_is ∙ of_strict;
    drawn = subst (λ n. length r.cells ≤ n) of_cells drawn;
    rest = rest;
    meaning = of_run (λ n p. HaveMeaning p n r.cells r.records) meaning;
    cycles = cycles;
    alarms = alarms;
    meant_cycles = of_run (λ n p. AreCyclesOfMeaningAlarmed p n r.cells) meant;
    values = of_run (λ n p. AreValuesOfMeaning p n r.cells r.words) values;
    run = ends_its_run seat r ends;
  }

-- what a stop as full tells of a run that begins with the first seat
pub full_told : {B : Type 0} (program : Bool → B → Program B) (root : B) (cells : ℕ) (strict : Bool) (how : Left)
    (cause : Why) → how ≡ left.Stopped cause → cause ≡ why.Full
    → (old new : SeatMe B) → old ≡ (first_view cells root strict, [])
    → Leaves program how old.0 new
    → IsFull (program strict root) cells
full_told program root cells strict how cause e f old new first h =
    let full : how ≡ left.Stopped why.Full = e ∙ ap left.Stopped f in
    let told : HasStopped program why.Full old.0 new.0 = subst (λ x. Leaves program x old.0 new) full h in
    told.told (record { root = root; cells = cells; strict = strict }) (ap (λ (m : SeatMe _). m.0.about) first)
