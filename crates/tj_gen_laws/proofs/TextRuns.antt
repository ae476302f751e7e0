-- The laws of runs of the generated text, from the laws of rounds: each such run begins with the body of the generated
-- script's `main`.
use Rattle.std.proofs.Common.{ℕ, suc, ◌≡◌, ◌≤◌, ◌<◌, pos, Bool, List, [], ◌∷◌, refl, sym, ap, ◌∙◌, subst, arith}
use Rattle.std.specs.Prelude.{◌+◌, ◌*◌, ◌-◌}
use Rattle.tj_base.specs.declared.cause.Cause.TheVariants as cause
use Rattle.tj_base.specs.declared.value.Shown.TheVariants as shown
use Rattle.tj_body.specs.declared.point.Close.TheVariants as close
use Rattle.tj_body.specs.declared.point.Entry.TheVariants as entry
use Rattle.tj_body.specs.declared.point.Value.TheVariants as value
use Rattle.tj_command.specs.OneScript.{IsOneScript}
use Rattle.tj_command.specs.declared.limits.Limits.{Limits}
use Rattle.tj_eval.specs.Statements.{task_of}
use Rattle.tj_eval.specs.declared.body.TheConstants.{MAX_STEPS}
use Rattle.tj_gen.specs.Script.{script_text}
use Rattle.tj_mean.specs.declared.outcome.Ending.TheVariants as ending
use Rattle.tj_body.specs.Rounds.{meaning}
use Rattle.tj_mean.specs.declared.outcome.Ending.{Ending}
use Rattle.tj_mean.proofs.Lists.Elements.{some_is}
use Rattle.tj_syntax.specs.Faults.{main_of}
use Rattle.tj_modes.specs.Generated.{IsGenerated, generated_script, main_task}
use Rattle.tj_modes.specs.Output.{IsStartOfText}
use Rattle.tj_modes.specs.Runs.{Start, start_of}
use Rattle.tj_syntax.specs.ScriptTexts.{IsScriptOf}
use Rattle.tj_gen_laws.specs.GeneratedRuns.{HoldsOfRuns, IsClean, MainEnds, MainFails, MainStops, TakesCells, but_one}
use Rattle.tj_gen_laws.specs.GeneratedRuns.{main_line, main_statements}
use Rattle.tj_gen_laws.proofs.MainPoints.{main_stopped, sum_to}
use Rattle.tj_gen_laws.proofs.MainSteps.{program}
use Rattle.tj_gen_laws.proofs.Meant.{all_well, full_is, is_clean, line_told, main_ends, main_fails, main_meant, root}
use Rattle.tj_gen_laws.proofs.Meant.{set}
use Rattle.tj_gen_laws.proofs.Rested.{AreRounds}
use Rattle.tj_gen_laws.proofs.Totals.{sum_is}

-- what the crates below say of the generated text, and of the rounds of its script
pub record AreKnown : Type 0 where
  pub script : (text : List ℕ) → IsOneScript text
  pub generated : (size : ℕ) → size ≤ 4000 → IsGenerated size
  pub rounds : (size limit : ℕ) (strict : Bool) → size ≤ 4000 → limit ≤ MAX_STEPS
      → AreRounds (program strict (root size limit))

module _ (known : AreKnown) where
  -- the generated script is the only one that the text is
  is_script : (size : ℕ) → size ≤ 4000 → IsScriptOf (script_text size) (generated_script size)
  is_script size h =
      let g = known.generated size h in
      let short = g.short in
      record { short = omega arith; tokens = g.tokens; has_tokens = g.has; is_script = g.is }

  -- what each run of the text begins with
  begins : (size : ℕ) (limits : Limits) (start : Start) → size ≤ 4000 → IsStartOfText limits (script_text size) start
      → start ≡ start_of limits.strict limits.cells (root size limits.steps)
  begins size limits start h (script, is, of_script) =
      let main = of_script.1 in
      let same : script ≡ generated_script size =
      (known.script (script_text size)).script script (generated_script size) is (is_script size h) in
      let first : main.0 ≡ main_task size = some_is main.0 (main_task size) (sym main.1 ∙ ap main_of same) in
      of_script.2 ∙ ap (start_of limits.strict limits.cells)
      (main.2 ∙ (λ i. task_of (same i) limits.steps (first i) []))

  -- so a law holds of each run that holds of the one that begins so
  holds : (least : ℕ → ℕ) (Law : ℕ → Limits → Start → Type 0) → ((size : ℕ) (limits : Limits) → 0 < size → size ≤ 4000
      → least size ≤ limits.steps → AreRounds (program limits.strict (root size limits.steps))
      → Law size limits (start_of limits.strict limits.cells (root size limits.steps))) → HoldsOfRuns least Law
  holds least Law law size limits start some small enough few is =
      subst (Law size limits) (sym (begins size limits start small is))
      (law size limits some small enough (known.rounds size limits.steps limits.strict small few))

  pub takes_cells : HoldsOfRuns but_one TakesCells
  takes_cells =
      holds but_one TakesCells (λ size limits some small enough rounds.
      let n = limits.steps - (3 * size + 7) in
      full_is size limits.steps limits.strict rounds some small n (omega arith) limits.cells)

  pub main_stops_well : HoldsOfRuns main_statements MainEnds
  main_stops_well =
      holds main_statements MainEnds (λ size limits some small enough rounds room.
      let m = limits.steps - (3 * size + 8) in
      let e : limits.steps ≡ 3 * size + 7 + suc m = omega arith in
      let x = set size limits.steps limits.strict rounds some small (suc m) e in
      let total = sum_is size in
      let ends : Ending = ending.Done (shown.Num (pos (sum_to size))) in
      let point = main_stopped size limits.steps size x.t [] m (x.places + 0 + 0 + 0)
      (close.Done (value.Num (pos (sum_to size)))) (entry.Value (value.Num (pos (sum_to size)))) in
      let meant = main_meant size limits.steps limits.strict rounds some small (suc m) e m (x.places + 0 + 0 + 0)
      (close.Done (value.Num (pos (sum_to size)))) (entry.Value (value.Num (pos (sum_to size))))
      (main_ends size limits.steps limits.strict rounds some small m e) limits.cells room in
      let stopped : MainStops limits (start_of limits.strict limits.cells (root size limits.steps))
      (pos (sum_to size) ∷ []) ends (main_statements size) =
      record {
        told = λ o is. line_told (meaning (program limits.strict (root size limits.steps)) limits.cells) point
            (record { line = main_line (pos (sum_to size) ∷ []) ends; holds = [] }) o is meant refl;
        point = point;
        meant = meant;
        stops = refl;
        steps = omega arith;
      } in
      subst (λ n. MainStops limits (start_of limits.strict limits.cells (root size limits.steps))
      (pos n ∷ []) (ending.Done (shown.Num (pos n))) (main_statements size)) total stopped)

  pub main_stops_short : HoldsOfRuns but_one MainFails
  main_stops_short =
      holds but_one MainFails (λ size limits some small enough rounds short room.
      let e : limits.steps ≡ 3 * size + 7 + 0 = omega arith in
      let x = set size limits.steps limits.strict rounds some small 0 e in
      let total = sum_is size in
      let ends : Ending = ending.Failed cause.Steps in
      let point = main_stopped size limits.steps size x.t [] 0 (x.places + 0 + 0 + 0) (close.Failed cause.Steps)
      entry.Broken in
      let meant = main_meant size limits.steps limits.strict rounds some small 0 e 0 (x.places + 0 + 0 + 0)
      (close.Failed cause.Steps) entry.Broken
      (main_fails size limits.steps limits.strict rounds some small e) limits.cells room in
      let stopped : MainStops limits (start_of limits.strict limits.cells (root size limits.steps))
      (pos (sum_to size) ∷ []) ends (but_one size) =
      record {
        told = λ o is. line_told (meaning (program limits.strict (root size limits.steps)) limits.cells) point
            (record { line = main_line (pos (sum_to size) ∷ []) ends; holds = [] }) o is meant refl;
        point = point;
        meant = meant;
        stops = refl;
        steps = omega arith;
      } in
      subst (λ n. MainStops limits (start_of limits.strict limits.cells (root size limits.steps)) (pos n ∷ []) ends
      (but_one size)) total stopped)

  pub runs_are_clean : HoldsOfRuns main_statements IsClean
  runs_are_clean =
      holds main_statements IsClean (λ size limits some small enough rounds room.
      let m = limits.steps - (3 * size + 8) in
      let e : limits.steps ≡ 3 * size + 7 + suc m = omega arith in
      is_clean (meaning (program limits.strict (root size limits.steps)) limits.cells)
      (all_well size limits.steps limits.strict rounds some small m e limits.cells room))
