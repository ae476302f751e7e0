-- The statement that is told to have made most of the first cells of a full run stands at a token of the input.
use Rattle.std.proofs.Common.{◌≡◌, ℕ, List, refl, sym, ap, subst, ◌∙◌, inl, inr}
use Rattle.tj_command.specs.declared.status.Status.{Status}
use Rattle.tj_command.specs.declared.status.Status.TheVariants.{Full, Script}
use Rattle.tj_eval.specs.Stands.{IsPlacedMain, PlacedState}
use Rattle.tj_mean.specs.Outcomes.{is_marked}
use Rattle.tj_syntax.specs.Grammar.{IsProgram}
use Rattle.tj_syntax.specs.PlacesOf.{places_of}
use Rattle.tj_syntax.specs.ScriptTexts.{IsScriptOf}
use Rattle.tj_syntax.specs.Starts.{in_tasks}
use Rattle.tj_syntax.specs.Trees.{Task}
use Rattle.tj_trace.specs.SpotLaws.{HasPlace}
use Rattle.tj_trace.proofs.MostPlaced.{most_has_a_place}
use Rattle.tj_forest.proofs.Placed.{main_right}
use Rattle.tj_explain.proofs.FullStands.{all_there}
use Rattle.tj_explain.proofs.Readings.{one_command}
use Rattle.tj_explain.proofs.ToldFindings.{no_full}
use Rattle.tj_explain.specs.FullPlaces.{TellsFull, TextsTellFull}
use Rattle.tj_explain.specs.PlaceLaws.{PlacesAreOfTokens}
use Rattle.tj_explain.specs.Tellings.{full_told}
use Rattle.tj_explain.specs.ToldFindings.{own_places}
use Rattle.tj_explain.specs.WhyOutput.{IsCommandOutput, IsOutput, IsToldRun, ended, needs_more, of_command}
use Rattle.tj_explain.specs.WhyOutput.{scene_of, usage, was_fine}
use Rattle.tj_explain.specs.declared.line.WhyCommand.{WhyCommand}

module _ (of_tokens : PlacesAreOfTokens) (command : WhyCommand) (input : List ℕ) where
  -- a run that is told to need more cells
  of_run : (script : List Task) (is : IsScriptOf input script) (root : PlacedState)
      → IsPlacedMain script command.limits.steps root → (status : Status) (text : List ℕ)
      → IsToldRun command input script is.tokens root status text → status ≡ Full → TellsFull command input text
  of_run script is root main _ _ (needs_more most places full made placed) e =
      let strict = command.limits.strict in
      let cells = command.limits.cells in
      let facts = main_right script command.limits.steps root main in
      let there : (d : IsProgram is.is_script.notes root.task.script)
      → HasPlace (places_of is.tokens (in_tasks d 0)) most.maker.decl most.maker.at =
      λ d. most_has_a_place strict root cells most facts.0 made is.tokens is.is_script.notes d in
      let here : places ≡ own_places input script is =
      placed is.is_script.notes script is.is_script.derived is.is_script.spells in record {
        script = script;
        is = is;
        root = root;
        main = main;
        full = full;
        most = most;
        made = made;
        stood = all_there strict root made.round made.others made.makers made.are_made;
        stands = of_tokens input script is most.maker.decl most.maker.at (subst (λ s. (d : IsProgram is.is_script.notes s)
            → HasPlace (places_of is.tokens (in_tasks d 0)) most.maker.decl most.maker.at)
            facts.1 there is.is_script.derived);
        told = ap (λ z. full_told command.telling (scene_of command input script z) cells most) here;
      }
  of_run script is root main _ _ (was_fine o room out plain) e = absurd (cc)
  of_run script is root main _ _ (ended o ls ps room out traced placed) e = absurd (no_full (is_marked o) (sym e))

  -- an output of the command with the status of such a run
  of_output : (status : Status) (text : List ℕ) → IsCommandOutput command input status text → status ≡ Full
      → TellsFull command input text
  of_output status text (inl fault) e = absurd (let z : Script ≡ Full = sym fault.is_script ∙ e in cc)
  of_output status text (inr told) e = of_run told.script told.is told.root told.main status text told.told e

-- the law, where positions are those of tokens
pub texts_tell_full : PlacesAreOfTokens → TextsTellFull
texts_tell_full of_tokens words input text out command is = by Full text out refl where
  by : (status : Status) (text : List ℕ) → IsOutput words input status text → status ≡ Full
      → TellsFull command input text
  by status text (usage none) e = absurd (cc)
  by status text (of_command other are out) e = of_output of_tokens command input status text
      (subst (λ k. IsCommandOutput k input status text) (one_command words other command are is) out) e
