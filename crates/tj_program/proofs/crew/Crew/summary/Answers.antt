use Rattle.tj_program.proofs.Prelude.{IsScriptOf, generated_script, subst, sym, ◌∙◌}
use Rattle.tj_modes.proofs.Outputs.{if_ok, generated_of, never_refused}
use Rattle.tj_syntax.specs.View as view
use Rattle.tj_program.proofs.crew.Crew.summary.Goals as goal

pub returns-in-Ok : goal.returns-in-Ok
returns-in-Ok g c =
    let text = c.as_slice.ensures.value ∙ c.in_ok-text.ensures in
    let script = view.script c.in-Ok.script in
    if_ok c.run.result (λ given ran.
    (ran.0, (script, subst (λ t. IsScriptOf t script) text c.in-Ok.ensures.ok, ran.1), ran.2)) c.run.ensures

pub returns : goal.returns
returns g c =
    let text = c.as_slice.ensures.value ∙ c.in_ok-text.ensures in
    let generated = generated_of c.args.size (c.generated_text_is_a_script.ensures c.args.size c.requires.size.1) in
    if_ok c.refused_alone.result (λ given is.
    never_refused c.as_slice.result.now (generated_script c.args.size) c.in-Err.fault
    (subst (λ t. IsScriptOf t (generated_script c.args.size)) (sym text) generated) c.in-Err.ensures.refused is.2)
    c.refused_alone.ensures
