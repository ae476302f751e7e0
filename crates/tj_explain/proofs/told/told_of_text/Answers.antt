use Rattle.std.proofs.Common.{[], refl, inl, inr, ⊎_elim, subst, sym}
use Rattle.tj_syntax.proofs.ScriptTexts.{grammar_first, token_first}
use Rattle.tj_syntax.specs.declared.script_text.NoScript.TheVariants.{Grammar, Tokens}
use Rattle.tj_lex.specs.Tokens.{AreTokens}
use Rattle.tj_syntax.specs.View as view
use Rattle.tj_explain.proofs.ToldInputs.{fault_told, script_told}
use Rattle.tj_explain.proofs.told.told_of_text.Goals as goal

pub returns-in-Err : goal.returns-in-Err
returns-in-Err c = fault_told c.args.command c.args.text.now [] (Tokens c.in-Err.fault) c.told_fault.result
    c.requires.short refl (token_first c.args.text.now c.in-Err.fault c.requires.short c.in-Err.ensures.fault)
    (c.told_fault.ensures.status, c.told_fault.ensures.text, c.told_fault.ensures.none)

pub told_script-requires-clause-script : goal.told_script-requires-clause-script
told_script-requires-clause-script c =
    c.in-Ok-parsed.ensures.ok c.as_slice.result.now
    (subst (AreTokens c.args.text.now) (sym c.as_slice.ensures.value) c.in-Ok.ensures.ok)

pub returns-in-Ok-parsed : goal.returns-in-Ok-parsed
returns-in-Ok-parsed c =
    let script = view.script c.in-Ok-parsed.script in
    let has = subst (AreTokens c.args.text.now) (sym c.as_slice.ensures.value) c.in-Ok.ensures.ok in
    script_told c.args.command c.args.text.now c.as_slice.result.now script c.told_script.result
    c.requires.short has (c.in-Ok-parsed.ensures.ok c.as_slice.result.now has) c.told_script.ensures

pub returns : goal.returns
returns c =
    let text = c.args.text.now in
    let tokens = c.as_slice-in-Err-parsed.result.now in
    let has = subst (AreTokens text) (sym c.as_slice-in-Err-parsed.ensures.value) c.in-Ok.ensures.ok in
    let fault = ⊎_elim inl (λ first. inr (first tokens has)) c.in-Err-parsed.ensures.fault in
    fault_told c.args.command text tokens (Grammar c.in-Err-parsed.fault)
    c.told_fault-in-Err-parsed.result c.requires.short has
    (grammar_first text tokens c.in-Err-parsed.fault c.requires.short has fault) (
      c.told_fault-in-Err-parsed.ensures.status,
      c.told_fault-in-Err-parsed.ensures.text,
      c.told_fault-in-Err-parsed.ensures.none,
    )
