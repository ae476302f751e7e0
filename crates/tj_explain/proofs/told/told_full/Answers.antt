use Rattle.std.proofs.Common.{◌≡◌, ◌∙◌, ap, map, refl, subst}
use Rattle.std.specs.Prelude.{IfSome}
use Rattle.tj_command.specs.declared.status.Status.TheVariants.{Full}
use Rattle.tj_syntax.specs.PlacesOf as places
use Rattle.tj_syntax.specs.View as view
use Rattle.tj_trace.specs.Logs.{logged_program}
use Rattle.tj_trace.specs.MostMade.{IsMostMade}
use Rattle.tj_faults.specs.Carets.{lines_of}
use Rattle.tj_explain.proofs.ToldInputs.{full_told}
use Rattle.tj_findings.specs.Scenes.{statements_of, view_table}
use Rattle.tj_explain.proofs.told.told_full.Goals as goal

pub returns : goal.returns
returns c =
    let limits = c.args.command.limits in
    let made = subst (λ o. IfSome o (IsMostMade (logged_program limits.strict c.args.root.now) limits.cells))
    c.in-Some.is c.in_ok-found.ensures.some in
    let table = view_table (map (λ d. map (λ q. q.now) d.items) c.as_slice.result.now) in
    let same = c.as_slice.ensures.value in
    let given = c.in_ok-statements.ensures in
    let listed : table ≡ statements_of (view.script c.args.script.now) = cc in
    let source = map (λ l. l.now) c.as_slice-2.result.now in
    let split : source ≡ lines_of c.args.text.now =
    ap (map (λ l. l.now)) c.as_slice-2.ensures.value ∙ c.in_ok-source.ensures in
    full_told c.args.command c.args.text.now (view.script c.args.script.now) c.args.tokens.now c.args.root.now
    c.in-Some.most table source (places.view c.in_ok-places.places) Full c.in_ok-full_told.field-0.items c.requires.full
    made listed split c.in_ok-places.ensures refl c.in_ok-full_told.ensures
