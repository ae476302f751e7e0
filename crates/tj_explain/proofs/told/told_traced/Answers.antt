use Rattle.std.proofs.Common.{◌≡◌, ap, map, ◌∙◌}
use Rattle.tj_command.specs.Statuses.{status_of}
use Rattle.tj_syntax.specs.PlacesOf as places
use Rattle.tj_syntax.specs.View as view
use Rattle.tj_faults.specs.Carets.{lines_of}
use Rattle.tj_explain.proofs.ToldInputs.{ended_told}
use Rattle.tj_findings.specs.Scenes.{statements_of, view_table}
use Rattle.tj_explain.proofs.told.told_traced.Goals as goal

-- the lines of a trace are in name order
pub why_text-requires : goal.why_text-requires
why_text-requires c = c.requires.2.in_name_order

pub returns : goal.returns
returns c =
    let table = view_table (map (λ d. map (λ q. q.now) d.items) c.as_slice.result.now) in
    let same = c.as_slice.ensures.value in
    let made = c.in_ok-statements.ensures in
    let listed : table ≡ statements_of (view.script c.args.script.now) = cc in
    let source = map (λ l. l.now) c.as_slice-2.result.now in
    let split : source ≡ lines_of c.args.text.now =
    ap (map (λ l. l.now)) c.as_slice-2.ensures.value ∙ c.in_ok-source.ensures in
    λ root fits is traced. ended_told c.args.command c.args.text.now (view.script c.args.script.now)
    c.args.tokens.now root c.args.outcome.now c.args.lines.now table source (places.view c.in_ok-places.places)
    c.status_of.result c.in_ok-why_text.field-0.items fits is traced listed split c.in_ok-places.ensures
    (c.status_of.ensures ∙ ap status_of c.marked.ensures) c.in_ok-why_text.ensures
