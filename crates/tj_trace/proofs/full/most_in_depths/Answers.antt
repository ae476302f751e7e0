use Rattle.std.proofs.Common.{ap, ◌∙◌, sym, subst}
use Rattle.std.proofs.lemmas.Result.{IfOk-weaker}
use Rattle.std.specs.Prelude.{IfSome}
use denote.Param.Send.{sendable}
use Rattle.std.proofs.Crossing.{crosses}
use Rattle.tj_syntax.proofs.Sends.{expr_sync, stmt_sync, script_sync}
use Rattle.tj_trace.specs.Inner.TaskDepths.{AreAsInRound, IsFullDepth}
use Rattle.tj_trace.specs.Logs.{logged, logged_program}
use Rattle.tj_trace.specs.Inner.Quiet.{AreQuiet}
use Rattle.tj_trace.specs.MostMade.{IsMostMade}
use Rattle.tj_trace.specs.MostOf.{IsMostOf}
use Rattle.tj_trace.proofs.DepthTaken.{empty_map}
use Rattle.tj_trace.proofs.MostTold.{most_told, noted_program, notes_nothing, noting_fresh, to_noting}
use Rattle.tj_trace.proofs.Sends.{size_sync, sizes_sync}
use Rattle.tj_trace.proofs.full.most_in_depths.Goals as goal

-- a body with notes may cross threads
pub full_depth-requires-send-B : goal.full_depth-requires-send-B
full_depth-requires-send-B c κs =
    search (sendable, crosses, expr_sync, stmt_sync, script_sync, size_sync, sizes_sync) depth 80 fits 30000

-- a body with notes is as fresh as the one without
pub full_depth-requires-clause-root : goal.full_depth-requires-clause-root
full_depth-requires-clause-root c κs =
    noting_fresh c.args.strict c.args.root.now c.in_ok-noting.noting
    (c.in_ok-noting.ensures ∙ ap logged c.in_ok-twin.ensures) c.requires.root

-- the quiet declarations are so with notes
pub first_makers-requires-clause-quiet : goal.first_makers-requires-clause-quiet
first_makers-requires-clause-quiet c =
    to_noting c.args.strict c.args.root.now c.in_ok-noting.noting
    (c.in_ok-noting.ensures ∙ ap logged c.in_ok-twin.ensures) (λ p. AreQuiet p c.args.quiet.now) c.requires.quiet

pub first_makers-requires-clause-root : goal.first_makers-requires-clause-root
first_makers-requires-clause-root c =
    noting_fresh c.args.strict c.args.root.now c.in_ok-noting.noting
    (c.in_ok-noting.ensures ∙ ap logged c.in_ok-twin.ensures) c.requires.root

pub first_makers-requires-clause-notes_nothing : goal.first_makers-requires-clause-notes_nothing
first_makers-requires-clause-notes_nothing c =
    notes_nothing c.args.strict c.args.root.now c.in_ok-noting.noting
    (c.in_ok-noting.ensures ∙ ap logged c.in_ok-twin.ensures)

-- where no cell has an entry the tasks do what they do in the round
pub first_makers-requires-clause-round : goal.first_makers-requires-clause-round
first_makers-requires-clause-round c =
    let p = noted_program c.args.strict c.in_ok-noting.noting in
    let full = subst (λ o. IfSome o (IsFullDepth p c.args.cells)) c.in-Some.is c.in_ok-found.ensures in
    subst (AreAsInRound p c.in-Some.number) (sym (empty_map c.new-given.result c.new-given.ensures)) full.entries

pub returns : goal.returns
returns c =
    let p = noted_program c.args.strict c.in_ok-noting.noting in
    let full = subst (λ o. IfSome o (IsFullDepth p c.args.cells)) c.in-Some.is c.in_ok-found.ensures in
    IfOk-weaker c.most_of.result (λ o. IfSome o (IsMostOf c.as_slice.result.now))
    (λ o. IfSome o (IsMostMade (logged_program c.args.strict c.args.root.now) c.args.cells))
    (most_told c.args.strict c.args.root.now c.in_ok-noting.noting
    (c.in_ok-noting.ensures ∙ ap logged c.in_ok-twin.ensures) c.requires.root c.args.cells c.in-Some.number full.first
    full.entries.before full.entries.number_is c.in_ok-makers.makers.items c.in_ok-makers.ensures
    c.as_slice.result.now c.as_slice.ensures.value) c.most_of.ensures.some
