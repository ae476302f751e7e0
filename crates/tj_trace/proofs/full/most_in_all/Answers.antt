use Rattle.std.proofs.Common.{◌≡◌, ℕ, suc, [], ap, ◌∙◌, subst}
use Rattle.std.proofs.lemmas.Result.{IfOk-weaker}
use Rattle.std.specs.Prelude.{IfNone, IfSome}
use denote.Param.Send.{sendable}
use Rattle.std.proofs.Crossing.{crosses}
use Rattle.tj_body.specs.Rounds.{IsFull, given}
use Rattle.tj_mean.specs.FirstFull.{IsFirstFull}
use Rattle.tj_mean.specs.Inner.Assignments.{assignment_in}
use Rattle.tj_syntax.proofs.Sends.{expr_sync, stmt_sync, script_sync}
use Rattle.tj_trace.specs.Logs.{logged, logged_program}
use Rattle.tj_trace.specs.Inner.Quiet.{AreQuiet}
use Rattle.tj_trace.specs.MostMade.{IsMostMade}
use Rattle.tj_trace.specs.MostOf.{IsMostOf}
use Rattle.tj_trace.proofs.DepthRounds.{as_in_round}
use Rattle.tj_trace.proofs.MostTold.{most_told, noted_program, notes_nothing, noting_fresh, of_root, some_told, to_noting}
use Rattle.tj_trace.proofs.Sends.{size_sync, sizes_sync}
use Rattle.tj_trace.proofs.full.most_in_all.Goals as goal

-- a body with notes may cross threads
pub first_full-requires-send-B : goal.first_full-requires-send-B
first_full-requires-send-B c κs =
    search (sendable, crosses, expr_sync, stmt_sync, script_sync, size_sync, sizes_sync) depth 80 fits 30000

-- a body with notes is as fresh as the one without
pub first_full-requires-clause-root : goal.first_full-requires-clause-root
first_full-requires-clause-root c κs =
    noting_fresh c.args.strict c.args.root.now c.in_ok-noting.noting
    (c.in_ok-noting.ensures ∙ ap logged c.in_ok-twin.ensures) c.requires.root

pub returns-in_default-clause-none : goal.returns-in_default-clause-none
returns-in_default-clause-none c =
    of_root c.args.strict c.args.root.now c.in_ok-noting.noting
    (c.in_ok-noting.ensures ∙ ap logged c.in_ok-twin.ensures) (λ p. ¬ IsFull p c.args.cells)
    (subst (λ o. IfNone o (¬ IsFull (noted_program c.args.strict c.in_ok-noting.noting) c.args.cells))
    c.in_default.is c.in_ok-found.ensures.none)

-- the quiet declarations are so with notes
pub first_makers-requires-clause-quiet : goal.first_makers-requires-clause-quiet
first_makers-requires-clause-quiet c =
    to_noting c.args.strict c.args.root.now c.in_ok-noting.noting
    (c.in_ok-noting.ensures ∙ ap logged c.in_ok-twin.ensures) (λ p. AreQuiet p c.args.quiet.now) c.requires.quiet

pub first_makers-requires-clause-root : goal.first_makers-requires-clause-root
first_makers-requires-clause-root c =
    noting_fresh c.args.strict c.args.root.now c.in_ok-noting.noting
    (c.in_ok-noting.ensures ∙ ap logged c.in_ok-twin.ensures) c.requires.root

pub first_makers-requires-clause-notes_nothing : goal.first_makers-requires-clause-notes_nothing
first_makers-requires-clause-notes_nothing c =
    notes_nothing c.args.strict c.args.root.now c.in_ok-noting.noting
    (c.in_ok-noting.ensures ∙ ap logged c.in_ok-twin.ensures)

pub first_makers-requires-clause-round : goal.first_makers-requires-clause-round
first_makers-requires-clause-round c =
    let p = noted_program c.args.strict c.in_ok-noting.noting in
    as_in_round p c.in-Some.round.number (assignment_in c.in-Some.round.given)
    (subst (λ o. IfSome o (λ r. (n : ℕ) × (r.number ≡ suc n) × (assignment_in r.given ≡ given p n))) c.in-Some.is
    c.in_ok-found.ensures.entries)

pub returns-clause-some : goal.returns-clause-some
returns-clause-some c =
    let p = noted_program c.args.strict c.in_ok-noting.noting in
    let full = subst (λ o. IfSome o (λ r. IsFirstFull p c.args.cells r.number)) c.in-Some.is
    c.in_ok-found.ensures.some in
    let after = subst (λ o. IfSome o (λ r. (n : ℕ) × (r.number ≡ suc n) × (assignment_in r.given ≡ given p n)))
    c.in-Some.is c.in_ok-found.ensures.entries in
    IfOk-weaker c.most_of.result (λ o. IfSome o (IsMostOf c.as_slice.result.now))
    (λ o. IfSome o (IsMostMade (logged_program c.args.strict c.args.root.now) c.args.cells))
    (most_told c.args.strict c.args.root.now c.in_ok-noting.noting
    (c.in_ok-noting.ensures ∙ ap logged c.in_ok-twin.ensures) c.requires.root c.args.cells c.in-Some.round.number full
    after.0 after.1 c.in_ok-makers.makers.items c.in_ok-makers.ensures c.as_slice.result.now c.as_slice.ensures.value)
    c.most_of.ensures.some

pub returns-clause-none : goal.returns-clause-none
returns-clause-none c =
    let p = noted_program c.args.strict c.in_ok-noting.noting in
    let full = subst (λ o. IfSome o (λ r. IsFirstFull p c.args.cells r.number)) c.in-Some.is
    c.in_ok-found.ensures.some in
    let after = subst (λ o. IfSome o (λ r. (n : ℕ) × (r.number ≡ suc n) × (assignment_in r.given ≡ given p n)))
    c.in-Some.is c.in_ok-found.ensures.entries in
    IfOk-weaker c.most_of.result (λ o. IfNone o (c.as_slice.result.now ≡ []))
    (λ o. IfNone o (¬ IsFull (logged_program c.args.strict c.args.root.now) c.args.cells))
    (some_told c.args.strict c.args.root.now c.in_ok-noting.noting
    (c.in_ok-noting.ensures ∙ ap logged c.in_ok-twin.ensures) c.requires.root c.args.cells c.in-Some.round.number full
    after.0 after.1 c.in_ok-makers.makers.items c.in_ok-makers.ensures c.as_slice.result.now c.as_slice.ensures.value
    c.requires.cells.0) c.most_of.ensures.none
