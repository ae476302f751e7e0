use Rattle.tj_report.proofs.Prelude.{ap, ending_by, finished_by, length, name_in, some_is, sym, ◌++◌, ◌∙◌}
use Rattle.tj_mean.specs.declared.outcome.Ending.TheVariants as ending
use Rattle.tj_report.specs.Inner.CellNamesBy.{names_by}
use Rattle.tj_mean.specs.ReportTexts.{ending_text}
use Rattle.tj_report.proofs.AwaitedCells.{awaited_below, finish_below, stopped_not, wait_ending}
use Rattle.tj_report.proofs.record_lines.add_end.Goals as goal

pub add_finish-requires-clause-below : goal.add_finish-requires-clause-below
add_finish-requires-clause-below g c κs within =
    let r = c.args.r.now in
    finish_below (length c.args.rest.now.cells) r.finish r.answer r.held c.in-Some.finish
    (sym c.finish-ended.ensures ∙ c.in-Some.is) c.requires.below

pub returns-in-Some : goal.returns-in-Some
returns-in-Some g c e h =
    let r = c.args.r.now in let ns = names_by c.args.rest.now.cells in
    c.in_ok-add_finish.ensures
    ∙ ap (λ x. c.args.text.now.items ++ ending_text x)
    (some_is (finished_by ns c.in-Some.finish) e
    (sym (ap (λ f. ending_by ns f r.answer r.held) (sym c.finish-ended.ensures ∙ c.in-Some.is)) ∙ h))

pub add_cell-requires-clause-there : goal.add_cell-requires-clause-there
add_cell-requires-clause-there g c κs within =
    let r = c.args.r.now in
    awaited_below (length c.args.rest.now.cells) r.finish r.answer r.held c.in-Some-awaited.c c.requires.below
    (sym c.in-Some-awaited.ensures)

pub returns-in_ok-add_cell : goal.returns-in_ok-add_cell
returns-in_ok-add_cell g c e h =
    let r = c.args.r.now in let ns = names_by c.args.rest.now.cells in let d = c.in-Some-awaited.c in
    c.in_ok-add_cell.ensures
    ∙ ap (λ x. c.args.text.now.items ++ ending_text x)
    (some_is (ending.Waits (name_in ns d)) e
    (sym (wait_ending ns r.finish r.answer r.held d (sym c.in-Some-awaited.ensures)) ∙ h))

pub returns-in_default-awaited : goal.returns-in_default-awaited
returns-in_default-awaited g c e h =
    let r = c.args.r.now in
    absurd (stopped_not (length c.args.rest.now.cells) r.finish r.answer r.held c.requires.below
    (sym c.finish-ended.ensures ∙ c.in_default.is) (sym c.in_default-awaited.ensures))
