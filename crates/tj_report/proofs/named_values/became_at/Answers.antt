use Rattle.tj_report.proofs.Prelude.{ap, length, ◌∙◌}
use Rattle.tj_report.specs.Inner.CellNamesBy.{names_by}
use Rattle.tj_report.specs.Inner.NamedCells.{became_by}
use Rattle.tj_report.specs.declared.named_values.Became.TheVariants as became
use Rattle.tj_report.proofs.CellIndexes.{there}
use Rattle.tj_report.proofs.NamedValues.{below}
use Rattle.tj_report.proofs.named_values.became_at.Goals as goal

pub shown_at-requires-clause-below : goal.shown_at-requires-clause-below
shown_at-requires-clause-below g c κs within =
    below (length c.args.rest.now.cells) c.in-Some.fill c.in-Some.ensures.refers

pub returns-in_default : goal.returns-in_default
returns-in_default g c = let ns = names_by c.args.rest.now.cells in (
  c.cell.result,
  c.cell.ensures,
  c.without_value.ensures ∙ ap (λ f. became_by ns f c.cell.result.tag) c.in_default.ensures.value,
)

pub returns : goal.returns
returns g c = let ns = names_by c.args.rest.now.cells in
    let x = there c.args.rest.now.cells c.args.c.0 c.requires.there in (
      x.0,
      x.1,
      ap (λ v. became.Value v) c.in_ok-shown_at.ensures ∙ ap (λ f. became_by ns f x.0.tag) c.in-Some.ensures.value,
    )
