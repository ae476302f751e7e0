use Rattle.std.proofs.Common.{◌∙◌, length, refl, subst, sym}
use Rattle.std.proofs.lemmas.Option.{slice_get_read}
use Rattle.std.specs.Cmp.Lexicographic.{same_text}
use Rattle.tj_mean.proofs.NotedActs.LineIndexes.{name_at}
use Rattle.tj_known.specs.Inner.Steps.{HasName}
use Rattle.tj_known.proofs.step.has_name.Goals as goal

pub returns-in-Some : goal.returns-in-Some
returns-in-Some c = λ equal.
    let found = c.in-Some.ensures.lookup in
    subst (λ t. HasName c.args.lines.now c.args.index t)
    (same_text c.in-Some.line.now.name c.args.name.now (sym equal ∙ c.eq.ensures))
    (name_at c.args.lines.now c.args.index c.in-Some.line.now
    (slice_get_read c.args.lines.now (length c.args.lines.now) c.args.index c.in-Some.line.now refl found.3.0 found.1))
