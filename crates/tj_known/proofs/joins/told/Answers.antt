use Rattle.std.proofs.Common.{◌+◌, ◌++◌, Bool, List, length, sym, ap, ◌∙◌, subst, take}
use Rattle.tj_known.specs.KnownLines.{AreTold, joins_in}
use Rattle.tj_known.specs.Inner.Marks.{marked_lines}
use Rattle.tj_known.specs.declared.learner.Learner.{Learner}
use Rattle.tj_known.proofs.WorkSteps.{line_marks, line_told}
use Rattle.tj_known.proofs.joins.told.Goals as goal

pub add_joins-requires : goal.add_joins-requires
add_joins-requires c = line_marks c.args.lines.now c.args.learners.now c.requires.lines c.requires.under_way
    c.requires.done c.loop-index.index c.index-lines-index.result c.index-learners-index.result c.loop-index-test.true
    c.index-lines-index.is c.index-learners-index.is
    ∙ sym (ap (λ (r : List Bool). length r)
    (c.as_slice.ensures.value ∙ sym (ap (λ (w : Learner). w.marks.items) c.index-learners-index.is)))

pub loop-index-preserved : goal.loop-index-preserved
loop-index-preserved c =
    let l = c.index-lines-index.result in
    subst (λ ks. AreTold c.args.lines.now (joins_in (take (c.loop-index.index + 1) c.args.lines.now)) ks)
    (sym (c.in_ok-add_joins.ensures
    ∙ ap (λ r. c.loop-index.list ++ marked_lines l.name l.acts r)
    (c.as_slice.ensures.value ∙ sym (ap (λ (w : Learner). w.marks.items) c.index-learners-index.is))))
    (line_told c.args.lines.now c.args.learners.now c.requires.lines c.requires.under_way c.requires.done
    c.loop-index.index c.index-lines-index.result c.index-learners-index.result c.loop-index-test.true
    c.index-lines-index.is c.index-learners-index.is c.loop-index.list c.loop-index.invariant)
