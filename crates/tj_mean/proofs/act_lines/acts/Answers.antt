use Rattle.std.proofs.Common.{◌*◌, false, refl, sym, subst, arith}
use Rattle.tj_body.specs.Laws.{AreDistinct}
use Rattle.tj_body.specs.Programs.{program_of}
use Rattle.tj_body.specs.Rounds.{given}
use Rattle.tj_mean.specs.Acts.{AreActsOf}
use Rattle.tj_mean.specs.ActLines.{names_of}
use Rattle.tj_mean.specs.Inner.Assignments.{assignment_in}
use Rattle.tj_mean.proofs.NotedActs.MeantLines.{are_acts, lines_distinct}
use Rattle.tj_mean.proofs.act_lines.acts.Goals as goal

pub lines_of-requires-clause-round : goal.lines_of-requires-clause-round
lines_of-requires-clause-round g c κs within = c.in_ok-rest.ensures.entries.kept

pub lines_of-requires-clause-n : goal.lines_of-requires-clause-n
lines_of-requires-clause-n g c κs within = let few = c.requires.cells.1 in omega arith

pub in_name_order-requires : goal.in_name_order-requires
in_name_order-requires g c =
    let b = g.B.Body in
    let program = program_of b.places b.awaits b.left b.asks b.then false c.args.root.now in
    subst (λ lines. AreDistinct (names_of lines)) (sym c.in_ok-lines.ensures)
    (lines_distinct program (given program (2 * c.args.cells)) (2 * c.args.cells))

pub returns-clause-acts : goal.returns-clause-acts
returns-clause-acts g c =
    let b = g.B.Body in
    let program = program_of b.places b.awaits b.left b.asks b.then false c.args.root.now in
    let sorted = c.in_ok-in_name_order.ensures in
    subst (AreActsOf program c.args.cells) (sym c.of.ensures)
    (are_acts program c.args.cells (assignment_in c.in_ok-rest.rest.given) c.in_ok-lines.lines.items
    c.in_ok-in_name_order.field-0.items c.in_ok-rest.ensures.entries c.in_ok-lines.ensures sorted.same sorted.ascend)

pub returns-clause-lines : goal.returns-clause-lines
returns-clause-lines g c =
    c.acts_can_be_worked_off.ensures false c.args.root.now c.requires.root refl c.args.cells
    c.in_ok-rest.ensures.fits c.of.result (returns-clause-acts g c)
