use Rattle.tj_report.proofs.Prelude.{arith, name_by}
use Rattle.tj_report.proofs.ShownNames.{child_text}
use Rattle.tj_report.proofs.fork_walk.fork_after.Goals as goal

pub returns : goal.returns
returns g c =
    let shown = c.args.rest.now.cells in let k = c.in-Some.k in let n = c.in-Some.ensures in
    let more = c.if-k-kid.false in (
      k,
      omega (arith, more),
      record {
        there = n.0;
        printed = child_text (name_by shown c.args.t) (name_by shown c.args.next) k c.args.name.now.items
            c.add_parts.new.text.items c.requires.name c.in_ok-add_parts.ensures n.1;
        made = n.1;
      },
    )
