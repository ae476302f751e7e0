use Rattle.tj_report.proofs.Prelude.{arith, ◌<◌}
use Rattle.tj_report.proofs.NamedCells.{later_one, maker_left, some_left}
use Rattle.tj_report.proofs.NamesBy.{climbs, name_made}
use Rattle.tj_report.proofs.climbed_names.name_beside.Goals as goal

pub maker_of-common-requires : goal.maker_of-common-requires
maker_of-common-requires g c = let n = c.requires.named in let l = c.loop-at in let x = c.cell-beside in
    let less = c.if-at-beside.true in let later : 0 < l.beside = omega arith in
    some_left c.args.rest.now.cells n.0 n.1 l.beside x.result x.ensures later l.common.now l.invariant.3

pub loop-at-smaller-then-at-beside : goal.loop-at-smaller-then-at-beside
loop-at-smaller-then-at-beside g c = let n = c.requires.named in let l = c.loop-at in let x = c.cell-beside in
    let less = c.if-at-beside.true in let later : 0 < l.beside = omega arith in
    let low = (name_made c.args.rest.now.cells n.0 n.1 l.beside x.result x.ensures later).0 in
    omega arith

pub loop-at-preserved-then-at-beside : goal.loop-at-preserved-then-at-beside
loop-at-preserved-then-at-beside g c = let n = c.requires.named in let l = c.loop-at in let x = c.cell-beside in
    let less = c.if-at-beside.true in let later : 0 < l.beside = omega arith in
    let low = (name_made c.args.rest.now.cells n.0 n.1 l.beside x.result x.ensures later).0 in
    let there = l.invariant.1 in let m = c.maker_of-common in (
      l.invariant.0,
      omega arith,
      l.invariant.2,
      maker_left c.args.rest.now.cells n.0 n.1 l.beside x.result x.ensures later l.common.now m.result.now m.ensures.0
          l.invariant.3 m.ensures.1,
    )

pub loop-at-smaller : goal.loop-at-smaller
loop-at-smaller g c = let n = c.requires.named in let l = c.loop-at in let x = c.cell-cell in
    let later = later_one l.at l.beside c.loop-at-test.true c.if-at-beside.false in
    let low = (name_made c.args.rest.now.cells n.0 n.1 l.at x.result x.ensures later).0 in
    omega arith

pub loop-at-preserved : goal.loop-at-preserved
loop-at-preserved g c = let n = c.requires.named in let l = c.loop-at in let x = c.cell-cell in
    let later = later_one l.at l.beside c.loop-at-test.true c.if-at-beside.false in
    let low = (name_made c.args.rest.now.cells n.0 n.1 l.at x.result x.ensures later).0 in
    let there = l.invariant.0 in (
      omega arith,
      l.invariant.1,
      climbs c.args.rest.now.cells n.0 n.1 c.args.c.0 l.at x.result l.parts.items c.push.new.self.items x.ensures later
          l.invariant.2 c.in_ok-push.ensures.items,
      l.invariant.3,
    )
