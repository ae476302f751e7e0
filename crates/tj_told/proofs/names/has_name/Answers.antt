use Rattle.std.proofs.Common.{[], refl, sym, ◌++◌, ◌∙◌, ◌∷◌}
use Rattle.std.proofs.lemmas.List.{append-nil}
use Rattle.std.proofs.lemmas.Bool.{eq-eqb, eqb-true}
use Rattle.tj_told.proofs.Climbing.{climbs_first, climbs_on, left_on, looked, named_here, none_left, other_left}
use Rattle.tj_told.proofs.names.has_name.Goals as goal

pub loop-at-init : goal.loop-at-init
loop-at-init g c = (
  [],
  climbs_first c.args.laid.now.cells c.args.seat.now c.args.c.0 c.requires.cell c.requires.known,
  sym (append-nil c.args.name.now),
)

pub returns-in_default-clause-seat : goal.returns-in_default-clause-seat
returns-in_default-clause-seat g c = let l = c.loop-at in let m = c.maker_of-number in
    looked c.args.laid.now.cells l.at m.result.0.0 m.result.1 l.seat m.new.seat m.ensures.seat m.ensures.maker
    c.loop-at-test.true c.args.seat.now c.args.c.0 l.invariant.0 l.invariant.1

pub returns-in_default-clause-name : goal.returns-in_default-clause-name
returns-in_default-clause-name g c = let l = c.loop-at in let m = c.maker_of-number in (
  λ f. absurd (cc),
  λ knows. absurd (none_left c.args.laid.now.cells l.at m.result.0.0 m.result.1 l.seat m.new.seat m.ensures.seat
      m.ensures.maker c.loop-at-test.true c.args.seat.now c.args.c.0 l.invariant.0 l.invariant.1 c.args.name.now
      l.left.now l.invariant.2 c.in_default.ensures.none knows),
)

pub returns-then-last-number-clause-seat : goal.returns-then-last-number-clause-seat
returns-then-last-number-clause-seat g c = let l = c.loop-at in let m = c.maker_of-number in
    looked c.args.laid.now.cells l.at m.result.0.0 m.result.1 l.seat m.new.seat m.ensures.seat m.ensures.maker
    c.loop-at-test.true c.args.seat.now c.args.c.0 l.invariant.0 l.invariant.1

pub returns-then-last-number-clause-name : goal.returns-then-last-number-clause-name
returns-then-last-number-clause-name g c = let l = c.loop-at in let m = c.maker_of-number in (
  λ f. absurd (cc),
  λ knows. absurd (other_left c.args.laid.now.cells l.at m.result.0.0 m.result.1 l.seat m.new.seat m.ensures.seat
      m.ensures.maker c.loop-at-test.true c.args.seat.now c.args.c.0 l.invariant.0 l.invariant.1 c.args.name.now
      l.left.now c.in-Some.before.now c.in-Some.last l.invariant.2 c.in-Some.ensures.some c.if-last-number.true knows),
)

pub loop-at-preserved : goal.loop-at-preserved
loop-at-preserved g c = let l = c.loop-at in let m = c.maker_of-number in (
  l.invariant.0 ++ m.result.1 ∷ [],
  climbs_on c.args.laid.now.cells l.at m.result.0.0 m.result.1 l.seat m.new.seat m.ensures.seat m.ensures.maker
      c.loop-at-test.true c.args.seat.now c.args.c.0 l.invariant.0 l.invariant.1 (l.invariant.0 ++ m.result.1 ∷ []) refl,
  left_on c.args.laid.now.cells l.at m.result.0.0 m.result.1 l.seat m.new.seat m.ensures.seat m.ensures.maker
      c.loop-at-test.true c.args.seat.now c.args.c.0 l.invariant.0 l.invariant.1 c.args.name.now l.left.now
      c.in-Some.before.now c.in-Some.last l.invariant.2 c.in-Some.ensures.some c.if-last-number.false,
)

pub returns-clause-name : goal.returns-clause-name
returns-clause-name g c = let l = c.loop-at in
    let here = named_here c.args.laid.now.cells c.args.seat.now l.seat c.args.c.0 l.at l.invariant.0 l.invariant.1
    c.requires.seat.root c.loop-at-test.false c.args.name.now l.left.now l.invariant.2 in (
      λ t. here.0 (sym c.depth.ensures ∙ eqb-true c.depth.result 0 t),
      λ knows. eq-eqb c.depth.result 0 (c.depth.ensures ∙ here.1 knows),
    )
