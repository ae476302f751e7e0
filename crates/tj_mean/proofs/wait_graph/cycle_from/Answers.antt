use Rattle.std.proofs.Common.{◌≡◌, ◌≢◌, ◌+◌, ◌≤◌, suc, nat_eq, Some, None, sym, subst, ◌∙◌, arith}
use Rattle.std.specs.List.{All}
use Rattle.std.proofs.lemmas.Bool.Decides.{Decides-eqb}
use Rattle.tj_base.proofs.CycleWays.{way_closes, way_goes_on, way_stops, way_ends}
use Rattle.tj_mean.specs.WaitIndexes.{Next}
use Rattle.tj_mean.proofs.Lists.Elements.{some_is}
use Rattle.tj_mean.proofs.Outcomes.LeastCycles.{one, cycle_fits, first_on, reaches_greater, all_greater}
use Rattle.tj_mean.proofs.wait_graph.cycle_from.Goals as goal
use Rattle.tj_mean.proofs.wait_graph.cycle_from.Goals.{in_default-via-in-Some-2+else-owner-first-2}
use Rattle.tj_mean.proofs.wait_graph.cycle_from.Goals.{in_default-via-in_default}

pub returns-in-Some-clause-some : goal.returns-in-Some-clause-some
returns-in-Some-clause-some c =
    let i = c.loop-step.invariant in let next = c.args.next.now in let more = c.in_ok-push.ensures.items in record {
      cycle = way_closes (Next next) (one next) c.args.first c.loop-step.at c.loop-step.step c.loop-step.indexes.items
          i.way c.in-Some.owner c.in-Some.is c.push.new.self.items more nat_eq Decides-eqb c.if-owner-first.true;
      least = subst (All (λ p. c.args.first ≤ p)) (sym more)
          (all_greater c.args.first c.loop-step.indexes.items c.loop-step.at i.least i.later);
    }

pub returns-in_default-clause-none : goal.returns-in_default-clause-none
returns-in_default-clause-none c =
    let i = c.loop-step.invariant in let next = c.args.next.now in let first = c.args.first in
    elim c.in_default.branch [
      | in_default-via-in-Some-2+else-owner-first-2 w ↦ λ _ ps k.
          let tie = some_is w.in-Some.owner w.in-Some-2.owner (sym w.in-Some.is ∙ w.in-Some-2.is) in
          let other = w.if-owner-first.false in
          let less = w.if-owner-first-2.false in
          let r = reaches_greater next first ps k (suc c.loop-step.step) w.in-Some-2.owner
          (c.loop-step.at, i.way.reached, w.in-Some-2.is) in
          omega (arith, other)
      | in_default-via-in_default w ↦ λ _ ps k.
          way_stops (Next next) (one next) first c.loop-step.at c.loop-step.step c.loop-step.indexes.items i.way
          (λ b l. let z : None ≡ Some b = sym w.in_default.is ∙ l in absurd (cc)) (first_on next first ps k)
    ]

pub loop-step-preserved : goal.loop-step-preserved
loop-step-preserved c =
    let i = c.loop-step.invariant in let next = c.args.next.now in let first = c.args.first in
    let owner = c.in-Some-2.owner in
    let more = c.in_ok-push.ensures.items in
    let tie = some_is c.in-Some.owner owner (sym c.in-Some.is ∙ c.in-Some-2.is) in
    let greater = c.if-owner-first-2.true in
    let other : owner ≢ first = λ e. omega arith in
    let up : c.loop-step.step + 1 ≡ suc c.loop-step.step = omega arith in record {
      in_range = c.requires.indexes c.loop-step.at owner c.in-Some-2.is;
      way = way_goes_on (Next next) (one next) first c.loop-step.at c.loop-step.step c.loop-step.indexes.items i.way
          owner c.in-Some-2.is c.push.new.self.items more other (c.loop-step.step + 1) up;
      least = subst (All (λ p. first ≤ p)) (sym more)
          (all_greater first c.loop-step.indexes.items c.loop-step.at i.least i.later);
      later = omega arith;
    }

pub returns-clause-none : goal.returns-clause-none
returns-clause-none c =
    let i = c.loop-step.invariant in let next = c.args.next.now in let first = c.args.first in
    let ended = c.loop-step-test.false in
    λ _ ps k. way_ends (Next next) (one next) first c.loop-step.at c.loop-step.step c.loop-step.indexes.items i.way
    (λ n on. let f = cycle_fits next first n on in omega arith) (first_on next first ps k)
