use Rattle.std.proofs.Common.{inl, refl, arith, ◌+◌, length-set, Some, None, ◌∙◌, sym}
use Rattle.std.proofs.lemmas.List.{get_or_default}
use Rattle.tj_mean.proofs.Outcomes.LeastIndexes.{met_before, begun_more, kept_more, walk_goes_on, walk_stops}
use Rattle.tj_mean.proofs.least_indexes.walk.Goals as goal

pub returns-in-Some-2-clause-cycles : goal.returns-in-Some-2-clause-cycles
returns-in-Some-2-clause-cycles c m ps k h =
    let l = c.loop-step in let s = l.invariant.1 in let i = l.invariant.0 in
    let other = c.if-round-first.false in
    let is = sym (c.index.ensures ∙ get_or_default l.met.items l.at c.index.result.now None (omega arith))
    ∙ c.in-Some.is in
    inl (met_before c.args.next.now c.args.met.now.items c.args.first l.step l.at l.met.items l.invariant.2
    c.in-Some.round is other m ps k h)

pub returns-in-None-next-clause-first : goal.returns-in-None-next-clause-first
returns-in-None-next-clause-first c =
    let l = c.loop-step in let s = l.invariant.1 in let i = l.invariant.0 in
    begun_more c.args.next.now c.args.met.now.items c.args.first l.step l.at l.met.items l.invariant.2 _ refl
    (omega arith)

pub returns-in-None-next-clause-kept : goal.returns-in-None-next-clause-kept
returns-in-None-next-clause-kept c =
    let l = c.loop-step in let s = l.invariant.1 in let i = l.invariant.0 in
    kept_more c.args.next.now c.args.met.now.items c.args.first l.step l.at l.met.items l.invariant.2 _ refl
    (omega arith)

pub returns-in-None-next-clause-cycles : goal.returns-in-None-next-clause-cycles
returns-in-None-next-clause-cycles c m ps k h =
    let l = c.loop-step in let s = l.invariant.1 in let i = l.invariant.0 in
    inl (walk_stops c.args.next.now c.args.met.now.items c.args.first l.step l.at l.met.items l.invariant.2 _ refl
    (omega arith) c.in-None-next.is m ps k h)

pub loop-step-preserved : goal.loop-step-preserved
loop-step-preserved c =
    let l = c.loop-step in let s = l.invariant.1 in let i = l.invariant.0 in (
      c.requires.indexes l.at c.in-Some-next.owner c.in-Some-next.is,
      length-set l.met.items l.at (Some c.args.first) ∙ s,
      walk_goes_on c.args.next.now c.args.met.now.items c.args.first l.step l.at l.met.items l.invariant.2 _ refl
          (omega arith) c.in-Some-next.owner (l.step + 1) c.in-Some-next.is,
    )
