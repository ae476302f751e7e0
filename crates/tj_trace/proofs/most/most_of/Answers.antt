use Rattle.std.proofs.Common.{◌+◌, ◌∙◌, ap, get_or, sym, subst, take, arith}
use Rattle.tj_base.specs.declared.cell.Sort.TheVariants as sort
use Rattle.tj_trace.specs.declared.most.Most.{Most}
use Rattle.tj_trace.proofs.MostSeen.{IsAhead, all_seen, most_with, more_gets, more_stays, same_default}
use Rattle.tj_trace.proofs.most.most_of.Goals as goal
use Rattle.tj_trace.proofs.most.most_of.Goals.{then-is_ahead, else-is_ahead}

pub loop-maker-preserved : goal.loop-maker-preserved
loop-maker-preserved c =
    let makers = c.args.makers.now in
    let l = c.loop-maker in
    let n = l.maker-index in
    let m = get_or makers n (record { sort = sort.Task; decl = 0; at = 0 }) in
    let same = same_default makers n (record { sort = sort.Task; decl = 0; at = 0 }) m c.loop-maker-test.true in
    let next = c.counted-next.result in
    let next_is = c.counted-next.ensures ∙ ap (most_with m) (c.in_ok-counts.ensures m) in
    elim c.if-is_ahead.branch [
      | then-is_ahead w ↦ subst (λ z. IsAhead makers (take (n + 1) makers) z) (sym w.most-is)
          (more_gets makers n c.loop-maker-test.true l.most next l.invariant m same next_is
          (c.is_ahead.ensures.ahead w.if-is_ahead.true))
      | else-is_ahead w ↦ subst (λ z. IsAhead makers (take (n + 1) makers) z) (sym w.most-is)
          (more_stays makers n c.loop-maker-test.true l.most next l.invariant m same next_is
          (c.is_ahead.ensures.behind w.if-is_ahead.false))
    ]

pub returns-clause-some : goal.returns-clause-some
returns-clause-some c =
    let f = c.loop-maker-test.false in
    all_seen c.args.makers.now c.loop-maker.maker-index c.loop-maker.most (omega arith) c.loop-maker.invariant
