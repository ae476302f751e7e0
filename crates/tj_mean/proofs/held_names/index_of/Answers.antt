use Rattle.std.proofs.Common.{sym, ◌∙◌}
use Rattle.tj_mean.proofs.HeldNames.{without-here}
use Rattle.tj_mean.proofs.held_names.index_of.Goals as goal

pub returns-then-eq-clause-some : goal.returns-then-eq-clause-some
returns-then-eq-clause-some c = sym (c.loop-i.invariant.0
    ∙ without-here c.args.q.now c.args.names.now c.loop-i.i c.index-names-i.result c.loop-i-test.true c.index-names-i.is
    (sym c.eq.ensures ∙ c.if-eq.true))
