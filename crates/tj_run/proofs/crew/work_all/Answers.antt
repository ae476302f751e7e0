use Rattle.std.proofs.Common.{◌≡◌}
use Rattle.std.proofs.lemmas.List.Sorted.{All-permutation}
use Rattle.tj_run.proofs.crew.work_all.Goals as goal

pub work_more-requires-clause-pools : goal.work_more-requires-clause-pools
work_more-requires-clause-pools g c κs within =
    All-permutation (λ end. g.P.Pool.limit end ≡ c.args.laid.now.cells) c.args.ends.items c.reversed.result.items
    c.reversed.ensures.same c.requires.pools
