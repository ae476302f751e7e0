use Rattle.std.proofs.Common.{length, refl}
use Rattle.std.proofs.lemmas.Option.{slice_get_read}
use Rattle.tj_mean.proofs.Outcomes.OwnerMaps.{owners_more}
use Rattle.tj_mean.proofs.owners.owners_of.Goals as goal

pub loop-index-preserved : goal.loop-index-preserved
loop-index-preserved c =
    let ts = c.args.tasks.now in let i = c.loop-index.index in let t = c.index-tasks-index.result in
    owners_more ts i t c.loop-index.owners c.enter_task.new.owners
    (slice_get_read ts (length ts) i t refl c.loop-index-test.true c.index-tasks-index.is) c.loop-index.invariant
    c.in_ok-enter_task.ensures
