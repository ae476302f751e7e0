-- The sizes of a script's statements may be lent to threads.
use denote.Param.Send.{IsSync, sendable}
use Rattle.std.proofs.Crossing.{crosses}
use Rattle.tj_eval.specs.contracts.sizes.Size as size
use Rattle.tj_eval.specs.contracts.sizes.Sizes as sizes

pub size_sync : IsSync (size.the_field).row
size_sync = search (sendable, crosses) depth 40

pub sizes_sync : IsSync (sizes.the_field).row
sizes_sync = search (sendable, crosses, size_sync) depth 40
