use Rattle.std.proofs.Common.{arith}
use Rattle.tj_chan.proofs.spawn.add_promises.Goals as goal

pub add_places-requires : goal.add_places-requires
add_places-requires c = let p = c.requires.placed in omega arith

pub overflow_add-row : goal.overflow_add-row
overflow_add-row c = let p = c.requires.placed in let s = c.requires.sent in omega arith

pub overflow_sub-row : goal.overflow_sub-row
overflow_sub-row c = let s = c.requires.sent in omega arith

pub add_places-requires-in-Unset : goal.add_places-requires-in-Unset
add_places-requires-in-Unset c = let p = c.requires.placed in let s = c.requires.sent in omega arith
