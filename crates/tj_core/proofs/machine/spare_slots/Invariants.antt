use Rattle.std.proofs.Common.{◌≡◌, length}
use Rattle.tj_core.specs.Inner.Columns.{HaveRoom}
use Rattle.tj_core.proofs.machine.spare_slots.Given as goal

abbrev pub invariant-loop-i : goal.invariant-loop-i
invariant-loop-i l = record { so_far : length l.slots.items ≡ l._i; room : HaveRoom l.cells l.slots.items }
