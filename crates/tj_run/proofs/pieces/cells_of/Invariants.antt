use Rattle.std.proofs.Common.{◌≡◌, map, take}
use Rattle.tj_record.specs.declared.record.Held.{Held}
use Rattle.tj_run.proofs.pieces.cells_of.Given as goal

abbrev pub invariant-loop-h : goal.invariant-loop-h
invariant-loop-h l = l.cells.items ≡ map (λ (h : Held). h.cell) (take l.h-index l.held)
