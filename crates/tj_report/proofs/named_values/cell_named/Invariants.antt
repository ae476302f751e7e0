use Rattle.std.proofs.Common.{ℕ, ◌≢◌, ◌<◌}
use Rattle.tj_report.specs.Inner.CellNamesBy.{name_by}
use Rattle.tj_report.proofs.named_values.cell_named.Given as goal

-- no cell so far has the name
abbrev pub invariant-loop-c : goal.invariant-loop-c
invariant-loop-c g l = (c : ℕ) → c < l.c → name_by l.rest.cells c ≢ l.name
