use Rattle.std.proofs.Common.{◌≡◌, ◌+◌, ◌-◌, ◌<◌, suc, false, length, drop, map, ◌++◌}
use Rattle.tj_syntax.specs.Faults.{kinds_of}
use Rattle.tj_syntax.specs.PlacesOf.{statement_place}
use Rattle.tj_syntax.specs.Inner.Scan.{statements_from, brace_from}
use Rattle.tj_syntax.proofs.positions.task_places.Given as goal

abbrev pub invariant-scan : goal.invariant-scan
invariant-scan l = record {
  within : l.brace < length l.tokens;
  statements : l.statements.items
      ++ map (statement_place l.tokens) (statements_from l.fresh l.i (kinds_of (drop l.i l.tokens)))
      ≡ map (statement_place l.tokens) (statements_from false (suc l.at) (kinds_of (drop (l.at + 1) l.tokens)));
  braces : brace_from l.brace l.i (kinds_of (drop l.i l.tokens))
      ≡ brace_from l.at (suc l.at) (kinds_of (drop (l.at + 1) l.tokens));
}

abbrev pub decreases-scan : goal.decreases-scan
decreases-scan l = length l.tokens - l.i
