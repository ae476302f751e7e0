-- Which line a step leads to from another.
use Rattle.std.specs.Prelude.{List, Option}
use Rattle.tj_trace.specs.declared.line.TraceLine.{TraceLine}
use Rattle.tj_findings.specs.Echoes.{back}
use Rattle.tj_findings.specs.Forests.{ahead}
use Rattle.tj_forest.specs.declared.chains.Way.{Way}
use Rattle.tj_forest.specs.declared.chains.Way.TheVariants as way

-- the line to which a step of this way leads
abbrev pub next : Way → List TraceLine → TraceLine → Option TraceLine
next way.Ahead = ahead
next way.Back = back
