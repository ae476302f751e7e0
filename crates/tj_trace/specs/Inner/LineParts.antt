-- The parts of a line that are made together.
use Rattle.std.specs.Prelude.{◌≡◌}
use Rattle.tj_trace.specs.declared.line.TraceLine.{TraceLine}
use Rattle.tj_trace.specs.declared.parts.Parts.{Parts}

-- these are parts of the line
abbrev pub IsOfLine : TraceLine → Parts → Type 0
IsOfLine l p = (p.sets ≡ l.sets) × ((p.hands ≡ l.hands) × ((p.began ≡ l.began) × (p.held ≡ l.held)))
