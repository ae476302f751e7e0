-- From line to line, by steps: each line leads to one, or to none.
use Rattle.std.specs.Prelude.{ℕ, zero, suc, Option, unwrap_or}
use Rattle.tj_trace.specs.declared.line.TraceLine.{TraceLine}

-- on from a line in 2 ^ k steps, or as far as the steps lead
abbrev pub onward : (TraceLine → Option TraceLine) → ℕ → TraceLine → TraceLine
onward f zero l = unwrap_or (f l) l
onward f (suc k) l = onward f k (onward f k l)
