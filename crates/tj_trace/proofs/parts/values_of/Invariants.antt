use Rattle.std.proofs.Common.{◌≡◌, map, take}
use Rattle.tj_body.specs.History.{value_at}
use Rattle.tj_trace.proofs.parts.values_of.Given as goal

-- the values so far are told
abbrev pub invariant-loop-held : goal.invariant-loop-held
invariant-loop-held l = l.values.items ≡ map (value_at l.name l.references) (take l.held-index l.vars)
