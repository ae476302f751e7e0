use Rattle.std.proofs.Common.{◌≡◌, map, take}
use Rattle.tj_trace.specs.Traces.{set_of}
use Rattle.tj_trace.proofs.parts.sets_of.Given as goal

-- the notes so far are told
abbrev pub invariant-loop-set : goal.invariant-loop-set
invariant-loop-set l = l.notes.items ≡ map (set_of l.name l.references) (take l.set-index l.sets)
