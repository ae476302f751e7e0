use Rattle.std.proofs.Common.{◌≡◌, map, take}
use Rattle.tj_faults.specs.Carets.{below}
use Rattle.tj_faults.proofs.caret.blanks.Given as goal

-- those below the bytes so far
abbrev pub invariant-loop-byte : goal.invariant-loop-byte
invariant-loop-byte l = l.text.items ≡ map below (take l.byte-index l.front)
