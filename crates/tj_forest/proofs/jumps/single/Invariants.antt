use Rattle.std.proofs.Common.{◌≡◌, None, get_or, unwrap_or}
use Rattle.tj_forest.specs.Inner.Jumps.{AreEach}
use Rattle.tj_forest.proofs.jumps.single.Given as goal

-- the jumps so far
abbrev pub invariant-loop-number : goal.invariant-loop-number
invariant-loop-number l =
    AreEach (λ n to. to ≡ unwrap_or (get_or l.steps n None) n) (λ n. n) l.number l.jumps.items
