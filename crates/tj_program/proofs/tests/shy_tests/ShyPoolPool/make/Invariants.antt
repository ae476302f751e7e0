-- Each end that was made is wrapped, the last first.
use Rattle.std.specs.Prelude.{All}
use Rattle.std.proofs.Common.{◌≡◌, ℕ, ◌+◌, length}
use Rattle.tj_program.proofs.tests.shy_tests.ShyPoolPool.make.Given as goal

-- each is of a pool for so many cells
abbrev pub invariant-loop-end : goal.invariant-loop-end
invariant-loop-end g l = (length l.made.items + length l.ends.items ≡ l.fn.workers)
    × All (λ end. end.cells ≡ l.fn.cells) l.made.items × All (λ shy. shy.end.cells ≡ l.fn.cells) l.ends.items

abbrev pub decreases-loop-end : goal.decreases-loop-end
decreases-loop-end g l = length l.made.items
