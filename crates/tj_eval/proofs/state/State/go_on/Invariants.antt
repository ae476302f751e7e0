use Rattle.std.proofs.Common.{◌≡◌}
use Rattle.tj_eval.specs.Statements as state
use Rattle.tj_eval.proofs.state.State.go_on.Given as goal

-- the ask from here is the ask from the start
abbrev pub invariant-loop-stmt : goal.invariant-loop-stmt
invariant-loop-stmt l = (state.next_ask l.self.steps l.self ≡ state.next_ask l.fn.self.steps l.fn.self)
    × (l.self.script ≡ l.fn.self.script)

abbrev pub decreases-loop-stmt : goal.decreases-loop-stmt
decreases-loop-stmt l = l.self.steps
