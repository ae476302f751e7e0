use Rattle.std.proofs.Common.{◌≡◌}
use Rattle.tj_eval.specs.Inner.Standing.{IsReady, shown}
use Rattle.tj_eval.specs.Statements as state
use Rattle.tj_eval.specs.Stands as stand
use Rattle.tj_eval.proofs.placed.Standing.go_on.Given as goal

-- the ask from here is the ask from the start, and stands where that stands
abbrev pub invariant-loop-stmt : goal.invariant-loop-stmt
invariant-loop-stmt l = let old = l.fn.self.body in let t = l.self.body in
    (state.next_ask t.steps t ≡ state.next_ask old.steps old)
    × (t.script ≡ old.script)
    × (stand.stand_ask t.steps t (shown l.self).stand ≡ stand.stand_ask old.steps old (shown l.fn.self).stand)
    × IsReady l.self
    × (l.self.home ≡ l.fn.self.home)

abbrev pub decreases-loop-stmt : goal.decreases-loop-stmt
decreases-loop-stmt l = l.self.body.steps
