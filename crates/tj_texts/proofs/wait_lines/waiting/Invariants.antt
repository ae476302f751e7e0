use Rattle.std.proofs.Common.{◌≡◌, map, take}
use Rattle.tj_texts.proofs.wait_lines.waiting.Given as goal

-- the tasks so far
abbrev pub invariant-loop-wait : goal.invariant-loop-wait
invariant-loop-wait l = map (λ x. x.now) l.tasks.items ≡ map (λ w. w.now.task) (take l.wait-index l.waits)
