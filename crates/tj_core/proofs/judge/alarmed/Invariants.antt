use Rattle.std.proofs.Common.{◌≡◌, ◌++◌, take}
use Rattle.tj_core.specs.Checker.Core.{core_state}
use Rattle.tj_core.proofs.Journals.AlarmLines.{alarm_head, other_waits, numbers}
use Rattle.tj_core.proofs.judge.alarmed.Given as goal

abbrev pub invariant-loop-other : goal.invariant-loop-other
invariant-loop-other l =
    l.line.items ≡ alarm_head (core_state l.core).cells l.fn.t.0 l.loads
    ++ other_waits (core_state l.core).cells (numbers (take l.other-index l.others))
