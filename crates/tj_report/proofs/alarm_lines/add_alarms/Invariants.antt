use Rattle.std.proofs.Common.{◌≡◌, ◌++◌, take}
use Rattle.std.specs.List.{flat_map}
use Rattle.tj_report.specs.Inner.RestAlarms.{alarm_by, link_in}
use Rattle.tj_report.proofs.alarm_lines.add_alarms.Given as goal

-- the lines so far
abbrev pub invariant-loop-cycle : goal.invariant-loop-cycle
invariant-loop-cycle g l = l.text.items ≡ l.initial.text.items
    ++ flat_map (alarm_by (link_in l.rest.cells l.rest.records l.order)) (take l.cycle-index l.cycle-items)
