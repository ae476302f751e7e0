use Rattle.std.proofs.Common.{◌≡◌, map, drop}
use Rattle.std.specs.List.{list_all}
use Rattle.tj_body.specs.Names.{same}
use Rattle.tj_findings.specs.ReasonTexts.{reason_text}
use Rattle.tj_findings.specs.Scenes.{view}
use Rattle.tj_findings.proofs.reason_lines.is_told_of.Given as goal

-- this is told of each of the tasks if it is told of each of those that are left
abbrev pub invariant-loop-task : goal.invariant-loop-task
invariant-loop-task l = list_all (λ task. same l.told (reason_text (view l.scene) task l.cause)) (map (λ t. t.now) l.tasks)
    ≡ list_all (λ task. same l.told (reason_text (view l.scene) task l.cause))
    (map (λ t. t.now) (drop l.task-index l.tasks))
