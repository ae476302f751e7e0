use Rattle.std.proofs.Common.{◌≡◌, ◌++◌, ◌+◌, ◌-◌, map}
use Rattle.tj_findings.specs.Scenes.{view}
use Rattle.tj_texts.specs.WhyTexts.{members_from}
use Rattle.tj_texts.proofs.cycle_lines.members_from.Given as goal

-- the lines so far, and those of the members that are left, are those of all
abbrev pub invariant-loop-number : goal.invariant-loop-number
invariant-loop-number l =
    l.text.items
    ++ members_from (view l.scene) (map (λ f. f.now) l.cycles) l.number ((l.from + l.count) - l.number)
    ≡ members_from (view l.scene) (map (λ f. f.now) l.cycles) l.from l.count
