use Rattle.std.proofs.Common.{◌≡◌, take}
use Rattle.std.specs.List.{flat_map}
use Rattle.tj_texts.specs.Inner.GroupViews as groups
use Rattle.tj_findings.specs.Scenes.{view}
use Rattle.tj_texts.specs.WhyTexts.{below_text}
use Rattle.tj_texts.proofs.why_lines.each_below.Given as goal

-- the groups so far
abbrev pub invariant-loop-group : goal.invariant-loop-group
invariant-loop-group l =
    l.text.items ≡ flat_map (λ g. below_text (view l.scene) l.all (groups.view g)) (take l.group-index l.groups)
