use Rattle.std.proofs.Common.{◌≡◌, ◌∷◌, [], take}
use Rattle.std.specs.List.{flat_map}
use Rattle.tj_findings.specs.Scenes.{view}
use Rattle.tj_texts.specs.WhyTexts.{members_text}
use Rattle.tj_texts.proofs.why_lines.strays_text.Given as goal

-- the findings so far
abbrev pub invariant-loop-finding : goal.invariant-loop-finding
invariant-loop-finding l =
    l.text.items ≡ flat_map (λ f. members_text (view l.scene) l.all (f ∷ [])) (take l.finding-index l.findings)
