-- All consequences.
use Rattle.std.proofs.Common.{ap, arith, map, ◌∙◌}
use Rattle.std.proofs.lemmas.List.{take_all}
use Rattle.tj_texts.proofs.Refs.{map_twice}
use Rattle.tj_findings.specs.Forests.{bare}
use Rattle.tj_findings.specs.Groups.{groups}
use Rattle.tj_texts.proofs.groups.leaf_groups.Goals as goal

pub returns : goal.returns
returns c =
    let l = c.loop-finding in
    let ended = c.loop-finding-test.false in
    l.invariant.0
    ∙ ap (λ z. groups c.args.all (map (λ f. bare f.now) z))
    (take_all l.finding-index c.args.findings.now (omega arith))
    ∙ ap (groups c.args.all) (map_twice bare (λ f. f.now) c.args.findings.now)
