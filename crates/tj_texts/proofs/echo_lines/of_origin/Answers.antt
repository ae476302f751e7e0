use Rattle.std.proofs.Common.{rules, tests, ◌∙◌}
use Rattle.std.proofs.lemmas.Iterator.{YieldsList-from_slice}
use Rattle.std.proofs.lemmas.Iterator.Search.{all_from_yields_List}
use Rattle.std.specs.Option.{option_map}
use Rattle.tj_findings.specs.Groups.{origin_told, same_name}
use Rattle.tj_texts.proofs.Refs.{list_all_map}
use Rattle.tj_texts.proofs.echo_lines.of_origin.Goals as goal

pub returns : goal.returns
returns c =
    all_from_yields_List
    (λ w. same_name (option_map (λ t. t.name) c.args.origin.now) (origin_told w.now)) _ _ c.all.result
    c.all.ensures.ran (YieldsList-from_slice c.args.findings.now cc) (λ x b q k. search (rules, tests))
    ∙ list_all_map (λ w. same_name (option_map (λ t. t.name) c.args.origin.now) (origin_told w)) (λ w. w.now)
    c.args.findings.now
