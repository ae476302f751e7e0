use Rattle.std.proofs.Common.{rules, tests, ◌∙◌}
use Rattle.std.proofs.lemmas.Iterator.{YieldsList-from_slice}
use Rattle.std.proofs.lemmas.Iterator.Search.{all_from_yields_List}
use Rattle.tj_findings.specs.Groups.{maker_told, same_maker}
use Rattle.tj_texts.proofs.Refs.{list_all_map}
use Rattle.tj_texts.proofs.failure_lines.of_maker.Goals as goal

pub returns : goal.returns
returns c =
    all_from_yields_List (λ w. same_maker c.args.maker (maker_told w.now)) _ _ c.all.result c.all.ensures.ran
    (YieldsList-from_slice c.args.findings.now cc) (λ x b q k. search (rules, tests))
    ∙ list_all_map (λ w. same_maker c.args.maker (maker_told w)) (λ w. w.now) c.args.findings.now
