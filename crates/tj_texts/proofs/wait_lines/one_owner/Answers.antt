use Rattle.std.proofs.Common.{rules, tests, ◌∙◌}
use Rattle.std.proofs.lemmas.Iterator.{YieldsList-from_slice}
use Rattle.std.proofs.lemmas.Iterator.Search.{all_from_yields_List}
use Rattle.tj_findings.specs.Groups.{same_name}
use Rattle.tj_texts.proofs.Refs.{list_all_map}
use Rattle.tj_texts.proofs.wait_lines.one_owner.Goals as goal

pub returns : goal.returns
returns c =
    all_from_yields_List (λ w. same_name c.args.first.now.owner w.now.owner) _ _ c.all.result c.all.ensures.ran
    (YieldsList-from_slice c.args.waits.now cc) (λ x b q k. search (rules, tests))
    ∙ list_all_map (λ w. same_name c.args.first.now.owner w.owner) (λ w. w.now) c.args.waits.now
