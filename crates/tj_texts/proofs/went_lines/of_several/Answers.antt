use Rattle.std.proofs.Common.{rules, tests, ◌∙◌}
use Rattle.std.proofs.lemmas.Iterator.{YieldsList-from_slice}
use Rattle.std.proofs.lemmas.Iterator.Search.{all_from_yields_List}
use Rattle.tj_texts.proofs.Refs.{list_all_map}
use Rattle.tj_texts.proofs.went_lines.of_several.Goals as goal
use Rattle.tj_texts.specs.WentTexts.{alike_went}

pub returns : goal.returns
returns c =
    all_from_yields_List (λ w. alike_went c.args.went.now w.now.went) _ _ c.all.result c.all.ensures.ran
    (YieldsList-from_slice c.args.tasks.now cc) (λ x b q k. search (rules, tests))
    ∙ list_all_map (λ w. alike_went c.args.went.now w.went) (λ w. w.now) c.args.tasks.now
