use Rattle.std.proofs.Common.{[], ◌∷◌, ◌≡◌, ◌++◌, ◌∙◌, ap, rules, sym}
use Rattle.std.proofs.lemmas.Result.{IfOk-equal}
use Rattle.tj_base.specs.Texts.{name_text, part_text}
use Rattle.tj_known.proofs.NamePrefixes.{name_more}
use Rattle.tj_known.proofs.text.go_to.Goals as goal

pub returns-then-eq-2 : goal.returns-then-eq-2
returns-then-eq-2 c = let k = c.from.result in let maker = c.in-Some.maker.now in
    let old = c.args.text.now.items in
    let more : c.args.to.now ≡ maker ++ k ∷ [] = search rules in
    let same : c.args.from.now ≡ maker = search rules in
    IfOk-equal c.add_count.result c.add_count.new.text.items (old ++ part_text k) (name_text c.args.to.now)
    c.add_count.ensures (ap (λ t. t ++ part_text k) (c.requires ∙ ap name_text same)
    ∙ sym (name_more maker c.args.to.now k more))
