use Rattle.std.proofs.Common.{[], ◌∷◌, ◌≡◌, ◌++◌, ◌∙◌, ap, rules}
use Rattle.std.proofs.lemmas.Result.{IfOk-equal}
use Rattle.tj_base.specs.Texts.{name_text, part_text}
use Rattle.tj_known.proofs.NamePrefixes.{name_more_behind}
use Rattle.tj_known.proofs.text.add_name.Goals as goal

pub returns-then-eq : goal.returns-then-eq
returns-then-eq c = let k = c.from.result in let maker = c.in-Some.maker.now in
    let before = c.args.text.now.items in let copied = c.extend_from_slice.new.self.items in
    let more : c.args.name.now ≡ maker ++ k ∷ [] = search rules in
    let same : c.args.last.now ≡ maker = search rules in
    let whole : copied ≡ before ++ name_text maker = c.in_ok-extend_from_slice.ensures.items
    ∙ ap (λ t. before ++ t) (c.requires ∙ ap name_text same) in
    IfOk-equal c.add_count.result c.add_count.new.text.items (copied ++ part_text k)
    (before ++ name_text c.args.name.now) c.add_count.ensures
    (ap (λ t. t ++ part_text k) whole ∙ name_more_behind before maker c.args.name.now k more)
